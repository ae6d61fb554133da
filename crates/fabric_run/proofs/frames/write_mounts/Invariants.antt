use Rattle.std.proofs.Common.{take}
use Rattle.std.specs.List.{flat_map}
use Rattle.byte_ports.specs.Sinks.{Whole}
use Rattle.fabric_run.specs.Frames.{mount_frames_text}
use Rattle.fabric_run.proofs.frames.write_mounts.Given as goal

abbrev pub invariant-loop-mount : goal.invariant-loop-mount
invariant-loop-mount g l = Whole (g.K.Sink.sink_view l.initial.out) (g.K.Sink.sink_view l.out) (flat_map mount_frames_text (take l.mount-index l.mounts))
