use Rattle.std.proofs.Common.{take}
use Rattle.std.specs.List.{flat_map}
use Rattle.byte_ports.specs.Sinks.{Whole}
use Rattle.fabric_run.specs.Frames.{surface_frames_text}
use Rattle.fabric_run.proofs.frames.write_surfaces.Given as goal

abbrev pub invariant-loop-surface : goal.invariant-loop-surface
invariant-loop-surface g l = Whole (g.K.Sink.sink_view l.initial.out) (g.K.Sink.sink_view l.out) (flat_map surface_frames_text (take l.surface-index l.surfaces))
