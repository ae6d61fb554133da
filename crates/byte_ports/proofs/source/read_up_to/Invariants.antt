use Rattle.std.proofs.Common.{◌≡◌, ◌+◌, ◌-◌, ◌≤◌, vec_len}
use Rattle.byte_ports.specs.Sources.{put_before}
use Rattle.byte_ports.proofs.source.read_up_to.Given as goal

abbrev pub decreases-loop-bytes : goal.decreases-loop-bytes
decreases-loop-bytes g l = l.limit + 1 - vec_len l.bytes

abbrev pub invariant-loop-bytes : goal.invariant-loop-bytes
invariant-loop-bytes g l = record {
  within : vec_len l.bytes ≤ l.limit + 1;
  buffer : vec_len l.buffer ≡ 65536;
  held : (g.S.Source.source_view l.initial.source).left ≡ put_before l.bytes.items (g.S.Source.source_view l.source).left;
  faults : (g.S.Source.source_view l.initial.source).faults ≤ (g.S.Source.source_view l.source).faults;
}
