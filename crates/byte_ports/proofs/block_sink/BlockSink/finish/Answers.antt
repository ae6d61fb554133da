use Rattle.std.proofs.Common.{ap}
use Rattle.byte_ports.proofs.Blocks.{stopped, ended}
use Rattle.byte_ports.proofs.block_sink.BlockSink.finish.Goals as goal
use Rattle.byte_ports.proofs.block_sink.BlockSink.finish.Goals.{in-Ok, in-Err}

pub returns : goal.returns
returns g c =
    let left = ap (λ s. s.below) c.self.view_is in
    elim c.match-written.branch [
      | in-Ok w ↦ rw (left, w.self-is, w.ended-is, w.in-Ok.is) (ended c.args.self w.flush-ended.new.self w.flush-ended.result w.flush-ended.ensures)
      | in-Err w ↦ rw (left, w.self-is, w.ended-is, w.in-Err.is) (stopped c.args.self w.in-Err.failed)
    ]
