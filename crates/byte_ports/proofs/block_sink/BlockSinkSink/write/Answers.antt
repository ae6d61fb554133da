use Rattle.std.proofs.Common.{◌≡◌, ◌≤◌, ◌++◌, [], take, drop, arith, ap, ◌∙◌, rules}
use Rattle.std.proofs.lemmas.List.{drop-append-le}
use Rattle.byte_ports.specs.Sinks.{Whole}
use Rattle.byte_ports.specs.BlockSinks.{block_view_of}
use Rattle.byte_ports.proofs.Joined.{whole_none}
use Rattle.byte_ports.proofs.Blocks.{flushed, put_in}
use Rattle.byte_ports.proofs.block_sink.BlockSinkSink.write.Goals as goal
use Rattle.byte_ports.proofs.block_sink.BlockSinkSink.write.Goals.{then-len-self+in_ok-flush, else-len-self}

pub returns : goal.returns
returns g c =
    let mid = c.if-len-self.self in
    let room = ap (λ s. s.room) c.self.view_is in
    let free = ap (λ s. s.free) c.self.view_is in
    let free_now = ap (λ s. s.free) c.self-2.view_is in
    let ready : Whole (block_view_of c.args.self.now) (block_view_of mid) [] × (1 ≤ mid.free) = elim c.if-len-self.branch [
      | then-len-self+in_ok-flush w ↦ rw w.self-is (flushed c.args.self.now w.flush.new.self w.in_ok-flush.ensures, omega (arith, room, w.in_ok-flush.ensures.free, w.in_ok-flush.ensures.room))
      | else-len-self w ↦ rw w.self-is (whole_none (block_view_of c.args.self.now), omega (arith, free))
    ] in
    let put : c.extend_from_slice.new.self.items ≡ c.self-2.inside.block.items ++ take c.min-count.result c.args.piece.now = search rules in
    let held : drop c.self-2.inside.done c.extend_from_slice.new.self.items ≡ mid.held ++ take c.min-count.result c.args.piece.now =
    ap (drop c.self-2.inside.done) put ∙ drop-append-le c.self-2.inside.done _ _ (omega arith) ∙ ap (λ l. l ++ take c.min-count.result c.args.piece.now) (ap (λ s. s.held) c.self-2.view_is) in
    put_in c.args.self.now mid (record mid { below = g.K.Sink.sink_view c.self-2.inside.below; held = drop c.self-2.inside.done c.extend_from_slice.new.self.items }) c.args.piece.now c.min-count.result ready.0 (omega (arith, ready.1, free_now)) (omega arith) (ap (λ s. s.below) c.self-2.view_is) held
