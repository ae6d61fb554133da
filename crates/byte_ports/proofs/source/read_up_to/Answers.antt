use Rattle.std.proofs.Common.{ℕ, arith, ap, length, length-append}
use Rattle.std.proofs.lemmas.List.{length-take}
use Rattle.std.proofs.lemmas.Result.{err_from_is_err_and}
use Rattle.byte_ports.proofs.Taking.{piece_kept, took_whole, took_beyond, took_refused}
use Rattle.byte_ports.proofs.source.read_up_to.Goals as goal

pub returns-in_err-read_piece : goal.returns-in_err-read_piece
returns-in_err-read_piece g c =
    let p = err_from_is_err_and c.from_residual.result c.from_residual.ensures.1 in
    rw (p.1, p.2)
    (took_refused _ _ _ _ c.read_piece.new.bytes.items c.args.limit _ _ c.loop-bytes.invariant.held c.loop-bytes.invariant.faults (omega (arith, length-take {A = ℕ})) c.in_err-read_piece.ensures)

pub returns-then-branch-eq0 : goal.returns-then-branch-eq0
returns-then-branch-eq0 g c =
    took_whole _ _ _ _ _ c.args.limit _ _ c.loop-bytes.invariant.held c.loop-bytes.invariant.faults (omega arith) c.in_ok-read_piece.ensures c.if-branch-eq0.true

pub loop-bytes-preserved : goal.loop-bytes-preserved
loop-bytes-preserved g c = record {
  within = (let k = c.in_ok-read_piece.ensures in omega (arith, k.within, ap length k.grown, length-append c.loop-bytes.bytes.items k.piece, length-take {A = ℕ}));
  buffer = omega arith;
  held = piece_kept _ _ _ _ _ _ _ c.loop-bytes.invariant.held c.in_ok-read_piece.ensures;
  faults = omega (arith, c.in_ok-read_piece.ensures.faults);
}

pub returns : goal.returns
returns g c = took_beyond _ _ _ c.args.limit c.loop-bytes.invariant.held c.loop-bytes.invariant.faults (omega arith)
