use Rattle.std.proofs.Common.{rules}
use Rattle.std.proofs.lemmas.Result.{err_from_is_err_and}
use Rattle.run_report.specs.TextParts.{hex_pair}
use Rattle.run_report.proofs.HeldBack.{held_each, fault_each}
use Rattle.run_report.proofs.views.put_hex.Goals as goal

pub returns-in_err-put_byte : goal.returns-in_err-put_byte
returns-in_err-put_byte g c =
    let p = err_from_is_err_and c.from_residual.result c.from_residual.ensures.1 in
    rw p.1 (fault_each hex_pair _ _ _ _ _ c.args.bytes.now c.loop-byte.byte-index _ (search rules) c.loop-byte.invariant c.in_err-put_byte.ensures)

pub loop-byte-preserved : goal.loop-byte-preserved
loop-byte-preserved g c =
    held_each hex_pair _ _ _ _ _ _ c.args.bytes.now c.loop-byte.byte-index _ (search rules) c.loop-byte.invariant c.in_ok-put_byte.ensures
