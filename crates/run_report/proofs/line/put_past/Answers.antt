use Rattle.std.proofs.Common.{◌∙◌}
use Rattle.run_report.proofs.HeldBack.{put_through}
use Rattle.run_report.proofs.line.put_past.Goals as goal

pub returns-in-Err : goal.returns-in-Err
returns-in-Err g c =
    put_through _ _ _ _ _ _ _ ((λ i. (c.in-Err.ensures.err i).items) ∙ c.clear.ensures)
    (rw c.as_slice.ensures.value at c.in_ok-write_whole.ensures) c.write_whole-in-Err.ensures
