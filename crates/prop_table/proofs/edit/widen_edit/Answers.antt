use Rattle.std.proofs.Common.{◌≡◌, ◌∙◌, ◌<◌, length, None, ap, add-one, slice_set, replicate, arith}
use Rattle.std.proofs.lemmas.Grind.{common_steps}
use Rattle.prop_table.specs.Edits.{widened_edit}
use Rattle.prop_table.proofs.Widening.{copied-more, AreEditsInRows-widened}
use Rattle.prop_table.proofs.edit.widen_edit.Goals as goal

pub loop-row-preserved : goal.loop-row-preserved
loop-row-preserved c =
    let within : c.loop-row.row < length c.args.edit.now = omega arith in
    let below : c.loop-row.row < 22 = omega arith in
    rw add-one
    (c.put.ensures.value ∙ ap (λ w. slice_set w c.loop-row.row c.get.result) c.loop-row.invariant
    ∙ copied-more c.args.edit.now (replicate 22 None) c.loop-row.row c.get.result None within below c.get.ensures)

pub returns-clause-rows : goal.returns-clause-rows
returns-clause-rows c = λ a.
    let same : c.loop-row.wide ≡ widened_edit c.args.edit.now = grind (arith, common_steps) in
    rw same (AreEditsInRows-widened c.args.edit.now a)
