use Rattle.std.proofs.Common.{◌≡◌, ◌∙◌, ◌<◌, length, None, ap, add-one, slice_set, arith}
use Rattle.std.proofs.lemmas.Grind.{common_steps}
use Rattle.prop_table.specs.Table.{v2_rules, start_of}
use Rattle.prop_table.specs.Widened.{widened}
use Rattle.prop_table.proofs.Widening.{copied-more, AreNodeProps-widened}
use Rattle.prop_table.proofs.edit.widen.Goals as goal

pub loop-row-preserved : goal.loop-row-preserved
loop-row-preserved c =
    let within : c.loop-row.row < length c.args.props.now = omega arith in
    let below : c.loop-row.row < 22 = omega arith in
    rw add-one
    (c.put.ensures.value ∙ ap (λ w. slice_set w c.loop-row.row c.get.result) c.loop-row.invariant
    ∙ copied-more c.args.props.now (start_of v2_rules) c.loop-row.row c.get.result None within below c.get.ensures)

pub returns-clause-rows : goal.returns-clause-rows
returns-clause-rows c = λ a.
    let same : c.loop-row.wide ≡ widened c.args.props.now = grind (arith, common_steps) in
    rw same (AreNodeProps-widened c.args.props.now a)
