use Rattle.std.proofs.Common.{◌≡◌, ◌∙◌, ◌<◌, length, ap, sym, arith}
use Rattle.std.proofs.lemmas.Grind.{common_steps}
use Rattle.prop_table.specs.Edits.{merged, with_edit}
use Rattle.prop_table.specs.Rules.{rules_of}
use Rattle.prop_table.proofs.Merging.{merged-empty, merged-step, AreInRows-merged}
use Rattle.prop_table.proofs.table.PropTable.merge.Goals as goal

pub loop-row-init : goal.loop-row-init
loop-row-init g c = sym (merged-empty c.args.props.now)

pub loop-row-preserved : goal.loop-row-preserved
loop-row-preserved g c =
    let within : c.loop-row.row < length c.args.edit.now = omega arith in
    c.follow.ensures ∙ ap (λ props. with_edit props c.loop-row.row c.get.result) c.loop-row.invariant
    ∙ merged-step c.args.props.now c.args.edit.now c.loop-row.row c.get.result within c.get.ensures

pub returns-clause-rows : goal.returns-clause-rows
returns-clause-rows g c = λ a e.
    let same : c.loop-row.after ≡ merged c.args.props.now c.args.edit.now = grind (arith, common_steps) in
    rw same (AreInRows-merged (rules_of c.args.self.now) c.args.props.now c.args.edit.now a e)
