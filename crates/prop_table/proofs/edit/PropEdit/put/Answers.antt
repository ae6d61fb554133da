use Rattle.std.proofs.Common.{◌≡◌, ◌∙◌, FitsSigned, rules, to_z, of_z, w64, ap, slice_set}
use Rattle.std.proofs.lemmas.Int.{to_z-of_z}
use Rattle.prop_table.specs.Marks.{named_if, mark_of, number_of}
use Rattle.prop_table.proofs.Joined.{zipped-put, AreZipped-put, AreZipped-count}
use Rattle.prop_table.proofs.Slots.{named_back}
use Rattle.prop_table.proofs.edit.PropEdit.put.Goals as goal

pub invariant_of-self : goal.invariant_of-self
invariant_of-self g c =
    let fits : FitsSigned w64 c.number.result = search rules in
    let number : to_z w64 (of_z w64 c.number.result) ≡ number_of c.args.named = to_z-of_z w64 c.number.result fits ∙ c.number.ensures in
    rw (number, c.mark.ensures)
    (AreZipped-put named_if mark_of number_of g.row.N c.self.inside.marks c.self.inside.numbers c.args.row c.args.named (named_back c.args.named) c.self.invariant)

pub returns-clause-value : goal.returns-clause-value
returns-clause-value g c =
    let fits : FitsSigned w64 c.number.result = search rules in
    let number : to_z w64 (of_z w64 c.number.result) ≡ number_of c.args.named = to_z-of_z w64 c.number.result fits ∙ c.number.ensures in
    rw (number, c.mark.ensures)
    (zipped-put named_if mark_of number_of g.row.N c.self.inside.marks c.self.inside.numbers c.args.row c.args.named (named_back c.args.named) c.self.invariant
    ∙ ap (λ edit. slice_set edit c.args.row c.args.named) c.self.view_is)

pub returns-clause-count : goal.returns-clause-count
returns-clause-count g c =
    let fits : FitsSigned w64 c.number.result = search rules in
    let number : to_z w64 (of_z w64 c.number.result) ≡ number_of c.args.named = to_z-of_z w64 c.number.result fits ∙ c.number.ensures in
    rw (number, c.mark.ensures)
    (AreZipped-count named_if mark_of number_of g.row.N _ _
    (AreZipped-put named_if mark_of number_of g.row.N c.self.inside.marks c.self.inside.numbers c.args.row c.args.named (named_back c.args.named) c.self.invariant))
