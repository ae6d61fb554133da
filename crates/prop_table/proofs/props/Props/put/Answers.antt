use Rattle.std.proofs.Common.{◌≡◌, ◌∙◌, FitsSigned, rules, to_z, of_z, w64, ap, is_some, slice_set}
use Rattle.std.proofs.lemmas.Int.{to_z-of_z}
use Rattle.prop_table.specs.Slots.{number_if, number_or_zero}
use Rattle.prop_table.proofs.Joined.{zipped-put, AreZipped-put, AreZipped-count}
use Rattle.prop_table.proofs.Slots.{number_back}
use Rattle.prop_table.proofs.props.Props.put.Goals as goal

pub invariant_of-self : goal.invariant_of-self
invariant_of-self g c =
    let fits : FitsSigned w64 c.unwrap_or.result = search rules in
    let number : to_z w64 (of_z w64 c.unwrap_or.result) ≡ number_or_zero c.args.value = to_z-of_z w64 c.unwrap_or.result fits ∙ c.unwrap_or.ensures in
    rw (number, c.is_some.ensures)
    (AreZipped-put number_if is_some number_or_zero g.row.N c.self.inside.given c.self.inside.numbers c.args.row c.args.value (number_back c.args.value) c.self.invariant)

pub returns-clause-value : goal.returns-clause-value
returns-clause-value g c =
    let fits : FitsSigned w64 c.unwrap_or.result = search rules in
    let number : to_z w64 (of_z w64 c.unwrap_or.result) ≡ number_or_zero c.args.value = to_z-of_z w64 c.unwrap_or.result fits ∙ c.unwrap_or.ensures in
    rw (number, c.is_some.ensures)
    (zipped-put number_if is_some number_or_zero g.row.N c.self.inside.given c.self.inside.numbers c.args.row c.args.value (number_back c.args.value) c.self.invariant
    ∙ ap (λ props. slice_set props c.args.row c.args.value) c.self.view_is)

pub returns-clause-count : goal.returns-clause-count
returns-clause-count g c =
    let fits : FitsSigned w64 c.unwrap_or.result = search rules in
    let number : to_z w64 (of_z w64 c.unwrap_or.result) ≡ number_or_zero c.args.value = to_z-of_z w64 c.unwrap_or.result fits ∙ c.unwrap_or.ensures in
    rw (number, c.is_some.ensures)
    (AreZipped-count number_if is_some number_or_zero g.row.N _ _
    (AreZipped-put number_if is_some number_or_zero g.row.N c.self.inside.given c.self.inside.numbers c.args.row c.args.value (number_back c.args.value) c.self.invariant))
