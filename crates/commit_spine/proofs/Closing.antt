-- What the table of a spine gives back at the end.
use Rattle.std.proofs.Common.{◌≡◌, ℕ, ◌<◌, List, ap, sym, ◌∙◌, subst}
use mathlib.Core.Option as maybe
use lib.ListN.{get_elem?}
use Rattle.atomic_table.specs.Table.{Final, Seen}
use Rattle.commit_spine.specs.declared.mark.SpineMark.{SpineMark}
use Rattle.commit_spine.specs.Passes.{KeptByPass, no_turn}
use Rattle.commit_spine.specs.Stores.{Slot}
use Rattle.commit_spine.specs.SpineRule.{SpineHolds}
use Rattle.commit_spine.specs.StepTells.{IsEndOf}
use Rattle.commit_spine.proofs.SplitsAndJoins.{ends}

-- the end of a spine, from the slot that its table gives back
pub ends_with : (mark : SpineMark) (seat : ℕ) (kept : KeptByPass) (words : List ℕ) (slots : List Slot) (slot : Slot) → kept.turn ≡ no_turn → 0 < kept.shares → kept.shares ≡ kept.mark.seats
    → Final (Seen (SpineHolds mark) seat kept) words slots → get_elem? slots 0 ≡ maybe.some slot → IsEndOf kept slot
ends_with mark seat kept words slots slot rests some all final at =
    let end = ends mark seat kept words slots rests some (λ same. all ∙ ap (λ (m : SpineMark). m.seats) same) final in
    let same : end.0 ≡ slot = maybe.some-injective end.0 slot (sym end.1 ∙ at) in
    subst (IsEndOf kept) same end.2
