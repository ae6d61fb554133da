-- The code of what a pass keeps, by which a proof tells two apart.
use Rattle.std.specs.Prelude.{◌≡◌, ◌⊎◌, ℕ, List, refl}
use Rattle.std.specs.Coded.{Coded, code_by, coded×, coded⊎, coded_ℕ, coded_list}
use base.Stored.{coded_unit}
use mathlib.Core.Logic.{inl, inr}
use Rattle.tree_revision.specs.Records.{PlainRecord}
use Rattle.tree_revision.specs.CodedRecords.{coded_record}
use Rattle.commit_spine.specs.declared.mark.SpineMark.{SpineMark}
use Rattle.commit_spine.specs.contracts.mark.SpineMark as mark
use Rattle.commit_spine.specs.Passes.{Turn, no_turn, look_turn, offer_turn, KeptByPass}

abbrev TurnParts : Type 0
TurnParts = Unit {0} ⊎ (List PlainRecord ⊎ List PlainRecord)

abbrev parts_of_turn : Turn → TurnParts
parts_of_turn no_turn = inl tt
parts_of_turn (look_turn history) = inr (inl history)
parts_of_turn (offer_turn history) = inr (inr history)

abbrev turn_of_parts : TurnParts → Turn
turn_of_parts (inl _) = no_turn
turn_of_parts (inr (inl history)) = look_turn history
turn_of_parts (inr (inr history)) = offer_turn history

pub turn_again : (turn : Turn) → turn_of_parts (parts_of_turn turn) ≡ turn
turn_again no_turn = refl
turn_again (look_turn history) = refl
turn_again (offer_turn history) = refl

abbrev pub coded_turn : Coded Turn
coded_turn =
    code_by TurnParts (coded⊎ coded_unit (coded⊎ (coded_list coded_record) (coded_list coded_record)))
    parts_of_turn turn_of_parts turn_again

abbrev Counts : Type 0
Counts = ℕ × (ℕ × (ℕ × (ℕ × (ℕ × ℕ))))

abbrev coded_counts : Coded Counts
coded_counts = coded× coded_ℕ (coded× coded_ℕ (coded× coded_ℕ (coded× coded_ℕ (coded× coded_ℕ coded_ℕ))))

abbrev Lists : Type 0
Lists = List PlainRecord × (List PlainRecord × List (ℕ × PlainRecord))

abbrev coded_lists : Coded Lists
coded_lists = coded× (coded_list coded_record) (coded× (coded_list coded_record) (coded_list (coded× coded_ℕ coded_record)))

pub coded_kept_by_pass : Coded KeptByPass
coded_kept_by_pass =
    code_by (SpineMark × (Lists × (Counts × Turn))) (coded× (mark.the_row).coded (coded× coded_lists (coded× coded_counts coded_turn)))
    (λ k. (k.mark, ((k.seen, (k.joined, k.own)), ((k.permits, (k.floor, (k.busy, (k.looks, (k.loads, k.shares))))), k.turn))))
    (λ p. record {
      mark = p.0;
      seen = p.1.0.0;
      joined = p.1.0.1.0;
      own = p.1.0.1.1;
      permits = p.1.1.0.0;
      floor = p.1.1.0.1.0;
      busy = p.1.1.0.1.1.0;
      looks = p.1.1.0.1.1.1.0;
      loads = p.1.1.0.1.1.1.1.0;
      shares = p.1.1.0.1.1.1.1.1;
      turn = p.1.1.1;
    }) (λ _. refl)
