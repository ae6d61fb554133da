-- The rule of a spine, which holds between any two steps: one history for all passes.
use Rattle.std.specs.Prelude.{◌≡◌, ◌≢◌, ℕ, ◌+◌, ◌-◌, ◌^◌, ◌<◌, ◌≤◌, List, [], ◌∷◌, length, slice_get, Option, Some, None}
use Rattle.std.specs.List.{sum_by}
use mathlib.Core.Option as maybe
use lib.ListN.{get_elem?}
use Rattle.atomic_table.specs.Table.{State}
use Rattle.tree_revision.specs.Records.{PlainRecord}
use Rattle.tree_revision.specs.Lawful.{IsLawful}
use Rattle.tree_revision.specs.Ports.{BeginsWith}
use Rattle.commit_spine.specs.declared.mark.SpineMark.{SpineMark}
use Rattle.commit_spine.specs.Passes.{Turn, no_turn, look_turn, offer_turn, KeptByPass, times_own}
use Rattle.commit_spine.specs.Stores.{Slot, HasStoreOf}

-- the words, the slots that are not in hand, and what each pass keeps
abbrev pub SpineState : Type 0
SpineState = State Slot KeptByPass

-- what the turn adds to the word: one where some seat has it
abbrev pub turn_bit : (holder : Option ℕ) → ℕ
turn_bit None = 0
turn_bit (Some seat) = 1

-- the word of a history: twice its number, and one more where a seat has the turn
abbrev pub spine_word : List PlainRecord → (holder : Option ℕ) → ℕ
spine_word history holder = length history + length history + turn_bit holder

-- who has the turn is one of so many seats
abbrev pub IsSeat : (holder : Option ℕ) → (count : ℕ) → Type 0
IsSeat None count = Unit {0}
IsSeat (Some seat) count = seat < count

-- where the turn is free the slot has the store of the history; else its holder has that
abbrev pub HasHome : SpineMark → List (maybe.Option Slot) → List PlainRecord → Option ℕ → Type 0
HasHome mark homes history None =
    (slot : Slot) × (homes ≡ maybe.some slot ∷ []) × HasStoreOf mark slot history
HasHome mark homes history (Some seat) = homes ≡ maybe.none ∷ []

-- a seat's pass has the turn exactly where that seat is the holder, and keeps the history with it
abbrev pub HasTurn : List PlainRecord → (holder : Option ℕ) → (seat : ℕ) → Turn → Type 0
HasTurn history holder seat no_turn = holder ≢ Some seat
HasTurn history holder seat (look_turn kept) = (holder ≡ Some seat) × (kept ≡ history)
HasTurn history holder seat (offer_turn kept) = (holder ≡ Some seat) × (kept ≡ history)

-- a record stands in a list at its number, counted from 1
pub record StandsAt (entries : List PlainRecord) (at : ℕ × PlainRecord) : Type 0 where
  pub first : 1 ≤ at.0
  pub there : slice_get entries (at.0 - 1) ≡ Some at.1

-- each of some records stands in a list at its number
abbrev pub AllStandIn : List PlainRecord → List (ℕ × PlainRecord) → Type 0
AllStandIn entries [] = Unit {0}
AllStandIn entries (at ∷ own) = StandsAt entries at × AllStandIn entries own

-- a pass that was joined away keeps no permits, no own records and no turn
pub record IsSpent (kept : KeptByPass) : Type 0 where
  pub permits : kept.permits ≡ 0
  pub own : kept.own ≡ []
  pub turn : kept.turn ≡ no_turn

-- what the rule says of one pass, that of a seat
pub record FitsHistory (mark : SpineMark) (history : List PlainRecord) (holder : Option ℕ) (seat : ℕ) (kept : KeptByPass) : Type 0 where
  pub is_of_this_spine : 0 < kept.shares → kept.mark ≡ mark
  pub seen_is_a_prefix : BeginsWith history kept.seen
  pub joined_is_a_prefix : BeginsWith history kept.joined
  pub seen_is_reached : length kept.seen ≤ kept.floor
  pub floor_is_reached : kept.floor ≤ length history
  pub own_records_stand : AllStandIn kept.seen kept.own
  pub has_turn : HasTurn history holder seat kept.turn
  pub without_shares : kept.shares ≡ 0 → IsSpent kept

-- each seat's pass fits
abbrev pub AllFitHistory : SpineMark → List PlainRecord → Option ℕ → (passes : List KeptByPass) → Type 0
AllFitHistory mark history holder passes =
    (seat : ℕ) (kept : KeptByPass) → get_elem? passes seat ≡ maybe.some kept
    → FitsHistory mark history holder seat kept

-- over all passes together each number of the history stands once among the own records
abbrev pub StandOnce : List PlainRecord → (passes : List KeptByPass) → Type 0
StandOnce history passes =
    (number : ℕ) → 1 ≤ number → number ≤ length history
    → sum_by (λ kept. times_own number kept.own) passes ≡ 1

-- the rule: there is one lawful history, which the word, the slot and all passes agree on
pub record SpineHolds (mark : SpineMark) (state : SpineState) : Type 0 where
  pub history : List PlainRecord
  pub holder : Option ℕ
  pub one_list : state.words ≡ spine_word history holder ∷ []
  pub history_is_lawful : IsLawful mark.first history
  pub store_stands_for_it : HasHome mark state.homes history holder
  pub one_pass_has_the_turn : IsSeat holder (length state.views)
  pub each_pass_fits : AllFitHistory mark history holder state.views
  pub own_records_stand_once : StandOnce history state.views
  pub shares_sum_to_seats : sum_by (λ kept. kept.shares) state.views ≡ mark.seats
  pub permits_fill_the_room : sum_by (λ kept. kept.permits) state.views + length history ≡ mark.room
  pub room_is_small : mark.room < 2 ^ 62
