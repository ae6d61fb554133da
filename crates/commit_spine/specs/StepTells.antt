-- What each kind of step tells its caller.
use Rattle.std.specs.Prelude.{◌≡◌, ◌≢◌, ℕ, ◌+◌, ◌/◌, ◌≤◌, List, [], ◌∷◌, ◌++◌, length}
use Rattle.atomic_table.specs.Table.{Me, Step, rest}
use Rattle.tree_revision.specs.Records.{PlainRecord}
use Rattle.tree_revision.specs.Lawful.{IsLawful}
use Rattle.tree_revision.specs.Ports.{BeginsWith}
use Rattle.commit_spine.specs.Passes.{KeptByPass, history_kept, times_own}
use Rattle.commit_spine.specs.Stores.{Slot, HasStoreOf}
use Rattle.commit_spine.specs.StepKinds.{after_load, after_load_for_look, after_take_for_look, after_lost_look, after_take_for_offer, after_lost_offer, after_answered_look, after_look_in_vain, after_admitted_offer}
use Rattle.commit_spine.specs.SpineRule.{AllStandIn}

-- what a pass keeps, and the slots that it has in hand
abbrev pub Hand : Type 0
Hand = Me Slot KeptByPass

-- a step took nothing in hand: its kind says what is kept, and the number that it found is no less
-- than what was reached
pub record FindsWord (next : KeptByPass) (found : ℕ) (before after : Hand) : Type 0 where
  pub keeps : after ≡ (next, before.1)
  pub reached : before.0.floor ≤ found / 2

-- a step took the turn for a look: the store of a history is in hand, which begins with what was
-- seen and is no shorter than what was reached
pub record TakesForLook (before : Hand) (found : ℕ) (after : Hand) : Type 0 where
  pub history : List PlainRecord
  pub slot : Slot
  pub keeps : after ≡ (after_take_for_look before.0 history, (0, slot) ∷ before.1)
  pub store : HasStoreOf before.0.mark slot history
  pub word : found ≡ length history + length history
  pub seen : BeginsWith history before.0.seen
  pub reached : before.0.floor ≤ length history
  pub room : length history + before.0.permits ≤ before.0.mark.room

-- a step took the turn for an offer: the store of what was seen is in hand
pub record TakesForOffer (before after : Hand) : Type 0 where
  pub slot : Slot
  pub keeps : after ≡ (after_take_for_offer before.0 before.0.seen, (0, slot) ∷ before.1)
  pub store : HasStoreOf before.0.mark slot before.0.seen
  pub reached : before.0.floor ≤ length before.0.seen
  pub room : length before.0.seen + before.0.permits ≤ before.0.mark.room

-- a load of the number
abbrev pub load_tells : Step Slot → Hand → ℕ → Hand → Type 0
load_tells step before found after = FindsWord (after_load before.0 found) found before after

-- a load for a look
abbrev pub load_for_look_tells : Step Slot → Hand → ℕ → Hand → Type 0
load_for_look_tells step before found after =
    FindsWord (after_load_for_look before.0 found) found before after

-- an exchange for a look
abbrev pub take_for_look_tells : Step Slot → Hand → ℕ → Hand → Type 0
take_for_look_tells step before found after =
    (found ≡ step.first → TakesForLook before found after)
    × (found ≢ step.first → FindsWord (after_lost_look before.0 found) found before after)

-- an exchange for an offer
abbrev pub take_for_offer_tells : Step Slot → Hand → ℕ → Hand → Type 0
take_for_offer_tells step before found after =
    (found ≡ step.first → TakesForOffer before after)
    × (found ≢ step.first → FindsWord (after_lost_offer before.0 found) found before after)

-- the store behind a look that is answered
abbrev pub answered_look_tells : Step Slot → Hand → ℕ → Hand → Type 0
answered_look_tells step before found after =
    after ≡ (after_answered_look before.0 (history_kept before.0.turn), rest before.1)

-- the store behind a look that found no memory
abbrev pub look_in_vain_tells : Step Slot → Hand → ℕ → Hand → Type 0
look_in_vain_tells step before found after = after ≡ (after_look_in_vain before.0, rest before.1)

-- the store behind an offer: its record is the one with which the store in hand stands
abbrev pub admitted_offer_tells : Step Slot → Hand → ℕ → Hand → Type 0
admitted_offer_tells step before found after =
    (slot : Slot) (entry : PlainRecord) → before.1 ≡ (0, slot) ∷ []
    → HasStoreOf before.0.mark slot (history_kept before.0.turn ++ entry ∷ [])
    → after ≡ (after_admitted_offer before.0 (history_kept before.0.turn) entry, rest before.1)

-- what a load behind a join compares: what was seen is lawful, where the shorter list is no longer
-- it begins the other, and a pass has no more permits and shares than there are
pub record IsWithinMark (kept : KeptByPass) : Type 0 where
  pub lawful : IsLawful kept.mark.first kept.seen
  pub joined : length kept.joined ≤ length kept.seen → BeginsWith kept.seen kept.joined
  pub permits : kept.permits ≤ kept.mark.room
  pub shares : kept.shares ≤ kept.mark.seats

-- a load behind a join: it changes nothing that is kept
abbrev pub compare_tells : Step Slot → Hand → ℕ → Hand → Type 0
compare_tells step before found after = (after ≡ before) × IsWithinMark before.0

-- what the holder of all shares has at the end: the store of a history that begins with what it
-- saw, whose records are its own, each once at its number, and permits for the rest of the room
pub record IsEndOf (kept : KeptByPass) (slot : Slot) : Type 0 where
  pub history : List PlainRecord
  pub store : HasStoreOf kept.mark slot history
  pub seen : BeginsWith history kept.seen
  pub own : AllStandIn history kept.own
  pub once : (number : ℕ) → 1 ≤ number → number ≤ length history → times_own number kept.own ≡ 1
  pub permits : kept.permits + length history ≡ kept.mark.room
