-- What the calls of a spine say, by the kinds of their steps.
use Rattle.std.specs.Prelude.{◌≡◌, ◌≢◌, ℕ, ◌+◌, ◌/◌, ◌%◌, ◌^◌, ◌<◌, ◌≤◌, List, [], ◌∷◌, length, Result, Ok, Err, Option, Some, None}
use Rattle.atomic_table.specs.Seated.{TableId}
use Rattle.tree_revision.specs.Records.{PlainRecord, plain_record}
use Rattle.tree_revision.specs.Settled.{KeptRevision}
use Rattle.tree_revision.specs.Stands.{StandsFor}
use Rattle.tree_revision.specs.Ports.{BeginsWith}
use Rattle.tree_revision.specs.declared.record.Record.{Record}
use Rattle.tree_revision.specs.declared.port.LookRefusal.{LookRefusal}
use Rattle.tree_revision.specs.declared.port.LookRefusal.TheVariants.{Busy as LookBusy, Memory as LookMemory}
use Rattle.tree_revision.specs.declared.port.OfferRefusal.{OfferRefusal}
use Rattle.tree_revision.specs.declared.port.OfferRefusal.TheVariants.{Busy as OfferBusy, Behind}
use Rattle.commit_spine.specs.declared.spine_parts.Spine.{Spine}
use Rattle.commit_spine.specs.Passes.{KeptByPass, look_turn, offer_turn, history_kept}
use Rattle.commit_spine.specs.Stores.{Slot, HasStoreOf}
use Rattle.commit_spine.specs.StepKinds.{after_load, after_load_for_look, after_take_for_look, after_lost_look, after_take_for_offer, after_lost_offer, after_answered_look, after_look_in_vain, after_admitted_offer}
use Rattle.commit_spine.specs.StepTells.{Hand, FindsWord, TakesForLook, TakesForOffer}
use Rattle.commit_spine.specs.SpinePasses.{PassValue}

-- which spine it is
abbrev pub spine_id : Spine → TableId
spine_id spine = spine.table.shared.table_id

-- a pass is one of this spine
abbrev pub IsPassOf : Spine → PassValue → Type 0
IsPassOf spine pass = pass.spine ≡ spine_id spine

-- an exchange for a look took the turn, or it found another word
abbrev pub IsTakeForLook : (before : Hand) (word : ℕ) (after : Hand) → Result (Unit {0}) ℕ → Type 0
IsTakeForLook before word after (Ok _) = TakesForLook before word after
IsTakeForLook before word after (Err found) =
    (found ≢ word) × FindsWord (after_lost_look before.0 found) found before after

-- an exchange for an offer took the turn, or it found another word
abbrev pub IsTakeForOffer : (before : Hand) (after : Hand) → Result (Unit {0}) ℕ → Type 0
IsTakeForOffer before after (Ok _) = TakesForOffer before after
IsTakeForOffer before after (Err found) =
    (found ≢ length before.0.seen + length before.0.seen)
    × FindsWord (after_lost_offer before.0 found) found before after

-- a pass has the turn for a look at that number, and the store of the history in hand
pub record HasLookInHand (me : Hand) (at : ℕ) : Type 0 where
  pub slot : Slot
  pub turn : me.0.turn ≡ look_turn (history_kept me.0.turn)
  pub hand : me.1 ≡ (0, slot) ∷ []
  pub store : HasStoreOf me.0.mark slot (history_kept me.0.turn)
  pub number : at ≡ length (history_kept me.0.turn)
  pub floor : me.0.floor ≡ length (history_kept me.0.turn)
  pub some_share : 0 < me.0.shares

-- a pass has the turn for an offer directly after that number, and the store of all it saw in hand
pub record HasOfferInHand (me : Hand) (at : ℕ) : Type 0 where
  pub slot : Slot
  pub turn : me.0.turn ≡ offer_turn me.0.seen
  pub hand : me.1 ≡ (0, slot) ∷ []
  pub store : HasStoreOf me.0.mark slot me.0.seen
  pub number : at ≡ length me.0.seen
  pub room : length me.0.seen + me.0.permits ≤ me.0.mark.room
  pub permit : 1 ≤ me.0.permits
  pub some_share : 0 < me.0.shares

-- a look is answered: its exchange took the turn at the word of a history that begins with all that
-- was seen and is no shorter than what was reached, and the revision stands for that history
pub record IsAnsweredLook (old new : KeptByPass) (front : KeptRevision) : Type 0 where
  pub history : List PlainRecord
  pub word : ℕ
  pub is_word : word ≡ length history + length history
  pub stands : StandsFor old.mark.first front history
  pub seen : BeginsWith history old.seen
  pub reached : old.floor ≤ length history
  pub small : length history < 2 ^ 62
  pub keeps :
      new ≡ after_answered_look (after_take_for_look (after_load_for_look old word) history) history

-- a look took the turn, found no memory and gave the turn back
pub record IsLookWithoutMemory (old new : KeptByPass) : Type 0 where
  pub history : List PlainRecord
  pub word : ℕ
  pub is_word : word ≡ length history + length history
  pub reached : old.floor ≤ length history
  pub keeps : new ≡ after_look_in_vain (after_take_for_look (after_load_for_look old word) history)

-- a look found an odd word
pub record IsBusyLook (old new : KeptByPass) : Type 0 where
  pub word : ℕ
  pub odd : word % 2 ≡ 1
  pub reached : old.floor ≤ word / 2
  pub keeps : new ≡ after_load_for_look old word

-- the answer of a look: busy exactly where the word found was odd
abbrev pub IsLookOf : (old new : KeptByPass) → Result KeptRevision LookRefusal → Type 0
IsLookOf old new (Ok front) = IsAnsweredLook old new front
IsLookOf old new (Err LookBusy) = IsBusyLook old new
IsLookOf old new (Err LookMemory) = IsLookWithoutMemory old new

-- the turn of a look: taken at the word of that number, or found to be out
pub record TakesTurn (before : Hand) (number : ℕ) (after : Hand) : Type 0 where
  pub word : ℕ
  pub is_number : number ≡ word / 2
  pub reached : before.0.floor ≤ number
  pub takes : TakesForLook (after_load_for_look before.0 word, []) word after

pub record FindsTurnOut (before after : Hand) : Type 0 where
  pub word : ℕ
  pub odd : word % 2 ≡ 1
  pub reached : before.0.floor ≤ word / 2
  pub keeps : after ≡ (after_load_for_look before.0 word, [])

abbrev pub IsTurnOf : (before after : Hand) → Option ℕ → Type 0
IsTurnOf before after (Some number) = TakesTurn before number after
IsTurnOf before after None = FindsTurnOut before after

-- an offer is admitted: its exchange found the number seen with the turn free
pub record IsOfferTaken (old new : KeptByPass) (entry : PlainRecord) (answer : ℕ) : Type 0 where
  pub number : answer ≡ length old.seen + 1
  pub reached : old.floor ≤ length old.seen
  pub keeps : new ≡ after_admitted_offer (after_take_for_offer old old.seen) old.seen entry

-- an offer found the number seen with the turn out
pub record IsBusyOffer (old new : KeptByPass) : Type 0 where
  pub reached : old.floor ≤ length old.seen
  pub keeps : new ≡ after_lost_offer old (length old.seen + length old.seen + 1)

-- an offer found a word of that number, which is above the number seen
pub record IsOfferBehind (old new : KeptByPass) (found : ℕ) : Type 0 where
  pub word : ℕ
  pub is_word : found ≡ word / 2
  pub above : length old.seen < found
  pub reached : old.floor ≤ found
  pub keeps : new ≡ after_lost_offer old word

-- the answer of an offer; a refusal never took the turn, and hands both values back
abbrev pub IsOfferOf : (old new : KeptByPass) → Record → KeptRevision
    → Result ℕ OfferRefusal → Type 0
IsOfferOf old new entry next (Ok number) = IsOfferTaken old new (plain_record entry) number
IsOfferOf old new entry next (Err (OfferBusy entry_back next_back)) =
    (entry_back ≡ entry) × (next_back ≡ next) × IsBusyOffer old new
IsOfferOf old new entry next (Err (Behind found entry_back next_back)) =
    (entry_back ≡ entry) × (next_back ≡ next) × IsOfferBehind old new found

-- a load of the number: some word was found, whose number is answered
pub record IsNumberFound (old new : KeptByPass) (answer : ℕ) : Type 0 where
  pub word : ℕ
  pub is_word : answer ≡ word / 2
  pub reached : old.floor ≤ answer
  pub keeps : new ≡ after_load old word
