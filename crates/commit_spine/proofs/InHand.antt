-- The steps of a pass that has the store in hand.
use Rattle.std.proofs.Common.{◌≡◌, ℕ, ◌+◌, ◌*◌, ◌^◌, ◌<◌, ◌≤◌, List, [], ◌∷◌, ◌++◌, length, map, Some, None, vec_capacity, arith, refl, ap, sym, ◌∙◌, subst}
use Rattle.std.proofs.lemmas.List.{map-append, length-map}
use mathlib.Core.Option as maybe
use Rattle.atomic_table.specs.Table.{Allows, step, opening}
use Rattle.tree_revision.specs.Records.{PlainRecord, plain_record}
use Rattle.tree_revision.specs.Stands.{StandsFor}
use Rattle.tree_revision.specs.declared.record.Record.{Record}
use Rattle.commit_spine.specs.declared.mark.SpineMark.{SpineMark}
use Rattle.commit_spine.specs.declared.store.Store.{Store}
use Rattle.commit_spine.specs.Passes.{fresh_pass, history_kept}
use Rattle.commit_spine.specs.Stores.{Slot, IsStoreOf, HasStoreOf}
use Rattle.commit_spine.specs.StepKinds.{after_admitted_offer}
use Rattle.commit_spine.specs.SpineRule.{SpineHolds}
use Rattle.commit_spine.specs.StepTells.{Hand, admitted_offer_tells}
use Rattle.commit_spine.specs.Calls.{HasLookInHand, HasOfferInHand}
use Rattle.commit_spine.proofs.StepsKeepRule.{same_slot, admits_offer}
use Rattle.commit_spine.proofs.SplitsAndJoins.{opens}

-- a slot with the store of a history has a store
is_store : (mark : SpineMark) (slot : Slot) (history : List PlainRecord) → HasStoreOf mark slot history → (store : Store) × (slot ≡ Some store)
is_store mark None history has = absurd has
is_store mark (Some store) history has = (store, refl)

-- the store is in hand
pub store_in_hand : (mark : SpineMark) (slot : Slot) (history : List PlainRecord) (carried : List (ℕ × Slot)) → carried ≡ (0, slot) ∷ [] → HasStoreOf mark slot history
    → (store : Store) × (carried ≡ (0, Some store) ∷ [])
store_in_hand mark slot history carried hand has =
    let is = is_store mark slot history has in (is.0, hand ∙ ap (λ (s : Slot). let l : List (ℕ × Slot) = (0, s) ∷ [] in l) is.1)

pub look_store : (me : Hand) (at : ℕ) → HasLookInHand me at → (store : Store) × (me.1 ≡ (0, Some store) ∷ [])
look_store me at look = store_in_hand me.0.mark look.slot (history_kept me.0.turn) me.1 look.hand look.store

pub offer_store : (me : Hand) (at : ℕ) → HasOfferInHand me at → (store : Store) × (me.1 ≡ (0, Some store) ∷ [])
offer_store me at offer = store_in_hand me.0.mark offer.slot me.0.seen me.1 offer.hand offer.store

-- the front of the store in hand stands for the history
pub front_stands : (me : Hand) (at : ℕ) (store : Store) → HasLookInHand me at → me.1 ≡ (0, Some store) ∷ []
    → StandsFor me.0.mark.first store.front (history_kept me.0.turn)
front_stands me at store look hand =
    let same : look.slot ≡ Some store = same_slot look.slot (Some store) me.1 look.hand hand in
    let is : IsStoreOf me.0.mark store (history_kept me.0.turn) =
    subst (λ (slot : Slot). HasStoreOf me.0.mark slot (history_kept me.0.turn)) same look.store in is.front

-- a store that was lifted and laid back is in hand as before
pub laid_back : (before lifted laid : Hand) (store : Store) → before.1 ≡ (0, Some store) ∷ [] → lifted ≡ (before.0, (0, None) ∷ [])
    → laid ≡ (lifted.0, (0, Some store) ∷ []) → laid ≡ before
laid_back before lifted laid store hand lift lay =
    lay ∙ ap (λ (me : Hand). let back : Hand = (me.0, (0, Some store) ∷ []) in back) lift
    ∙ ap (λ (carried : List (ℕ × Slot)). let back : Hand = (before.0, carried) in back) (sym hand)

old_store : (me : Hand) (at : ℕ) (store : Store) → HasOfferInHand me at → me.1 ≡ (0, Some store) ∷ [] → IsStoreOf me.0.mark store me.0.seen
old_store me at store offer hand =
    let same : offer.slot ≡ Some store = same_slot offer.slot (Some store) me.1 offer.hand hand in
    subst (λ (slot : Slot). HasStoreOf me.0.mark slot me.0.seen) same offer.store

-- there is memory for the record of an offer
pub memory_for_offer : (me : Hand) (at : ℕ) (store : Store) → HasOfferInHand me at → me.1 ≡ (0, Some store) ∷ []
    → length store.records.items < vec_capacity store.records
memory_for_offer me at store offer hand =
    let old = old_store me at store offer hand in
    let long : length store.records.items ≡ length me.0.seen = sym (length-map store.records.items plain_record) ∙ ap length old.records in
    omega (arith, old.memory, offer.room, offer.permit)

-- the store in hand, with a record more, lifted and laid back
module _ (before lifted laid : Hand) (at : ℕ) (old new : Store) (entry : Record) (offer : HasOfferInHand before at) (hand : before.1 ≡ (0, Some old) ∷ [])
    (lift : lifted ≡ (before.0, (0, None) ∷ [])) (lay : laid ≡ (lifted.0, (0, Some new) ∷ []))
    (items : new.records.items ≡ old.records.items ++ entry ∷ []) (memory : vec_capacity old.records ≤ vec_capacity new.records)
    (stands : StandsFor before.0.mark.first new.front (before.0.seen ++ plain_record entry ∷ [])) where
  new_store : IsStoreOf before.0.mark new (before.0.seen ++ plain_record entry ∷ [])
  new_store =
      let is = old_store before at old offer hand in record {
        records = ap (map plain_record) items ∙ map-append plain_record old.records.items (entry ∷ [])
            ∙ ap (λ (list : List PlainRecord). list ++ plain_record entry ∷ []) is.records;
        front = stands;
        memory = omega (arith, is.memory, memory);
      }

  in_hand_now : laid ≡ (before.0, (0, Some new) ∷ [])
  in_hand_now = lay ∙ ap (λ (me : Hand). let back : Hand = (me.0, (0, Some new) ∷ []) in back) lift

  pub may_admit : (mark : SpineMark) (slots seat word : ℕ) → word ≡ 2 * at + 2
      → Allows (SpineHolds mark) slots seat laid 0 (λ _. word) (λ _ after. admitted_offer_tells (step slots 0 word 0 maybe.none) laid word after)
  may_admit mark slots seat word is =
      rw in_hand_now
      (admits_offer mark slots seat word (before.0, (0, Some new) ∷ []) before.0.seen (Some new) (plain_record entry) offer.turn refl refl offer.some_share offer.permit
      new_store stands.lawful (omega (arith, offer.number)))

  pub is_admitted : (slots word : ℕ) (after : Hand) → admitted_offer_tells (step slots 0 word 0 maybe.none) laid word after
      → after ≡ (after_admitted_offer before.0 before.0.seen (plain_record entry), [])
  is_admitted slots word after tells =
      let told = subst (λ (me : Hand). admitted_offer_tells (step slots 0 word 0 maybe.none) me word after) in_hand_now tells in
      let kept : history_kept before.0.turn ≡ before.0.seen = ap history_kept offer.turn in
      let store : HasStoreOf before.0.mark (Some new) (history_kept before.0.turn ++ plain_record entry ∷ []) =
      subst (λ (list : List PlainRecord). IsStoreOf before.0.mark new (list ++ plain_record entry ∷ [])) (sym kept) new_store in
      told (Some new) (plain_record entry) refl store
      ∙ ap (λ (list : List PlainRecord). let next : Hand = (after_admitted_offer before.0 list (plain_record entry), []) in next) kept

-- the opening state of a spine
pub opens_with : (mark : SpineMark) (store : Store) (slots : List Slot) → slots ≡ Some store ∷ [] → store.records.items ≡ [] → mark.room ≤ vec_capacity store.records
    → StandsFor mark.first store.front [] → mark.room < 2 ^ 62 → 1 ≤ mark.seats
    → SpineHolds mark (opening (0 ∷ []) slots (fresh_pass mark mark.seats mark.room))
opens_with mark store slots is items memory stands small some =
    rw is (opens mark (Some store) (record { records = ap (map plain_record) items; front = stands; memory = memory }) stands.lawful small some)
