-- Each kind of step keeps the rule of a spine, and tells what it is to tell.
use Rattle.std.proofs.Common.{◌≡◌, ℕ, ◌+◌, ◌%◌, ◌<◌, ◌≤◌, ◌==◌, eqb, List, [], ◌∷◌, ◌++◌, length, set, slice_index, Option, Some, None, sum_by, arith, refl, ap, sym, ◌∙◌, subst, length-append, eq-eqb, ne_eqb}
use Rattle.std.proofs.lemmas.Option.{none-some}
use Rattle.std.proofs.lemmas.List.{same_from_push}
use mathlib.Core.Option as maybe
use mathlib.Core.Logic.{dite}
use native.Mathlib.Decide.{ℕ_discrete}
use lib.ListN.{get_elem?}
use prog.Atomic.{either}
use Rattle.atomic_table.specs.Table.{Act, step, keeps, takes, gives, Valid, Allows, stepped, carried_after, put_back, rest}
use Rattle.atomic_table.proofs.Lists.{exchanged}
use Rattle.tree_revision.specs.Records.{PlainRecord}
use Rattle.tree_revision.specs.Lawful.{IsLawful}
use Rattle.tree_revision.specs.Ports.{BeginsWith}
use Rattle.commit_spine.specs.declared.mark.SpineMark.{SpineMark}
use Rattle.commit_spine.specs.Passes.{Turn, look_turn, offer_turn, history_kept, KeptByPass, times_own}
use Rattle.commit_spine.specs.Stores.{Slot, HasStoreOf}
use Rattle.commit_spine.specs.StepKinds.{after_load, after_load_for_look, after_take_for_look, after_lost_look, after_take_for_offer, after_lost_offer, after_answered_look, after_look_in_vain, after_admitted_offer}
use Rattle.commit_spine.specs.SpineRule.{SpineState, turn_bit, spine_word, HasTurn, StandOnce, SpineHolds}
use Rattle.commit_spine.specs.StepTells.{Hand, load_tells, load_for_look_tells, take_for_look_tells, take_for_offer_tells, answered_look_tells, look_in_vain_tells, admitted_offer_tells, compare_tells}
use Rattle.commit_spine.proofs.Begins.{begins_with_itself, more_begins, begins_through, begins_whole, begins_among, lawful_begin}
use Rattle.commit_spine.proofs.OwnRecords.{one_if, added_stands, stand_later, stand_both, none_beyond, times_in_both}
use Rattle.commit_spine.proofs.PassSums.{sum_after_set, one_is_within, sum_of_none}
use Rattle.commit_spine.proofs.KeptRules.{counted, same_once, found_word, found_number, free_where_even, rule_after, rule_after_find, rule_after_take, rule_after_give, free_home, room_for_permits}

-- a slot has the store of one list alone
one_store : (mark : SpineMark) (slot : Slot) (us vs : List PlainRecord) → HasStoreOf mark slot us → HasStoreOf mark slot vs → us ≡ vs
one_store mark None us vs one other = absurd one
one_store mark (Some store) us vs one other = sym one.records ∙ other.records

-- the slot that is in hand
abbrev slot_or : Slot → List (ℕ × Slot) → Slot
slot_or default [] = default
slot_or default (carried ∷ rest) = carried.1

pub same_slot : (slot other : Slot) (carried : List (ℕ × Slot)) → carried ≡ (0, slot) ∷ [] → carried ≡ (0, other) ∷ [] → slot ≡ other
same_slot slot other carried one two = ap (slot_or slot) (sym one ∙ two)

-- with a turn a pass keeps the history, and its seat is the holder
look_is_out : (history : List PlainRecord) (holder : Option ℕ) (seat : ℕ) (turn : Turn) (kept : List PlainRecord)
    → HasTurn history holder seat turn → turn ≡ look_turn kept → (holder ≡ Some seat) × (kept ≡ history)
look_is_out history holder seat turn kept has is = subst (HasTurn history holder seat) is has

offer_is_out : (history : List PlainRecord) (holder : Option ℕ) (seat : ℕ) (turn : Turn) (kept : List PlainRecord)
    → HasTurn history holder seat turn → turn ≡ offer_turn kept → (holder ≡ Some seat) × (kept ≡ history)
offer_is_out history holder seat turn kept has is = subst (HasTurn history holder seat) is has

module _ (mark : SpineMark) where
  abbrev Rule : SpineState → Type 0
  Rule = SpineHolds mark

  -- what is owed of a step that finds a word and leaves another
  abbrev Owed : SpineState → (seat : ℕ) → Hand → (ℕ → Hand → Type 0) → (word : ℕ) → Type 0
  Owed state seat me tells word =
      (new : KeptByPass) × (act : Act Slot) × Valid state.homes me.1 act × Rule (stepped state 0 word seat me.1 new act)
      × tells (slice_index state.words 0) (new, carried_after me.1 act)

  pub loads : (slots seat : ℕ) (me : Hand) → Allows Rule slots seat me 0 (λ n. n) (load_tells (step slots 0 0 0 maybe.none) me)
  loads slots seat me state rule wide at small =
      let word : ℕ = slice_index state.words 0 in
      let fits = rule.each_pass_fits seat me.0 at in (
        after_load me.0 word,
        keeps,
        tt,
        rule_after_find mark state rule seat me.0 (after_load me.0 word) at (counted me.0 _ _ _) refl,
        record { keeps = refl; reached = omega (arith, found_number mark state rule, fits.floor_is_reached) },
      )

  pub loads_for_look : (slots seat : ℕ) (me : Hand) → Allows Rule slots seat me 0 (λ n. n) (load_for_look_tells (step slots 0 0 0 maybe.none) me)
  loads_for_look slots seat me state rule wide at small =
      let word : ℕ = slice_index state.words 0 in
      let fits = rule.each_pass_fits seat me.0 at in (
        after_load_for_look me.0 word,
        keeps,
        tt,
        rule_after_find mark state rule seat me.0 (after_load_for_look me.0 word) at (counted me.0 _ _ _) refl,
        record { keeps = refl; reached = omega (arith, found_number mark state rule, fits.floor_is_reached) },
      )

  pub compares : (slots seat : ℕ) (me : Hand) → 0 < me.0.shares → Allows Rule slots seat me 0 (λ n. n) (compare_tells (step slots 0 0 0 maybe.none) me)
  compares slots seat me some state rule wide at small =
      let fits = rule.each_pass_fits seat me.0 at in
      let same : me.0.mark ≡ mark = fits.is_of_this_spine some in
      let shares = one_is_within (λ (u : KeptByPass). u.shares) state.views seat me.0 at in
      let permits = room_for_permits mark state rule seat me.0 at in
      let word : set state.words 0 (slice_index state.words 0) ≡ spine_word rule.history rule.holder ∷ [] =
      ap (λ (words : List ℕ). set words 0 (slice_index state.words 0)) rule.one_list ∙ ap (λ (n : ℕ). n ∷ []) (found_word mark state rule) in (
        me.0,
        keeps,
        tt,
        rule_after mark state rule seat me.0 me.0 at rule.history rule.holder _ state.homes word rule.store_stands_for_it record {
          lawful = rule.history_is_lawful;
          is_seat = rule.one_pass_has_the_turn;
          mine = fits;
          others = λ other u differs fit. fit;
          once = same_once mark state rule seat me.0 me.0 at refl;
          shares = refl;
          permits = refl;
        },
        (
          refl,
          record {
            lawful = subst (λ (m : SpineMark). IsLawful m.first me.0.seen) (sym same) (lawful_begin mark.first rule.history me.0.seen fits.seen_is_a_prefix rule.history_is_lawful);
            joined = begins_among rule.history me.0.seen me.0.joined fits.seen_is_a_prefix fits.joined_is_a_prefix;
            permits = subst (λ (m : SpineMark). me.0.permits ≤ m.room) (sym same) (omega (arith, permits));
            shares = subst (λ (m : SpineMark). me.0.shares ≤ m.seats) (sym same) (omega (arith, shares, rule.shares_sum_to_seats));
          },
        ),
      )

  pub takes_for_look : (slots seat old new : ℕ) (me : Hand) → 0 < me.0.shares → old % 2 ≡ 0 → new ≡ old + 1
      → Allows Rule slots seat me 0 (λ n. either (eqb n old) new n) (take_for_look_tells (step slots 0 old new maybe.none) me)
  takes_for_look slots seat old new me some even more state rule wide at small =
      let word : ℕ = slice_index state.words 0 in
      let fits = rule.each_pass_fits seat me.0 at in
      let is = found_word mark state rule in
      exchanged word old new (Owed state seat me (take_for_look_tells (step slots 0 old new maybe.none) me))
      (λ found. let bit : turn_bit rule.holder ≡ 0 = free_where_even mark state rule (omega arith) in
      let free = free_home mark state.homes rule.history rule.holder rule.store_stands_for_it bit in
      let slot = free.1.0 in
      let same : me.0.mark ≡ mark = fits.is_of_this_spine some in
      let history = rule.history in (
        after_take_for_look me.0 history,
        takes 0 slot,
        ap (λ (homes : List (maybe.Option Slot)). get_elem? homes 0) free.1.1,
        rule_after_take mark state rule seat me.0 (after_take_for_look me.0 history) new slot at free.0 (omega arith) free.1.1 record {
          is_of_this_spine = fits.is_of_this_spine;
          seen_is_a_prefix = fits.seen_is_a_prefix;
          joined_is_a_prefix = fits.joined_is_a_prefix;
          seen_is_reached = fits.seen_is_a_prefix.within;
          floor_is_reached = omega arith;
          own_records_stand = fits.own_records_stand;
          has_turn = (refl, refl);
          without_shares = λ none. absurd (omega arith);
        } refl refl refl,
        (
          λ _. record {
            history = history;
            slot = slot;
            keeps = refl;
            store = subst (λ (m : SpineMark). HasStoreOf m slot history) (sym same) free.1.2;
            word = omega arith;
            seen = fits.seen_is_a_prefix;
            reached = fits.floor_is_reached;
            room = subst (λ (m : SpineMark). length history + me.0.permits ≤ m.room) (sym same) (room_for_permits mark state rule seat me.0 at);
          },
          λ lost. absurd (lost found),
        ),
      ))
      (λ lost. (
        after_lost_look me.0 word,
        keeps,
        tt,
        rule_after_find mark state rule seat me.0 (after_lost_look me.0 word) at (counted me.0 _ _ me.0.loads) refl,
        (
          λ found. absurd (lost found),
          λ _. record { keeps = refl; reached = omega (arith, found_number mark state rule, fits.floor_is_reached) },
        ),
      ))

  pub takes_for_offer : (slots seat old new : ℕ) (me : Hand) → 0 < me.0.shares → old ≡ length me.0.seen + length me.0.seen → new ≡ old + 1
      → Allows Rule slots seat me 0 (λ n. either (eqb n old) new n) (take_for_offer_tells (step slots 0 old new maybe.none) me)
  takes_for_offer slots seat old new me some all_seen more state rule wide at small =
      let word : ℕ = slice_index state.words 0 in
      let fits = rule.each_pass_fits seat me.0 at in
      let is = found_word mark state rule in
      exchanged word old new (Owed state seat me (take_for_offer_tells (step slots 0 old new maybe.none) me))
      (λ found. let bit : turn_bit rule.holder ≡ 0 = free_where_even mark state rule (omega arith) in
      let free = free_home mark state.homes rule.history rule.holder rule.store_stands_for_it bit in
      let slot = free.1.0 in
      let same : me.0.mark ≡ mark = fits.is_of_this_spine some in
      let whole : me.0.seen ≡ rule.history = begins_whole rule.history me.0.seen fits.seen_is_a_prefix (omega arith) in
      let store : HasStoreOf me.0.mark slot rule.history = subst (λ (m : SpineMark). HasStoreOf m slot rule.history) (sym same) free.1.2 in
      let room : length rule.history + me.0.permits ≤ me.0.mark.room =
      subst (λ (m : SpineMark). length rule.history + me.0.permits ≤ m.room) (sym same) (room_for_permits mark state rule seat me.0 at) in (
        after_take_for_offer me.0 me.0.seen,
        takes 0 slot,
        ap (λ (homes : List (maybe.Option Slot)). get_elem? homes 0) free.1.1,
        rule_after_take mark state rule seat me.0 (after_take_for_offer me.0 me.0.seen) new slot at free.0 (omega arith) free.1.1 record {
          is_of_this_spine = fits.is_of_this_spine;
          seen_is_a_prefix = fits.seen_is_a_prefix;
          joined_is_a_prefix = fits.joined_is_a_prefix;
          seen_is_reached = fits.seen_is_reached;
          floor_is_reached = fits.floor_is_reached;
          own_records_stand = fits.own_records_stand;
          has_turn = (refl, whole);
          without_shares = λ none. absurd (omega arith);
        } refl refl refl,
        (
          λ _. record {
            slot = slot;
            keeps = refl;
            store = subst (HasStoreOf me.0.mark slot) (sym whole) store;
            reached = omega (arith, fits.floor_is_reached, ap length whole);
            room = subst (λ (seen : List PlainRecord). length seen + me.0.permits ≤ me.0.mark.room) (sym whole) room;
          },
          λ lost. absurd (lost found),
        ),
      ))
      (λ lost. (
        after_lost_offer me.0 word,
        keeps,
        tt,
        rule_after_find mark state rule seat me.0 (after_lost_offer me.0 word) at (counted me.0 _ _ me.0.loads) refl,
        (
          λ found. absurd (lost found),
          λ _. record { keeps = refl; reached = omega (arith, found_number mark state rule, fits.floor_is_reached) },
        ),
      ))

  -- with one slot in hand, the state after it is given back
  after_give : (state : SpineState) (seat word : ℕ) (new : KeptByPass) (carried : List (ℕ × Slot)) (slot : Slot) → carried ≡ (0, slot) ∷ []
      → Rule (record { words = set state.words 0 word; homes = set state.homes 0 (maybe.some slot); views = set state.views seat new })
      → Rule (stepped state 0 word seat carried new gives)
  after_give state seat word new carried slot has rule =
      subst (λ (c : List (ℕ × Slot)). Rule record { words = set state.words 0 word; homes = put_back state.homes c; views = set state.views seat new }) (sym has) rule

  pub answers_look : (slots seat word : ℕ) (me : Hand) (history : List PlainRecord) (slot : Slot)
      → me.0.turn ≡ look_turn history → me.1 ≡ (0, slot) ∷ [] → 0 < me.0.shares → HasStoreOf me.0.mark slot history
      → length history ≤ me.0.floor → word ≡ length history + length history
      → Allows Rule slots seat me 0 (λ _. word) (λ _ after. answered_look_tells (step slots 0 word 0 maybe.none) me word after)
  answers_look slots seat word me history slot turn has some store reached is state rule wide at small =
      let fits = rule.each_pass_fits seat me.0 at in
      let out = look_is_out rule.history rule.holder seat me.0.turn history fits.has_turn turn in
      let whole : history ≡ rule.history = out.1 in
      let kept : history_kept me.0.turn ≡ history = ap history_kept turn in
      let new : KeptByPass = after_answered_look me.0 history in
      let same : me.0.mark ≡ mark = fits.is_of_this_spine some in
      let stored : HasStoreOf mark slot rule.history = subst (λ (m : SpineMark). HasStoreOf m slot rule.history) same (subst (HasStoreOf me.0.mark slot) whole store) in
      let seen : BeginsWith history me.0.seen = subst (λ (list : List PlainRecord). BeginsWith list me.0.seen) (sym whole) fits.seen_is_a_prefix in (
        new,
        gives,
        tt,
        after_give state seat word new me.1 slot has
            (rule_after_give mark state rule seat me.0 new rule.history word slot at out.0 (begins_with_itself rule.history)
            (is ∙ ap (λ (list : List PlainRecord). length list + length list) whole) stored rule.history_is_lawful record {
              is_of_this_spine = fits.is_of_this_spine;
              seen_is_a_prefix = subst (BeginsWith rule.history) (sym whole) (begins_with_itself rule.history);
              joined_is_a_prefix = fits.joined_is_a_prefix;
              seen_is_reached = reached;
              floor_is_reached = fits.floor_is_reached;
              own_records_stand = stand_later history me.0.seen me.0.own seen fits.own_records_stand;
              has_turn = none-some seat;
              without_shares = λ none. absurd (omega arith);
            } (same_once mark state rule seat me.0 new at refl) refl refl),
        ap (λ (list : List PlainRecord). let after : Hand = (after_answered_look me.0 list, rest me.1) in after) (sym kept),
      )

  pub ends_look : (slots seat word : ℕ) (me : Hand) (history : List PlainRecord) (slot : Slot)
      → me.0.turn ≡ look_turn history → me.1 ≡ (0, slot) ∷ [] → 0 < me.0.shares → HasStoreOf me.0.mark slot history
      → word ≡ length history + length history
      → Allows Rule slots seat me 0 (λ _. word) (λ _ after. look_in_vain_tells (step slots 0 word 0 maybe.none) me word after)
  ends_look slots seat word me history slot turn has some store is state rule wide at small =
      let fits = rule.each_pass_fits seat me.0 at in
      let out = look_is_out rule.history rule.holder seat me.0.turn history fits.has_turn turn in
      let whole : history ≡ rule.history = out.1 in
      let new : KeptByPass = after_look_in_vain me.0 in
      let same : me.0.mark ≡ mark = fits.is_of_this_spine some in
      let stored : HasStoreOf mark slot rule.history = subst (λ (m : SpineMark). HasStoreOf m slot rule.history) same (subst (HasStoreOf me.0.mark slot) whole store) in (
        new,
        gives,
        tt,
        after_give state seat word new me.1 slot has
            (rule_after_give mark state rule seat me.0 new rule.history word slot at out.0 (begins_with_itself rule.history)
            (is ∙ ap (λ (list : List PlainRecord). length list + length list) whole) stored rule.history_is_lawful record {
              is_of_this_spine = fits.is_of_this_spine;
              seen_is_a_prefix = fits.seen_is_a_prefix;
              joined_is_a_prefix = fits.joined_is_a_prefix;
              seen_is_reached = fits.seen_is_reached;
              floor_is_reached = fits.floor_is_reached;
              own_records_stand = fits.own_records_stand;
              has_turn = none-some seat;
              without_shares = λ none. absurd (omega arith);
            } (same_once mark state rule seat me.0 new at refl) refl refl),
        refl,
      )

  -- with a record more each number stands once: no pass has the new one, and the offer's pass gets it
  once_with_one_more : (state : SpineState) (rule : SpineHolds mark state) (seat : ℕ) (old : KeptByPass) (history : List PlainRecord) (entry : PlainRecord)
      → get_elem? state.views seat ≡ maybe.some old → history ≡ rule.history
      → StandOnce (history ++ entry ∷ []) (set state.views seat (after_admitted_offer old history entry))
  once_with_one_more state rule seat old history entry at whole number low high =
      let new : KeptByPass = after_admitted_offer old history entry in
      let last : ℕ = length history + 1 in
      let times = λ (u : KeptByPass). times_own number u.own in
      let sum = sum_after_set times state.views seat old new at in
      let added = times_in_both number old.own ((last, entry) ∷ []) in
      let long = length-append history (entry ∷ []) in
      let as_long : length history ≡ length rule.history = ap length whole in
      dite (ℕ_discrete last number)
      (λ is_last. let one : one_if (last == number) ≡ 1 = ap one_if (eq-eqb last number is_last) in
      let none : sum_by times state.views ≡ 0 =
      sum_of_none times state.views (λ other u there. let fit = rule.each_pass_fits other u there in
      none_beyond u.seen u.own number fit.own_records_stand (omega (arith, fit.seen_is_a_prefix.within))) in
      omega (arith, sum, added, one, none))
      (λ before. let none : one_if (last == number) ≡ 0 = ap one_if (ne_eqb last number before) in
      let once = rule.own_records_stand_once number low (omega arith) in
      omega (arith, sum, added, none, once))

  pub admits_offer : (slots seat word : ℕ) (me : Hand) (history : List PlainRecord) (slot : Slot) (entry : PlainRecord)
      → me.0.turn ≡ offer_turn history → me.0.seen ≡ history → me.1 ≡ (0, slot) ∷ [] → 0 < me.0.shares → 1 ≤ me.0.permits
      → HasStoreOf me.0.mark slot (history ++ entry ∷ []) → IsLawful me.0.mark.first (history ++ entry ∷ []) → word ≡ length history + length history + 2
      → Allows Rule slots seat me 0 (λ _. word) (λ _ after. admitted_offer_tells (step slots 0 word 0 maybe.none) me word after)
  admits_offer slots seat word me history slot entry turn all_seen has some permit store lawful is state rule wide at small =
      let fits = rule.each_pass_fits seat me.0 at in
      let out = offer_is_out rule.history rule.holder seat me.0.turn history fits.has_turn turn in
      let whole : history ≡ rule.history = out.1 in
      let kept : history_kept me.0.turn ≡ history = ap history_kept turn in
      let more : List PlainRecord = history ++ entry ∷ [] in
      let long : length more ≡ length history + 1 = length-append history (entry ∷ []) in
      let new : KeptByPass = after_admitted_offer me.0 history entry in
      let same : me.0.mark ≡ mark = fits.is_of_this_spine some in
      let longer : BeginsWith more rule.history = subst (BeginsWith more) whole (more_begins history (entry ∷ [])) in
      let old_own = stand_later more me.0.seen me.0.own (subst (BeginsWith more) (sym all_seen) (more_begins history (entry ∷ []))) fits.own_records_stand in
      let as_long : length history ≡ length rule.history = ap length whole in (
        new,
        gives,
        tt,
        after_give state seat word new me.1 slot has
            (rule_after_give mark state rule seat me.0 new more word slot at out.0 longer
            (omega arith) (subst (λ (m : SpineMark). HasStoreOf m slot more) same store) (subst (λ (m : SpineMark). IsLawful m.first more) same lawful) record {
              is_of_this_spine = fits.is_of_this_spine;
              seen_is_a_prefix = begins_with_itself more;
              joined_is_a_prefix = begins_through more rule.history me.0.joined longer fits.joined_is_a_prefix;
              seen_is_reached = omega arith;
              floor_is_reached = omega arith;
              own_records_stand = stand_both more me.0.own ((length history + 1, entry) ∷ []) old_own (added_stands history entry, tt);
              has_turn = none-some seat;
              without_shares = λ none. absurd (omega arith);
            } (once_with_one_more state rule seat me.0 history entry at whole) refl (omega arith)),
        λ other told in_hand stored. let one : slot ≡ other = same_slot slot other me.1 has in_hand in
            let list : history_kept me.0.turn ++ told ∷ [] ≡ history ++ told ∷ [] = ap (λ (l : List PlainRecord). l ++ told ∷ []) kept in
            let also : HasStoreOf me.0.mark slot (history ++ told ∷ []) =
            subst (λ (s : Slot). HasStoreOf me.0.mark s (history ++ told ∷ [])) (sym one) (subst (HasStoreOf me.0.mark other) list stored) in
            let equal : entry ≡ told = (same_from_push history history entry told (one_store me.0.mark slot more (history ++ told ∷ []) store also)).1 in
            ap (λ (e : PlainRecord). let after : Hand = (after_admitted_offer me.0 history e, rest me.1) in after) equal
            ∙ ap (λ (l : List PlainRecord). let after : Hand = (after_admitted_offer me.0 l told, rest me.1) in after) (sym kept),
      )
