-- What a step of one seat has to show, so that the rule of a spine holds after it.
use Rattle.std.proofs.Common.{◌≡◌, ◌≢◌, ℕ, ◌+◌, ◌/◌, ◌%◌, ◌<◌, ◌≤◌, List, [], ◌∷◌, length, set, slice_index, Option, Some, None, arith, refl, ap, sym, ◌∙◌, subst, length-set, ⊎_elim}
use Rattle.std.proofs.lemmas.Option.{none-some, same_Some}
use mathlib.Core.Option as maybe
use lib.ListN.{get_elem?}
use Rattle.atomic_table.proofs.Lists.{at_set}
use Rattle.tree_revision.specs.Records.{PlainRecord}
use Rattle.tree_revision.specs.Lawful.{IsLawful}
use Rattle.tree_revision.specs.Ports.{BeginsWith}
use Rattle.commit_spine.specs.declared.mark.SpineMark.{SpineMark}
use Rattle.commit_spine.specs.Passes.{Turn, no_turn, look_turn, offer_turn, KeptByPass, times_own}
use Rattle.commit_spine.specs.Stores.{Slot, HasStoreOf}
use Rattle.commit_spine.specs.SpineRule.{SpineState, turn_bit, spine_word, IsSeat, HasHome, HasTurn, FitsHistory, StandOnce, SpineHolds}
use Rattle.commit_spine.proofs.Begins.{begins_through}
use Rattle.commit_spine.proofs.PassSums.{seat_is_below, sum_after_set, one_is_within}

pub bit_is_small : (holder : Option ℕ) → turn_bit holder ≤ 1
bit_is_small None = omega arith
bit_is_small (Some seat) = omega arith

-- another seat has no turn, where one has it, and keeps none when it is given back
turn_is_out : (history : List PlainRecord) (seat other : ℕ) (turn : Turn) → other ≢ seat → HasTurn history None other turn → HasTurn history (Some seat) other turn
turn_is_out history seat other no_turn differs free = λ same. differs (sym (same_Some seat other same))
turn_is_out history seat other (look_turn kept) differs free = absurd (none-some other free.0)
turn_is_out history seat other (offer_turn kept) differs free = absurd (none-some other free.0)

turn_is_free : (history more : List PlainRecord) (seat other : ℕ) (turn : Turn) → other ≢ seat → HasTurn history (Some seat) other turn → HasTurn more None other turn
turn_is_free history more seat other no_turn differs out = none-some other
turn_is_free history more seat other (look_turn kept) differs out = absurd (differs (sym (same_Some seat other out.0)))
turn_is_free history more seat other (offer_turn kept) differs out = absurd (differs (sym (same_Some seat other out.0)))

-- a pass after a step that keeps its records, permits, shares and turn
pub record KeepsRecords (old new : KeptByPass) : Type 0 where
  pub mark : new.mark ≡ old.mark
  pub seen : new.seen ≡ old.seen
  pub joined : new.joined ≡ old.joined
  pub own : new.own ≡ old.own
  pub permits : new.permits ≡ old.permits
  pub shares : new.shares ≡ old.shares
  pub turn : new.turn ≡ old.turn

-- a pass with another floor and other counts
pub counted : (old : KeptByPass) (floor busy loads : ℕ) → KeepsRecords old (record old { floor = floor; busy = busy; loads = loads })
counted old floor busy loads = record { mark = refl; seen = refl; joined = refl; own = refl; permits = refl; shares = refl; turn = refl }

module _ (mark : SpineMark) where
  -- what a step of a seat shows of the history and holder after it
  pub record IsKept (state : SpineState) (rule : SpineHolds mark state) (seat : ℕ) (old new : KeptByPass) (history : List PlainRecord) (holder : Option ℕ) : Type 0 where
    pub lawful : IsLawful mark.first history
    pub is_seat : IsSeat holder (length state.views)
    pub mine : FitsHistory mark history holder seat new
    pub others : (other : ℕ) (kept : KeptByPass) → other ≢ seat → FitsHistory mark rule.history rule.holder other kept → FitsHistory mark history holder other kept
    pub once : StandOnce history (set state.views seat new)
    pub shares : new.shares ≡ old.shares
    pub permits : new.permits + length history ≡ old.permits + length rule.history

  pub rule_after : (state : SpineState) (rule : SpineHolds mark state) (seat : ℕ) (old new : KeptByPass) → get_elem? state.views seat ≡ maybe.some old
      → (history : List PlainRecord) (holder : Option ℕ) (words : List ℕ) (homes : List (maybe.Option Slot))
      → words ≡ spine_word history holder ∷ [] → HasHome mark homes history holder → IsKept state rule seat old new history holder
      → SpineHolds mark (record { words = words; homes = homes; views = set state.views seat new })
  rule_after state rule seat old new at history holder words homes word home kept =
      let shares = sum_after_set (λ (u : KeptByPass). u.shares) state.views seat old new at in
      let permits = sum_after_set (λ (u : KeptByPass). u.permits) state.views seat old new at in
      let same_count : length (set state.views seat new) ≡ length state.views = length-set state.views seat new in record {
        history = history;
        holder = holder;
        one_list = word;
        history_is_lawful = kept.lawful;
        store_stands_for_it = home;
        one_pass_has_the_turn = subst (IsSeat holder) (sym same_count) kept.is_seat;
        each_pass_fits = λ other u there. ⊎_elim
            (λ same. subst (λ k. FitsHistory mark history holder k u) (sym same.0) (subst (FitsHistory mark history holder seat) same.1 kept.mine))
            (λ differs. kept.others other u differs.0 (rule.each_pass_fits other u differs.1))
            (at_set state.views seat other new u there);
        own_records_stand_once = kept.once;
        shares_sum_to_seats = omega (arith, shares, rule.shares_sum_to_seats, kept.shares);
        permits_fill_the_room = omega (arith, permits, rule.permits_fill_the_room, kept.permits);
        room_is_small = rule.room_is_small;
      }

  -- own records stand once after a step that adds none
  pub same_once : (state : SpineState) (rule : SpineHolds mark state) (seat : ℕ) (old new : KeptByPass) → get_elem? state.views seat ≡ maybe.some old
      → new.own ≡ old.own → StandOnce rule.history (set state.views seat new)
  same_once state rule seat old new at own number low high =
      let sum = sum_after_set (λ (u : KeptByPass). times_own number u.own) state.views seat old new at in
      let same : times_own number new.own ≡ times_own number old.own = ap (times_own number) own in
      omega (arith, sum, same, rule.own_records_stand_once number low high)

  pub found_word : (state : SpineState) (rule : SpineHolds mark state) → slice_index state.words 0 ≡ spine_word rule.history rule.holder
  found_word state rule = ap (λ (words : List ℕ). slice_index words 0) rule.one_list

  pub found_number : (state : SpineState) (rule : SpineHolds mark state) → slice_index state.words 0 / 2 ≡ length rule.history
  found_number state rule = omega (arith, found_word state rule, bit_is_small rule.holder)

  -- where the word is twice the number, the turn is free
  pub free_where_even : (state : SpineState) (rule : SpineHolds mark state) → slice_index state.words 0 % 2 ≡ 0 → turn_bit rule.holder ≡ 0
  free_where_even state rule even = omega (arith, found_word state rule, bit_is_small rule.holder)

  -- a step that changes neither the word nor the slot, and leaves the floor at the number found
  pub rule_after_find : (state : SpineState) (rule : SpineHolds mark state) (seat : ℕ) (old new : KeptByPass) → get_elem? state.views seat ≡ maybe.some old
      → KeepsRecords old new → new.floor ≡ slice_index state.words 0 / 2
      → SpineHolds mark (record { words = set state.words 0 (slice_index state.words 0); homes = state.homes; views = set state.views seat new })
  rule_after_find state rule seat old new at keeps floor =
      let fits = rule.each_pass_fits seat old at in
      let number = found_number state rule in
      let word : set state.words 0 (slice_index state.words 0) ≡ spine_word rule.history rule.holder ∷ [] =
      ap (λ (words : List ℕ). set words 0 (slice_index state.words 0)) rule.one_list ∙ ap (λ (n : ℕ). n ∷ []) (found_word state rule) in
      rule_after state rule seat old new at rule.history rule.holder _ state.homes word rule.store_stands_for_it record {
        lawful = rule.history_is_lawful;
        is_seat = rule.one_pass_has_the_turn;
        mine = record {
          is_of_this_spine = λ some. keeps.mark ∙ fits.is_of_this_spine (subst (λ (n : ℕ). 0 < n) keeps.shares some);
          seen_is_a_prefix = subst (BeginsWith rule.history) (sym keeps.seen) fits.seen_is_a_prefix;
          joined_is_a_prefix = subst (BeginsWith rule.history) (sym keeps.joined) fits.joined_is_a_prefix;
          seen_is_reached = omega (arith, ap length keeps.seen, floor, number, fits.seen_is_reached, fits.floor_is_reached);
          floor_is_reached = omega (arith, floor, number);
          own_records_stand = rw (keeps.seen, keeps.own) fits.own_records_stand;
          has_turn = rw keeps.turn fits.has_turn;
          without_shares = λ none. let spent = fits.without_shares (sym keeps.shares ∙ none) in
              record { permits = keeps.permits ∙ spent.permits; own = keeps.own ∙ spent.own; turn = keeps.turn ∙ spent.turn };
        };
        others = λ other u differs fit. fit;
        once = same_once state rule seat old new at keeps.own;
        shares = keeps.shares;
        permits = omega (arith, keeps.permits);
      }

  -- a step that takes the store out of its slot, with the turn
  pub rule_after_take : (state : SpineState) (rule : SpineHolds mark state) (seat : ℕ) (old new : KeptByPass) (word : ℕ) (slot : Slot) → get_elem? state.views seat ≡ maybe.some old
      → rule.holder ≡ None → word ≡ spine_word rule.history (Some seat) → state.homes ≡ maybe.some slot ∷ []
      → FitsHistory mark rule.history (Some seat) seat new → new.own ≡ old.own → new.permits ≡ old.permits → new.shares ≡ old.shares
      → SpineHolds mark (record { words = set state.words 0 word; homes = set state.homes 0 maybe.none; views = set state.views seat new })
  rule_after_take state rule seat old new word slot at free is home mine own permits shares =
      rule_after state rule seat old new at rule.history (Some seat) _ _
      (ap (λ (words : List ℕ). set words 0 word) rule.one_list ∙ ap (λ (n : ℕ). n ∷ []) is)
      (ap (λ (homes : List (maybe.Option Slot)). set homes 0 maybe.none) home) record {
        lawful = rule.history_is_lawful;
        is_seat = seat_is_below state.views seat old at;
        mine = mine;
        others = λ other u differs fit. record {
          is_of_this_spine = fit.is_of_this_spine;
          seen_is_a_prefix = fit.seen_is_a_prefix;
          joined_is_a_prefix = fit.joined_is_a_prefix;
          seen_is_reached = fit.seen_is_reached;
          floor_is_reached = fit.floor_is_reached;
          own_records_stand = fit.own_records_stand;
          has_turn = turn_is_out rule.history seat other u.turn differs (subst (λ (h : Option ℕ). HasTurn rule.history h other u.turn) free fit.has_turn);
          without_shares = fit.without_shares;
        };
        once = same_once state rule seat old new at own;
        shares = shares;
        permits = omega (arith, permits);
      }

  pub empty_home : (homes : List (maybe.Option Slot)) (history : List PlainRecord) (holder : Option ℕ) (seat : ℕ) → HasHome mark homes history holder → holder ≡ Some seat → homes ≡ maybe.none ∷ []
  empty_home homes history None seat home out = absurd (none-some seat out)
  empty_home homes history (Some other) seat home out = home

  -- a step that gives the turn back, with the store of a history that begins with the one before
  pub rule_after_give : (state : SpineState) (rule : SpineHolds mark state) (seat : ℕ) (old new : KeptByPass) (history : List PlainRecord) (word : ℕ) (slot : Slot)
      → get_elem? state.views seat ≡ maybe.some old → rule.holder ≡ Some seat → BeginsWith history rule.history
      → word ≡ length history + length history → HasStoreOf mark slot history → IsLawful mark.first history
      → FitsHistory mark history None seat new → StandOnce history (set state.views seat new)
      → new.shares ≡ old.shares → new.permits + length history ≡ old.permits + length rule.history
      → SpineHolds mark (record { words = set state.words 0 word; homes = set state.homes 0 (maybe.some slot); views = set state.views seat new })
  rule_after_give state rule seat old new history word slot at out longer is store lawful mine once shares permits =
      let home = empty_home state.homes rule.history rule.holder seat rule.store_stands_for_it out in
      let free : word ≡ spine_word history None = omega arith in
      rule_after state rule seat old new at history None _ _
      (ap (λ (words : List ℕ). set words 0 word) rule.one_list ∙ ap (λ (n : ℕ). n ∷ []) free)
      (slot, ap (λ (homes : List (maybe.Option Slot)). set homes 0 (maybe.some slot)) home, store) record {
        lawful = lawful;
        is_seat = tt;
        mine = mine;
        others = λ other u differs fit. record {
          is_of_this_spine = fit.is_of_this_spine;
          seen_is_a_prefix = begins_through history rule.history u.seen longer fit.seen_is_a_prefix;
          joined_is_a_prefix = begins_through history rule.history u.joined longer fit.joined_is_a_prefix;
          seen_is_reached = fit.seen_is_reached;
          floor_is_reached = omega (arith, fit.floor_is_reached, longer.within);
          own_records_stand = fit.own_records_stand;
          has_turn = turn_is_free rule.history history seat other u.turn differs (subst (λ (h : Option ℕ). HasTurn rule.history h other u.turn) out fit.has_turn);
          without_shares = fit.without_shares;
        };
        once = once;
        shares = shares;
        permits = permits;
      }

  -- the store, where the turn is free
  pub free_home : (homes : List (maybe.Option Slot)) (history : List PlainRecord) (holder : Option ℕ) → HasHome mark homes history holder → turn_bit holder ≡ 0
      → (holder ≡ None) × ((slot : Slot) × (homes ≡ maybe.some slot ∷ []) × HasStoreOf mark slot history)
  free_home homes history None home free = (refl, home)
  free_home homes history (Some seat) home free = absurd (omega arith)

  -- history and permits of one pass are within the room
  pub room_for_permits : (state : SpineState) (rule : SpineHolds mark state) (seat : ℕ) (kept : KeptByPass) → get_elem? state.views seat ≡ maybe.some kept
      → length rule.history + kept.permits ≤ mark.room
  room_for_permits state rule seat kept at =
      omega (arith, one_is_within (λ (u : KeptByPass). u.permits) state.views seat kept at, rule.permits_fill_the_room)
