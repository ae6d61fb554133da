-- The opening of a spine, a split, a join and the end of a spine.
use Rattle.std.proofs.Common.{◌≡◌, ◌≢◌, ℕ, zero, suc, ◌+◌, ◌^◌, ◌<◌, ◌≤◌, ◌⊎◌, inl, inr, List, [], ◌∷◌, ◌++◌, length, set, Option, Some, None, sum_by, arith, refl, ap, sym, ◌∙◌, subst, length-append, length-set, ⊎_elim}
use Rattle.std.proofs.lemmas.Option.{none-some, same_Some}
use Rattle.std.proofs.lemmas.List.Sums.{sum_by_push}
use mathlib.Core.Option as maybe
use mathlib.Core.Logic.{dite}
use native.Mathlib.Decide.{ℕ_discrete}
use lib.ListN.{get_elem?}
use Rattle.atomic_table.specs.Table.{opening, Splits, Joins, Final, Seen}
use Rattle.atomic_table.proofs.Lists.{at_set}
use Rattle.tree_revision.specs.Records.{PlainRecord}
use Rattle.tree_revision.specs.Lawful.{IsLawful}
use Rattle.commit_spine.specs.declared.mark.SpineMark.{SpineMark}
use Rattle.commit_spine.specs.Passes.{no_turn, KeptByPass, times_own, fresh_pass, joined_away}
use Rattle.commit_spine.specs.Stores.{Slot, HasStoreOf}
use Rattle.commit_spine.specs.StepKinds.{longer_of, after_split, split_off, after_join}
use Rattle.commit_spine.specs.SpineRule.{SpineState, turn_bit, IsSeat, HasTurn, IsSpent, FitsHistory, SpineHolds}
use Rattle.commit_spine.specs.StepTells.{IsEndOf}
use Rattle.commit_spine.proofs.Begins.{begins_with_itself, joined_in, length_of_longer}
use Rattle.commit_spine.proofs.OwnRecords.{stand_later, stand_both, times_in_both}
use Rattle.commit_spine.proofs.PassSums.{seat_is_there, sum_after_set, sum_after_join, others_have_none, one_has_all}
use Rattle.commit_spine.proofs.KeptRules.{free_home}

more_seats : (holder : Option ℕ) (count more : ℕ) → count ≤ more → IsSeat holder count → IsSeat holder more
more_seats None count more le seat = tt
more_seats (Some holder) count more le seat = omega arith

-- the turn is not with a seat that is new
not_new : (holder : Option ℕ) (count : ℕ) → IsSeat holder count → holder ≢ Some count
not_new None count seat = none-some count
not_new (Some holder) count seat = λ same. omega (arith, same_Some holder count same)

-- what stands in a list with one more stood there before, or is the new one
at_one_more : {A : Type 0} (l : List A) (a b : A) (seat : ℕ) → get_elem? (l ++ a ∷ []) seat ≡ maybe.some b
    → (get_elem? l seat ≡ maybe.some b) ⊎ ((seat ≡ length l) × (a ≡ b))
at_one_more [] a b zero there = inr (refl, maybe.some-injective a b there)
at_one_more [] a b (suc seat) there = absurd (maybe.some-ne-none b (sym there))
at_one_more (x ∷ l) a b zero there = inl there
at_one_more (x ∷ l) a b (suc seat) there =
    ⊎_elim inl (λ (new : (seat ≡ length l) × (a ≡ b)). inr (ap suc new.0, new.1)) (at_one_more l a b seat there)

-- where no pass has the turn, it is free
free_without_turns : (history : List PlainRecord) (holder : Option ℕ) (passes : List KeptByPass) → IsSeat holder (length passes)
    → ((seat : ℕ) (kept : KeptByPass) → get_elem? passes seat ≡ maybe.some kept → holder ≢ Some seat) → turn_bit holder ≡ 0
free_without_turns history None passes seat none = refl
free_without_turns history (Some holder) passes seat none = let there = seat_is_there passes holder seat in absurd (none holder there.0 there.1 refl)

module _ (mark : SpineMark) where
  abbrev Rule : SpineState → Type 0
  Rule = SpineHolds mark

  fresh_fits : 1 ≤ mark.seats → FitsHistory mark [] None 0 (fresh_pass mark mark.seats mark.room)
  fresh_fits some = record {
    is_of_this_spine = λ some. refl;
    seen_is_a_prefix = begins_with_itself [];
    joined_is_a_prefix = begins_with_itself [];
    seen_is_reached = omega arith;
    floor_is_reached = omega arith;
    own_records_stand = tt;
    has_turn = none-some 0;
    without_shares = λ none. absurd (omega arith);
  }

  fresh_fits_alone : 1 ≤ mark.seats → (seat : ℕ) (kept : KeptByPass) → get_elem? (fresh_pass mark mark.seats mark.room ∷ []) seat ≡ maybe.some kept → FitsHistory mark [] None seat kept
  fresh_fits_alone some zero kept there = subst (FitsHistory mark [] None 0) (maybe.some-injective (fresh_pass mark mark.seats mark.room) kept there) (fresh_fits some)
  fresh_fits_alone some (suc seat) kept there = absurd (maybe.some-ne-none kept (sym there))

  pub opens : (slot : Slot) → HasStoreOf mark slot [] → IsLawful mark.first [] → mark.room < 2 ^ 62 → 1 ≤ mark.seats
      → Rule (opening (0 ∷ []) (slot ∷ []) (fresh_pass mark mark.seats mark.room))
  opens slot store lawful small some = record {
    history = [];
    holder = None;
    one_list = refl;
    history_is_lawful = lawful;
    store_stands_for_it = (slot, refl, store);
    one_pass_has_the_turn = tt;
    each_pass_fits = fresh_fits_alone some;
    own_records_stand_once = λ number low high. absurd (omega arith);
    shares_sum_to_seats = omega arith;
    permits_fill_the_room = omega arith;
    room_is_small = small;
  }

  pub splits : (seat permits : ℕ) (kept : KeptByPass) → kept.turn ≡ no_turn → 2 ≤ kept.shares → permits ≤ kept.permits
      → Splits Rule seat kept (after_split permits kept) (split_off permits kept)
  splits seat permits kept rests some enough state rule at =
      let fits = rule.each_pass_fits seat kept at in
      let left : KeptByPass = after_split permits kept in
      let right : KeptByPass = split_off permits kept in
      let passes : List KeptByPass = set state.views seat left in
      let count : ℕ = length state.views in
      let same_count : length passes ≡ count = length-set state.views seat left in
      let old_fits : FitsHistory mark rule.history rule.holder seat left = record {
        is_of_this_spine = λ any. fits.is_of_this_spine (omega arith);
        seen_is_a_prefix = fits.seen_is_a_prefix;
        joined_is_a_prefix = fits.joined_is_a_prefix;
        seen_is_reached = fits.seen_is_reached;
        floor_is_reached = fits.floor_is_reached;
        own_records_stand = fits.own_records_stand;
        has_turn = fits.has_turn;
        without_shares = λ none. absurd (omega arith);
      } in
      let new_fits : FitsHistory mark rule.history rule.holder count right = record {
        is_of_this_spine = λ any. fits.is_of_this_spine (omega arith);
        seen_is_a_prefix = fits.seen_is_a_prefix;
        joined_is_a_prefix = fits.joined_is_a_prefix;
        seen_is_reached = fits.seen_is_reached;
        floor_is_reached = fits.floor_is_reached;
        own_records_stand = tt;
        has_turn = not_new rule.holder count rule.one_pass_has_the_turn;
        without_shares = λ none. absurd (omega arith);
      } in
      let shares = sum_after_set (λ (u : KeptByPass). u.shares) state.views seat kept left at in
      let permit = sum_after_set (λ (u : KeptByPass). u.permits) state.views seat kept left at in
      let more_shares = sum_by_push (λ (u : KeptByPass). u.shares) passes right in
      let more_permits = sum_by_push (λ (u : KeptByPass). u.permits) passes right in
      let one_more : length (passes ++ right ∷ []) ≡ count + 1 = omega (arith, length-append passes (right ∷ []), same_count) in record {
        history = rule.history;
        holder = rule.holder;
        one_list = rule.one_list;
        history_is_lawful = rule.history_is_lawful;
        store_stands_for_it = rule.store_stands_for_it;
        one_pass_has_the_turn = more_seats rule.holder count _ (omega (arith, one_more)) rule.one_pass_has_the_turn;
        each_pass_fits = λ other u there. ⊎_elim
            (λ before. ⊎_elim
            (λ same. subst (λ k. FitsHistory mark rule.history rule.holder k u) (sym same.0) (subst (FitsHistory mark rule.history rule.holder seat) same.1 old_fits))
            (λ differs. rule.each_pass_fits other u differs.1)
            (at_set state.views seat other left u before))
            (λ new. subst (λ k. FitsHistory mark rule.history rule.holder k u) (sym (new.0 ∙ same_count)) (subst (FitsHistory mark rule.history rule.holder count) new.1 new_fits))
            (at_one_more passes right u other there);
        own_records_stand_once = λ number low high.
            let times = λ (u : KeptByPass). times_own number u.own in
            let set_sum = sum_after_set times state.views seat kept left at in
            let more_sum = sum_by_push times passes right in
            let once = rule.own_records_stand_once number low high in
            omega (arith, set_sum, more_sum, once);
        shares_sum_to_seats = omega (arith, shares, more_shares, rule.shares_sum_to_seats);
        permits_fill_the_room = omega (arith, permit, more_permits, rule.permits_fill_the_room);
        room_is_small = rule.room_is_small;
      }

  pub joins : (seat other : ℕ) (kept gone : KeptByPass) → kept.turn ≡ no_turn → gone.turn ≡ no_turn → 0 < kept.shares
      → Joins Rule seat kept other gone (after_join kept gone) joined_away
  joins seat other kept gone rests gone_rests some state rule at differs there =
      let both : KeptByPass = after_join kept gone in
      let passes : List KeptByPass = set (set state.views seat both) other joined_away in
      let fits = rule.each_pass_fits seat kept at in
      let gone_at : get_elem? state.views other ≡ maybe.some gone =
      ⊎_elim (λ (same : (other ≡ seat) × (both ≡ gone)). absurd (differs same.0)) (λ (old : (other ≢ seat) × (get_elem? state.views other ≡ maybe.some gone)). old.1) (at_set state.views seat other both gone there) in
      let gone_fits = rule.each_pass_fits other gone gone_at in
      let lists = joined_in rule.history kept.seen gone.seen fits.seen_is_a_prefix gone_fits.seen_is_a_prefix in
      let longer : List PlainRecord = longer_of kept.seen gone.seen in
      let both_fit : FitsHistory mark rule.history rule.holder seat both = record {
        is_of_this_spine = λ any. fits.is_of_this_spine some;
        seen_is_a_prefix = lists.longer_begins;
        joined_is_a_prefix = lists.shorter_begins;
        seen_is_reached = omega (arith, length_of_longer kept.seen gone.seen, fits.seen_is_reached, gone_fits.seen_is_reached);
        floor_is_reached = omega (arith, fits.floor_is_reached, gone_fits.floor_is_reached);
        own_records_stand = stand_both longer kept.own gone.own (stand_later longer kept.seen kept.own lists.first fits.own_records_stand)
            (stand_later longer gone.seen gone.own lists.second gone_fits.own_records_stand);
        has_turn = fits.has_turn;
        without_shares = λ none. absurd (omega arith);
      } in
      let spent_fits : FitsHistory mark rule.history rule.holder other joined_away = record {
        is_of_this_spine = λ any. absurd (omega arith);
        seen_is_a_prefix = record { within = omega arith; same = refl };
        joined_is_a_prefix = record { within = omega arith; same = refl };
        seen_is_reached = omega arith;
        floor_is_reached = omega arith;
        own_records_stand = tt;
        has_turn = subst (HasTurn rule.history rule.holder other) gone_rests gone_fits.has_turn;
        without_shares = λ none. record { permits = refl; own = refl; turn = refl };
      } in record {
        history = rule.history;
        holder = rule.holder;
        one_list = rule.one_list;
        history_is_lawful = rule.history_is_lawful;
        store_stands_for_it = rule.store_stands_for_it;
        one_pass_has_the_turn = subst (IsSeat rule.holder) (sym (length-set (set state.views seat both) other joined_away ∙ length-set state.views seat both)) rule.one_pass_has_the_turn;
        each_pass_fits = λ any u here. ⊎_elim
            (λ same. subst (λ k. FitsHistory mark rule.history rule.holder k u) (sym same.0) (subst (FitsHistory mark rule.history rule.holder other) same.1 spent_fits))
            (λ not_gone. ⊎_elim
            (λ same. subst (λ k. FitsHistory mark rule.history rule.holder k u) (sym same.0) (subst (FitsHistory mark rule.history rule.holder seat) same.1 both_fit))
            (λ not_kept. rule.each_pass_fits any u not_kept.1)
            (at_set state.views seat any both u not_gone.1))
            (at_set (set state.views seat both) other any joined_away u here);
        own_records_stand_once = λ number low high.
            sum_after_join (λ (u : KeptByPass). times_own number u.own) state.views seat other kept gone both joined_away at there (times_in_both number kept.own gone.own) refl
            ∙ rule.own_records_stand_once number low high;
        shares_sum_to_seats = sum_after_join (λ (u : KeptByPass). u.shares) state.views seat other kept gone both joined_away at there refl refl ∙ rule.shares_sum_to_seats;
        permits_fill_the_room = ap (λ (n : ℕ). n + length rule.history) (sum_after_join (λ (u : KeptByPass). u.permits) state.views seat other kept gone both joined_away at there refl refl)
            ∙ rule.permits_fill_the_room;
        room_is_small = rule.room_is_small;
      }

  -- where one pass has all shares, each other one is spent, and no pass has the turn
  pub ends : (seat : ℕ) (kept : KeptByPass) (words : List ℕ) (slots : List Slot) → kept.turn ≡ no_turn → 0 < kept.shares → (kept.mark ≡ mark → kept.shares ≡ mark.seats)
      → Final (Seen Rule seat kept) words slots → (slot : Slot) × (get_elem? slots 0 ≡ maybe.some slot) × IsEndOf kept slot
  ends seat kept words slots rests some all final =
      let state : SpineState = final.0 in
      let rule : Rule state = final.1.0 in
      let at = final.1.1 in
      let fits = rule.each_pass_fits seat kept at in
      let same : kept.mark ≡ mark = fits.is_of_this_spine some in
      let whole : kept.shares ≡ sum_by (λ (u : KeptByPass). u.shares) state.views = all same ∙ sym rule.shares_sum_to_seats in
      let spent : (other : ℕ) (u : KeptByPass) → other ≢ seat → get_elem? state.views other ≡ maybe.some u → IsSpent u =
      λ other u differs there. (rule.each_pass_fits other u there).without_shares (others_have_none (λ (v : KeptByPass). v.shares) state.views seat kept at whole other u differs there) in
      let no_turns : (other : ℕ) (u : KeptByPass) → get_elem? state.views other ≡ maybe.some u → u.turn ≡ no_turn =
      λ other u there. dite (ℕ_discrete other seat)
      (λ is. ap (λ (v : KeptByPass). v.turn) (maybe.some-injective u kept (sym there ∙ (ap (get_elem? state.views) is ∙ at))) ∙ rests)
      (λ differs. (spent other u differs there).turn) in
      let free = free_without_turns rule.history rule.holder state.views rule.one_pass_has_the_turn
      (λ other u there. subst (HasTurn rule.history rule.holder other) (no_turns other u there) (rule.each_pass_fits other u there).has_turn) in
      let home = free_home mark state.homes rule.history rule.holder rule.store_stands_for_it free in
      let slot = home.1.0 in
      let permits = one_has_all (λ (u : KeptByPass). u.permits) state.views seat kept at (λ other u differs there. (spent other u differs there).permits) in (
        slot,
        final.4 0 slot (ap (λ (homes : List (maybe.Option Slot)). get_elem? homes 0) home.1.1),
        record {
          history = rule.history;
          store = subst (λ (m : SpineMark). HasStoreOf m slot rule.history) (sym same) home.1.2;
          seen = fits.seen_is_a_prefix;
          own = stand_later rule.history kept.seen kept.own fits.seen_is_a_prefix fits.own_records_stand;
          once = λ number low high.
              sym (one_has_all (λ (u : KeptByPass). times_own number u.own) state.views seat kept at (λ other u differs there. ap (times_own number) (spent other u differs there).own))
              ∙ rule.own_records_stand_once number low high;
          permits = subst (λ (m : SpineMark). kept.permits + length rule.history ≡ m.room) (sym same) (omega (arith, permits, rule.permits_fill_the_room));
        },
      )
