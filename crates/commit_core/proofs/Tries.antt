-- That each try of a commit had a number of its own.
use Rattle.std.proofs.Common.{[], ◌∷◌, length-append, ◌≡◌, ℕ, zero, suc, ◌+◌, ◌-◌, ◌≤◌, ◌<◌, List, length, take, min, arith, refl, ap, sym, ◌∙◌, subst, Bool, true, false}
use Rattle.std.proofs.Math.Seq.{take-length}
use Rattle.std.specs.Prelude.{Option, Some, None, count_by, is_none, cond}
use Rattle.std.specs.List.{range_with_len}
use Rattle.std.proofs.lemmas.List.Sums.{sum_by-append}
use Rattle.shadow_frame.specs.declared.Size.{Size}
use Rattle.tree_revision.specs.Records.{PlainRecord}
use Rattle.tree_revision.specs.Cancels.{cancel_of}
use Rattle.tree_revision.specs.Wishes.{Wish}
use Rattle.tree_revision.specs.Ports.{Told, BeginsWith, Lasts, HasLooked}
use Rattle.tree_revision.specs.declared.record.Cancel.{Cancel}
use Rattle.tree_revision.specs.Settled.{KeptRevision}
use Rattle.tree_revision.specs.declared.record.Answer.{Answer}
use Rattle.tree_revision.specs.declared.record.Answer.TheVariants.{Held, Admitted, Cancelled, Mounted, Empty}
use Rattle.commit_core.specs.declared.committer.Progress.{Progress}
use Rattle.commit_core.specs.declared.committer.Progress.TheVariants.{Looked, Again, Busy, Done, Memory}
use Rattle.commit_core.specs.Events.{IsClearLook, IsCancelledLook, IsAdmittedOffer, IsLateOffer, IsEnd, IsEvent}
use Rattle.commit_core.specs.Commit.{CommitPhase, fresh, ready, over, PlainCommit, with_op, entry_in, entry_under_way, look_in, looked_at}
use Rattle.commit_core.specs.Tries.{clear_numbers, looked_below, TriesHaveClearNumbers}
use Rattle.commit_core.proofs.Steps.{take_begins}

-- the count of a list by its first number
count_front : (p : ℕ → Bool) (number : ℕ) (others : List ℕ) → count_by p (number ∷ others) ≡ cond (p number) 1 0 + count_by p others
count_front p number others = omega (arith, sum_by-append (λ x. cond (p x) 1 0) (number ∷ []) others)

-- a longer range counts no less
count_more : (p q : ℕ → Bool) (from n m : ℕ) → n ≤ m → ((k : ℕ) → from ≤ k → k < from + n → p k ≡ q k)
    → count_by p (range_with_len from n) ≤ count_by q (range_with_len from m)
count_more p q from zero m low same = omega arith
count_more p q from (suc n) zero low same = absurd (omega arith)
count_more p q from (suc n) (suc m) low same =
    omega (
      arith,
      count_more p q (from + 1) n m (omega arith) (λ k a b. same k (omega arith) (omega arith)),
      ap {B = ℕ} (λ b. cond b 1 0) (same from (omega arith) (omega arith)),
      count_front p from (range_with_len (from + 1) n),
      count_front q from (range_with_len (from + 1) m),
    )

-- one more number that is counted
count_next : (p : ℕ → Bool) (from n number : ℕ) → number ≡ from + n → p number ≡ true
    → count_by p (range_with_len from (suc n)) ≡ count_by p (range_with_len from n) + 1
count_next p from zero number e counted =
    let same : from ≡ number = omega arith in
    omega (arith, ap {B = ℕ} (λ b. cond b 1 0) (ap p same ∙ counted), count_front p from [])
count_next p from (suc n) number e counted =
    omega (
      arith,
      count_next p (from + 1) n number (omega arith) counted,
      count_front p from (range_with_len (from + 1) (suc n)),
      count_front p from (range_with_len (from + 1) n),
    )

at_most_one : (b : Bool) → cond b 1 0 ≤ 1
at_most_one true = omega arith
at_most_one false = omega arith

-- one more number counts one at most
count_top : (p : ℕ → Bool) (from n : ℕ) → count_by p (range_with_len from (suc n)) ≤ count_by p (range_with_len from n) + 1
count_top p from zero = omega (arith, at_most_one (p from), count_front p from [])
count_top p from (suc n) =
    omega (
      arith,
      count_top p (from + 1) n,
      count_front p from (range_with_len (from + 1) (suc n)),
      count_front p from (range_with_len (from + 1) n),
    )

abbrev IsFound : {A : Type 0} → Option A → Type 0
IsFound (Some x) = Unit {0}
IsFound None = ⊥

some_none : {A X : Type 0} {x : A} → Some x ≡ None → X
some_none e = absurd (subst IsFound e tt)

below_floor : (phase : CommitPhase) (told : Told) → look_in phase ≡ None → looked_below phase told ≤ told.floor
below_floor (fresh entry) told none = omega arith
below_floor (ready entry wished next) told none = some_none none
below_floor over told none = omega arith

below_seen : (phase : CommitPhase) (told : Told) → looked_below phase told ≤ length told.seen + 1
below_seen (fresh entry) told = omega arith
below_seen (ready entry wished next) told = omega arith
below_seen over told = omega arith

below_ready : (phase : CommitPhase) (told : Told) (number : ℕ) → look_in phase ≡ Some number → looked_below phase told ≡ length told.seen + 1
below_ready (fresh entry) told number some = some_none (sym some)
below_ready (ready entry wished next) told number some = refl
below_ready over told number some = some_none (sym some)

below_again : (phase : CommitPhase) (told : Told) (entry : PlainRecord) → look_in phase ≡ None → entry_in phase ≡ Some entry
    → looked_below phase told ≡ min told.floor (length told.seen + 1)
below_again (fresh e) told entry none some = refl
below_again (ready e wished next) told entry none some = some_none none
below_again over told entry none some = some_none (sym some)

-- what a commit has looked below never falls
pub below_rises : (phase : CommitPhase) (old new : Told) → Lasts old new → looked_below phase old ≤ looked_below phase new
below_rises (fresh entry) old new lasts = omega (arith, lasts.floor, lasts.seen.within)
below_rises (ready entry wished next) old new lasts = omega (arith, lasts.seen.within)
below_rises over old new lasts = omega arith

-- where a commit asks for what is wished of it
module _ (wish : Wish) where
  -- as more is seen, and up to a higher number, no fewer numbers are clear
  clear_more : (first : Size) (longer shorter : List PlainRecord) (entry : PlainRecord) (from below above : ℕ)
      → BeginsWith longer shorter → below ≤ length shorter + 1 → below ≤ above
      → clear_numbers wish first shorter entry from below ≤ clear_numbers wish first longer entry from above
  clear_more first longer shorter entry from below above begins low rises =
      count_more _ _ from (below - from) (above - from) (omega arith)
      (λ k a b. ap (λ seen. is_none (cancel_of first (wish seen entry.held entry.op) seen entry.held)) (sym (take_begins longer shorter k begins (omega arith))))

  -- room among the same numbers
  same_room : (entry : PlainRecord) (from more tries : ℕ) {first other_first : Size} {seen other_seen : List PlainRecord} {below other_below : ℕ}
      → other_first ≡ first → other_seen ≡ seen → other_below ≡ below
      → tries ≤ clear_numbers wish first seen entry from below + more → tries ≤ clear_numbers wish other_first other_seen entry from other_below + more
  same_room entry from more tries {first} {other_first} {seen} {other_seen} {below} {other_below} f s b low =
      subst (λ size. tries ≤ clear_numbers wish size other_seen entry from other_below + more) (sym f)
      (subst (λ entries. tries ≤ clear_numbers wish first entries entry from other_below + more) (sym s)
      (subst (λ number. tries ≤ clear_numbers wish first seen entry from number + more) (sym b) low))

  -- the tries before a look have room below the number looked at
  look_room : (old new : Told) (before : PlainCommit) (entry : PlainRecord) (from : ℕ) → Lasts old new → looked_at before ≡ None
      → HasLooked old new → entry_under_way before ≡ Some entry → TriesHaveClearNumbers wish from old before
      → before.tries ≤ clear_numbers wish old.first new.seen entry from (length new.seen)
  look_room old new before entry from lasts none look is_entry room =
      omega (
        arith,
        room.enough entry is_entry,
        clear_more old.first new.seen old.seen entry from (looked_below before.phase old) (length new.seen) lasts.seen (below_seen before.phase old)
            (omega (arith, below_floor before.phase old none, look.answered.fresh, look.answered.stands.newest.number)),
      )

  pub room_after_clear : (old new : Told) (before after : PlainCommit) (number from : ℕ) → from ≤ length old.seen → Lasts old new
      → IsClearLook wish old new before after number → TriesHaveClearNumbers wish from old before → TriesHaveClearNumbers wish from new after
  room_after_clear old new before after number from low lasts event room = record {
    enough = λ entry is_entry.
        let was : entry_under_way before ≡ Some entry = sym event.keeps.entry ∙ is_entry in
        let tried : before.tries ≤ clear_numbers wish old.first new.seen entry from (length new.seen) =
        look_room old new before entry from lasts event.looked event.look was room in
        let clear : cancel_of old.first (wish new.seen entry.held entry.op) new.seen entry.held ≡ None = rw was at event.clear in
        let all : is_none (cancel_of old.first (wish (take (length new.seen) new.seen) entry.held entry.op) (take (length new.seen) new.seen) entry.held) ≡ true =
        ap (λ seen. is_none (cancel_of old.first (wish seen entry.held entry.op) seen entry.held)) (take-length new.seen) ∙ ap is_none clear in
        let further : suc (length new.seen - from) ≡ length new.seen + 1 - from = omega (arith, low, lasts.seen.within) in
        let more : clear_numbers wish old.first new.seen entry from (length new.seen + 1) ≡ clear_numbers wish old.first new.seen entry from (length new.seen) + 1 =
        subst (λ n. count_by (λ k. is_none (cancel_of old.first (wish (take k new.seen) entry.held entry.op) (take k new.seen) entry.held)) (range_with_len from n)
        ≡ clear_numbers wish old.first new.seen entry from (length new.seen) + 1) further
        (count_next _ from (length new.seen - from) (length new.seen) (omega (arith, low, lasts.seen.within)) all) in
        let tries : after.tries ≤ clear_numbers wish old.first new.seen entry from (length new.seen + 1) + 0 = omega (arith, tried, more, event.keeps.tries) in
        omega (arith, same_room entry from 0 after.tries lasts.first refl (below_ready after.phase new number event.keeps.looked) tries);
    once = λ _ _. omega (arith, event.keeps.tries);
  }

  pub room_after_late : (old new : Told) (before after : PlainCommit) (found from : ℕ) → Lasts old new
      → IsLateOffer wish old new before after found → TriesHaveClearNumbers wish from old before → TriesHaveClearNumbers wish from new after
  room_after_late old new before after found from lasts event room = record {
    enough = λ entry is_entry.
        let was : entry_under_way before ≡ Some entry = sym event.keeps.entry ∙ is_entry in
        let below : looked_below after.phase new ≡ looked_below before.phase old =
        omega (
          arith,
          below_again after.phase new entry event.keeps.looked is_entry,
          below_ready before.phase old (length old.seen) event.looked,
          event.behind.above,
          event.behind.reached,
          ap length event.stays.seen,
        ) in
        omega (arith, same_room entry from 0 after.tries lasts.first event.stays.seen below (omega (arith, room.enough entry was, event.keeps.tries)));
    once = λ _ some. some_none (sym some ∙ event.keeps.looked);
  }

  -- a committer that is as before has the room that it had
  pub room_stays : (old new : Told) (committer : PlainCommit) (from : ℕ) → Lasts old new → looked_below committer.phase old ≤ looked_below committer.phase new
      → TriesHaveClearNumbers wish from old committer → TriesHaveClearNumbers wish from new committer
  room_stays old new committer from lasts rises room = record {
    enough = λ entry is_entry.
        let tries : committer.tries ≤ clear_numbers wish old.first new.seen entry from (looked_below committer.phase new) + 0 =
        omega (
          arith,
          room.enough entry is_entry,
          clear_more old.first new.seen old.seen entry from (looked_below committer.phase old) (looked_below committer.phase new) lasts.seen
              (below_seen committer.phase old) rises,
        ) in
        omega (arith, same_room entry from 0 committer.tries lasts.first refl refl tries);
    once = room.once;
  }

  -- a commit that has ended tries no more
  room_ended : (from : ℕ) (told : Told) (committer : PlainCommit) → entry_under_way committer ≡ None → looked_at committer ≡ None → TriesHaveClearNumbers wish from told committer
  room_ended from told committer ended none = record {
    enough = λ entry some. some_none (sym some ∙ ended);
    once = λ number some. some_none (sym some ∙ none);
  }

  room_at_end : (old new : Told) (before after : PlainCommit) (answer : Answer) (now : Option KeptRevision) (from : ℕ)
      → IsEnd wish old new before after answer now → TriesHaveClearNumbers wish from new after
  room_at_end old new before after (Held at) now from event = absurd event
  room_at_end old new before after (Admitted number tries) now from event = room_ended from new after (ap entry_in event.ended) (ap look_in event.ended)
  room_at_end old new before after (Cancelled at tries cause) now from event = room_ended from new after (ap entry_in event.0.ended) (ap look_in event.0.ended)
  room_at_end old new before after (Mounted base to) now from event = absurd event
  room_at_end old new before after (Empty at) now from event = absurd event

  pub room_goes_on : (old new : Told) (before after : PlainCommit) (progress : Progress) (from : ℕ) → from ≤ length old.seen → Lasts old new
      → IsEvent wish old new before after progress → TriesHaveClearNumbers wish from old before → TriesHaveClearNumbers wish from new after
  room_goes_on old new before after (Looked at) from low lasts event room = room_after_clear old new before after at from low lasts event room
  room_goes_on old new before after (Again found) from low lasts event room = room_after_late old new before after found from lasts event room
  room_goes_on old new before after Busy from low lasts event room =
      subst (TriesHaveClearNumbers wish from new) (sym event.as_before.same) (room_stays old new before from lasts (below_rises before.phase old new lasts) room)
  room_goes_on old new before after (Done answer now) from low lasts event room = room_at_end old new before after answer now from event
  room_goes_on old new before after Memory from low lasts event room =
      subst (TriesHaveClearNumbers wish from new) (sym event.as_before.same) (room_stays old new before from lasts (below_rises before.phase old new lasts) room)

  pub room_at_cancel : (old new : Told) (before after : PlainCommit) (number count from : ℕ) (found : Cancel) (entry : PlainRecord) → Lasts old new
      → IsCancelledLook wish old new before after number count found → TriesHaveClearNumbers wish from old before → entry_under_way before ≡ Some entry
      → (1 ≤ count) × (count ≤ clear_numbers wish old.first new.seen entry from number + 1)
  room_at_cancel old new before after number count from found entry lasts event room is_entry = (
    omega (arith, event.tries),
    same_room entry from 1 count refl refl event.at (omega (arith, event.tries, look_room old new before entry from lasts event.looked event.look is_entry room)),
  )

  pub room_at_admission : (old new : Told) (before after : PlainCommit) (number count from : ℕ) (share : Option KeptRevision) → from ≤ length old.seen → Lasts old new
      → (event : IsAdmittedOffer wish old new before after number count share) → TriesHaveClearNumbers wish from old before
      → (1 ≤ count) × (count ≤ clear_numbers wish old.first new.seen event.entry from (number - 1) + 1)
  room_at_admission old new before after number count from share low lasts event room =
      let seen : number - 1 ≡ length old.seen = omega (arith, event.offer.number, ap length event.offer.seen, length-append old.seen (with_op (wish old.seen event.entry.held event.entry.op) event.entry ∷ [])) in
      let further : suc (length old.seen - from) ≡ length old.seen + 1 - from = omega (arith, low) in
      let top : clear_numbers wish old.first old.seen event.entry from (length old.seen + 1) ≤ clear_numbers wish old.first old.seen event.entry from (length old.seen) + 1 =
      subst (λ n. count_by (λ k. is_none (cancel_of old.first (wish (take k old.seen) event.entry.held event.entry.op) (take k old.seen) event.entry.held)) (range_with_len from n)
      ≤ clear_numbers wish old.first old.seen event.entry from (length old.seen) + 1) further (count_top _ from (length old.seen - from)) in
      let tried : before.tries ≤ clear_numbers wish old.first old.seen event.entry from (length old.seen + 1) =
      subst (λ below. before.tries ≤ clear_numbers wish old.first old.seen event.entry from below) (below_ready before.phase old (length old.seen) event.looked)
      (room.enough event.entry event.is_entry) in (
        omega (arith, room.once (length old.seen) event.looked, event.tries),
        same_room event.entry from 1 count refl refl seen
            (omega (
              arith,
              tried,
              top,
              event.tries,
              clear_more old.first new.seen old.seen event.entry from (length old.seen) (length old.seen) lasts.seen (omega arith) (omega arith),
            )),
      )
