-- The events of a commit, from what the port answers.
use Rattle.std.proofs.Common.{◌≡◌, ℕ, ◌+◌, ◌-◌, ◌≤◌, ◌<◌, List, [], ◌∷◌, ◌++◌, length, take, drop, arith, refl, ap, sym, ◌∙◌, subst, length-append, append_assoc, inr}
use Rattle.std.proofs.lemmas.List.{take-append-drop, take-append-le, append-nil}
use Rattle.std.specs.Prelude.{◌≢◌, Option, Some, None, Result, Ok, Err, IfErr}
use Rattle.shadow_frame.specs.declared.Size.{Size}
use Rattle.tree_revision.specs.declared.record.Cancel.{Cancel}
use Rattle.tree_revision.specs.Records.{PlainOp, PlainRecord}
use Rattle.tree_revision.specs.Cancels.{cancel_of}
use Rattle.tree_revision.specs.Lawful.{MayFollow, MayAllFollow}
use Rattle.tree_revision.specs.Settled.{KeptRevision}
use Rattle.tree_revision.specs.Stands.{StandsFor}
use Rattle.tree_revision.specs.OneMore.{StandsForOneMore, IsCancelledFor}
use Rattle.tree_revision.specs.declared.next.PrepareRefusal.{PrepareRefusal}
use Rattle.tree_revision.specs.declared.next.PrepareRefusal.TheVariants.{Cancel as CancelRefusal}
use Rattle.tree_revision.specs.Wishes.{Wish}
use Rattle.tree_revision.specs.Ports.{Told, BeginsWith, Lasts, IsLook, IsOffer, Stays}
use Rattle.commit_core.specs.declared.committer.Progress.{Progress}
use Rattle.commit_core.specs.declared.committer.Progress.TheVariants.{Again}
use Rattle.commit_core.specs.Commit.{CommitPhase, fresh, ready, over, PlainCommit, with_op, commit_in, look_in, looked_at}
use Rattle.commit_core.specs.Hooks.{IsWishedOf, StandForSome}
use Rattle.commit_core.specs.Events.{MayBeTried, MayLook, MayOffer, IsClearLook, IsCancelledLook, IsAdmittedOffer, IsFoundBehind, IsLateOffer, IsLookInVain, IsReadyIn, IsReadyFor, IsEvent}

-- the first of some records, of which more came
pub take_begins : (longer shorter : List PlainRecord) (count : ℕ) → BeginsWith longer shorter → count ≤ length shorter → take count longer ≡ take count shorter
take_begins longer shorter count begins low =
    let whole : shorter ++ drop (length shorter) longer ≡ longer =
    ap (λ front. front ++ drop (length shorter) longer) (sym begins.same) ∙ take-append-drop (length shorter) longer in
    subst (λ list. take count list ≡ take count shorter) whole (take-append-le count shorter (drop (length shorter) longer) low)

-- a record that may be tried stays so as more is seen
pub tried_later : (first : Size) (longer shorter : List PlainRecord) (held : KeptRevision) (entry : PlainRecord)
    → BeginsWith longer shorter → MayBeTried first shorter held entry → MayBeTried first longer held entry
tried_later first longer shorter held entry begins may =
    let same : take entry.held longer ≡ take entry.held shorter = take_begins longer shorter entry.held begins may.within in
    record {
      in_range = may.in_range;
      within = omega (arith, may.within, begins.within);
      stands = rw same may.stands;
    }

-- the last record of a lawful list may follow those before it
last_follows : (first : Size) (before entries : List PlainRecord) (entry : PlainRecord)
    → MayAllFollow first before (entries ++ entry ∷ []) → MayFollow first (before ++ entries) entry
last_follows first before [] entry all = subst (λ list. MayFollow first list entry) (sym (append-nil before)) all.0
last_follows first before (e ∷ entries) entry all =
    subst (λ list. MayFollow first list entry) (append_assoc before (e ∷ []) entries) (last_follows first (before ++ e ∷ []) entries entry all.1)

-- a commit that may look stays so as the port goes on
pub look_later : (old new : Told) (held : KeptRevision) (tries : ℕ) (entry : PlainRecord) → Lasts old new
    → MayLook old held tries entry → MayLook new held tries entry
look_later old new held tries entry lasts may = record {
  may = subst (λ first. MayBeTried first new.seen held entry) (sym lasts.first) (tried_later old.first new.seen old.seen held entry lasts.seen may.may);
  looks = omega (arith, may.looks, lasts.floor);
}

abbrev IsFound : {A : Type 0} → Option A → Type 0
IsFound (Some x) = Unit {0}
IsFound None = ⊥

-- the parts of two commits that are the same
pub same_held : {one other : PlainCommit} → one ≡ other → one.held ≡ other.held
same_held same = ap (λ (commit : PlainCommit). commit.held) same

pub same_tries : {one other : PlainCommit} → one ≡ other → one.tries ≡ other.tries
same_tries same = ap (λ (commit : PlainCommit). commit.tries) same

-- a commit that may look stands over what is seen then, with the revision that it holds
pub some_stand : (old new : Told) (held : KeptRevision) (tries : ℕ) (entry : PlainRecord) (front now : KeptRevision)
    → MayLook old held tries entry → Lasts old new → IsLook old new front → now ≡ held → StandForSome front now
some_stand old new held tries entry front now may lasts look same =
    let later : MayBeTried old.first new.seen held entry = tried_later old.first new.seen old.seen held entry lasts.seen may.may in
    (old.first, new.seen, entry.held, look.stands, rw same later.stands)

abbrev commit_of : CommitPhase → (held : KeptRevision) → (tries : ℕ) → PlainCommit
commit_of phase held tries = record { phase = phase; held = held; tries = tries }

-- commits in the same phase
commits_alike : {one other : CommitPhase} (held : KeptRevision) (tries : ℕ) → one ≡ other → commit_of one held tries ≡ commit_of other held tries
commits_alike held tries same = ap (λ phase. commit_of phase held tries) same

-- commits that are to be offered, by their parts
pub ready_with : {entry other : PlainRecord} {op wished : PlainOp} {next after : KeptRevision} (held : KeptRevision) (tries : ℕ) → entry ≡ other → op ≡ wished → next ≡ after
    → commit_of (ready entry op next) held tries ≡ commit_of (ready other wished after) held tries
ready_with {entry} {other} {op} {wished} {next} {after} held tries e o n =
    commits_alike held tries (ap (λ entry. ready entry op next) e ∙ ap (λ op. ready other op next) o ∙ ap (λ next. ready other wished next) n)

-- where a commit asks for what is wished of it
module _ (wish : Wish) where
  -- a commit that may be offered stays so while nothing more is seen
  pub offer_later : (old new : Told) (held : KeptRevision) (tries : ℕ) (entry : PlainRecord) (wished : PlainOp) (next : KeptRevision) → Lasts old new → new.seen ≡ old.seen
      → MayOffer wish old held tries entry wished next → MayOffer wish new held tries entry wished next
  offer_later old new held tries entry wished next lasts same may = record {
    may = rw (lasts.first, same) may.may;
    asked = rw same may.asked;
    stands = rw (lasts.first, same) may.stands;
    looks = omega (arith, may.looks, ap length same);
  }

  in_phase_looks : (old new : Told) (held : KeptRevision) (tries : ℕ) (phase : CommitPhase) → Lasts old new → look_in phase ≡ None
      → IsReadyIn wish old held tries phase → IsReadyIn wish new held tries phase
  in_phase_looks old new held tries (fresh entry) lasts none may = look_later old new held tries entry lasts may
  in_phase_looks old new held tries (ready entry wished next) lasts none may = absurd (subst IsFound none tt)
  in_phase_looks old new held tries over lasts none may = absurd may

  in_phase_ready : (old new : Told) (held : KeptRevision) (tries : ℕ) (phase : CommitPhase) → Lasts old new → new.seen ≡ old.seen
      → IsReadyIn wish old held tries phase → IsReadyIn wish new held tries phase
  in_phase_ready old new held tries (fresh entry) lasts same may = look_later old new held tries entry lasts may
  in_phase_ready old new held tries (ready entry wished next) lasts same may = offer_later old new held tries entry wished next lasts same may
  in_phase_ready old new held tries over lasts same may = absurd may

  pub looks_later : (old new : Told) (commit : PlainCommit) → Lasts old new → looked_at commit ≡ None → IsReadyFor wish old commit → IsReadyFor wish new commit
  looks_later old new commit lasts none may = in_phase_looks old new commit.held commit.tries commit.phase lasts none may

  pub ready_later : (old new : Told) (commit : PlainCommit) → Lasts old new → new.seen ≡ old.seen → IsReadyFor wish old commit → IsReadyFor wish new commit
  ready_later old new commit lasts same may = in_phase_ready old new commit.held commit.tries commit.phase lasts same may

  pub clear_look : (old new : Told) (before after : PlainCommit) (entry : PlainRecord) (op wished : PlainOp) (front held next : KeptRevision) (tries number : ℕ)
      → MayLook old before.held before.tries entry → Lasts old new → IsLook old new front
      → held ≡ before.held → op ≡ entry.op → IsWishedOf wish front held op wished → StandsForOneMore wished front held next
      → tries ≡ before.tries + 1 → number ≡ front.newest.number
      → after ≡ record { phase = ready entry wished next; held = held; tries = tries }
      → IsClearLook wish old new (commit_in (fresh entry) before) after number
  clear_look old new before after entry op wished front held next tries number may lasts look same_held same_op asked prepared count at same =
      let later : MayBeTried old.first new.seen before.held entry = tried_later old.first new.seen old.seen before.held entry lasts.seen may.may in
      let held_stands : StandsFor old.first held (take entry.held new.seen) = rw same_held later.stands in
      let is_wished : wished ≡ wish new.seen entry.held entry.op =
      asked old.first new.seen entry.held look.stands held_stands ∙ ap (wish new.seen entry.held) same_op in
      let stands : StandsFor old.first next (new.seen ++ with_op wished entry ∷ []) =
      prepared old.first new.seen (with_op wished entry) look.stands later.within held_stands refl in
      let clear : cancel_of old.first wished new.seen entry.held ≡ None = (last_follows old.first [] new.seen (with_op wished entry) stands.lawful).admitted in
      let reached : number ≡ length new.seen = at ∙ look.stands.newest.number in
      let next_number : next.newest.number - 1 ≡ number = omega (arith, reached, stands.newest.number, length-append new.seen (with_op wished entry ∷ [])) in
      subst (λ commit. IsClearLook wish old new (commit_in (fresh entry) before) commit number) (sym same) (record {
        looked = refl;
        look = record { front = front; answered = look };
        at = reached;
        clear = subst (λ op. cancel_of old.first op new.seen entry.held ≡ None) is_wished clear;
        keeps = record {
          entry = refl;
          held = same_held;
          tries = count;
          looked = ap Some next_number;
        };
        ready = record {
          may = rw (lasts.first, same_held) later;
          asked = is_wished;
          stands = rw lasts.first stands;
          looks = omega (arith, count, may.looks, look.fresh, at, reached);
        };
      })

  pub cancelled_look : (old new : Told) (before after : PlainCommit) (entry : PlainRecord) (op : PlainOp) (front held : KeptRevision)
      (tries number : ℕ) (cause : Cancel)
      → MayLook old before.held before.tries entry → Lasts old new → IsLook old new front
      → held ≡ before.held → op ≡ entry.op
      → ((first : Size) (entries : List PlainRecord) (at : ℕ) → StandsFor first front entries → StandsFor first held (take at entries)
      → cancel_of first (wish entries at op) entries at ≡ Some cause)
      → after.phase ≡ over → tries ≡ before.tries + 1 → number ≡ front.newest.number
      → IsCancelledLook wish old new (commit_in (fresh entry) before) after number tries cause
  cancelled_look old new before after entry op front held tries number cause may lasts look same_held same_op cancelled ended count at =
      let later : MayBeTried old.first new.seen before.held entry = tried_later old.first new.seen old.seen before.held entry lasts.seen may.may in
      record {
        looked = refl;
        look = record { front = front; answered = look };
        at = at ∙ look.stands.newest.number;
        cause = subst (λ o. cancel_of old.first (wish new.seen entry.held o) new.seen entry.held ≡ Some cause) same_op
            (cancelled old.first new.seen entry.held look.stands (rw same_held later.stands));
        tries = count;
        ended = ended;
      }

  pub look_in_vain : (old new : Told) (before after : PlainCommit) (entry : PlainRecord) (front : KeptRevision)
      → MayLook old before.held before.tries entry → Lasts old new → IsLook old new front
      → after ≡ commit_in (fresh entry) before
      → IsLookInVain wish old new (commit_in (fresh entry) before) after
  look_in_vain old new before after entry front may lasts look same = record {
    as_before = record { same = same; ready = subst (IsReadyFor wish new) (sym same) (look_later old new before.held before.tries entry lasts may) };
    looked = refl;
    look = inr (record { front = front; answered = look });
  }

  pub admitted_offer : (old new : Told) (before after : PlainCommit) (entry : PlainRecord) (wished : PlainOp) (next now : KeptRevision) (number tries : ℕ)
      → MayOffer wish old before.held before.tries entry wished next → Lasts old new → IsOffer old new (with_op wished entry) number
      → now ≡ next → after.phase ≡ over → tries ≡ before.tries
      → IsAdmittedOffer wish old new (commit_in (ready entry wished next) before) after number tries (Some now)
  admitted_offer old new before after entry wished next now number tries may lasts offer shares ended count =
      let next_number : next.newest.number - 1 ≡ length old.seen = omega (arith, may.stands.newest.number, length-append old.seen (with_op wished entry ∷ [])) in
      record {
        looked = ap Some next_number;
        entry = entry;
        is_entry = refl;
        offer = subst (λ op. IsOffer old new (with_op op entry) number) may.asked offer;
        tries = count;
        ended = ended;
        revision = next;
        now = ap Some shares;
        stands = rw (lasts.first, offer.seen) may.stands;
      }

  -- the late offer of an event
  pub found_behind : (old new : Told) (before after : PlainCommit) (progress : Progress) (found : ℕ) → progress ≡ Again found
      → IsEvent wish old new before after progress → IsFoundBehind old new found
  found_behind old new before after progress found same event =
      let late : IsLateOffer wish old new before after found = subst (λ p. IsEvent wish old new before after p) same event in late.behind

  -- a commit that may be offered was offered too late: it is to look again
  pub late_offer : (old new : Told) (before after : PlainCommit) (entry : PlainRecord) (wished : PlainOp) (next : KeptRevision) (found : ℕ)
      → MayOffer wish old before.held before.tries entry wished next → Lasts old new → Stays old new
      → length old.seen < found → found ≤ new.floor → ((entries : List PlainRecord) → old.whole ≡ Some entries → old.seen ≢ entries)
      → after ≡ commit_in (fresh entry) before
      → IsLateOffer wish old new (commit_in (ready entry wished next) before) after found
  late_offer old new before after entry wished next found may lasts stays above reached whole same =
      let next_number : next.newest.number - 1 ≡ length old.seen = omega (arith, may.stands.newest.number, length-append old.seen (with_op wished entry ∷ [])) in
      subst (λ commit. IsLateOffer wish old new (commit_in (ready entry wished next) before) commit found) (sym same) (record {
        looked = ap Some next_number;
        stays = stays;
        behind = record { above = above; reached = reached; seen = stays.seen };
        whole = whole;
        keeps = record { entry = refl; held = refl; tries = refl; looked = refl };
        ready = record {
          may = rw lasts.first (tried_later old.first new.seen old.seen before.held entry lasts.seen may.may);
          looks = omega (arith, may.looks, above, reached);
        };
      })

  -- a cancel of what was wished is one of a commit that asks for that
  pub cancelled_as_wished : {A : Type 0} (front held : KeptRevision) (op wished : PlainOp) (result : Result A PrepareRefusal) → IsWishedOf wish front held op wished
      → IfErr result (IsCancelledFor wished front held)
      → IfErr result (λ refusal. (cause : Cancel) → refusal ≡ CancelRefusal cause → (first : Size) (entries : List PlainRecord) (number : ℕ) → StandsFor first front entries
      → StandsFor first held (take number entries) → cancel_of first (wish entries number op) entries number ≡ Some cause)
  cancelled_as_wished front held op wished (Ok value) asked cancelled = tt
  cancelled_as_wished front held op wished (Err refusal) asked cancelled = λ cause same first entries number f h.
      subst (λ op. cancel_of first op entries number ≡ Some cause) (asked first entries number f h) (cancelled cause same first entries number f h)
