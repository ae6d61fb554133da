-- The revision that may be mounted after one more record.
use Rattle.std.proofs.Common.{◌≡◌, ℕ, ◌+◌, ◌<◌, ◌≤◌, List, [], ◌∷◌, ◌++◌, length, length-take-le, take, take_all, true, false, cond, Option, Some, None, unwrap_or, nat_lt, arith, ap, sym, ◌∙◌, subst}
use Rattle.std.proofs.lemmas.Bool.Decides.{nat_tests}
use Rattle.std.proofs.lemmas.List.{take-append-le}
use Rattle.shadow_frame.specs.declared.Size.{Size}
use Rattle.tree_revision.specs.Records.{PlainOp, complete, state, props, resize, stop, suspend, resume, PlainRecord}
use Rattle.tree_revision.specs.Mountable.{mountable_of}
use Rattle.tree_revision.specs.Settled.{SettledRevision, KeptRevision}
use Rattle.tree_revision.specs.Stands.{HasContentOf, StandsFor}
use Rattle.tree_revision.specs.Prepared.{mountable_next}
use Rattle.tree_revision.proofs.Mountable.{still_after, still_from, still_from-append, mountable_of-still}

-- mounting stands still at an older number, or goes on
abbrev IsBelow : ℕ → Option ℕ → Type 0
IsBelow number None = Unit {0}
IsBelow number (Some still) = still < number

-- a number is older also for the next one
below_next : (number : ℕ) (still : Option ℕ) → IsBelow number still → IsBelow (number + 1) still
below_next number None h = tt
below_next number (Some still) h = omega arith

-- after a change
below_after : (number : ℕ) (op : PlainOp) (still : Option ℕ) → IsBelow number still → IsBelow (number + 1) (still_after number op still)
below_after number (complete nodes) still h = below_next number still h
below_after number (state tag change) still h = below_next number still h
below_after number (props tag change) still h = below_next number still h
below_after number (resize size) still h = below_next number still h
below_after number stop still h = below_next number still h
below_after number suspend None h = omega arith
below_after number suspend (Some still) h = omega arith
below_after number resume still h = tt

-- after more records
below_from : (number : ℕ) (still : Option ℕ) (entries : List PlainRecord) → IsBelow number still → IsBelow (number + length entries) (still_from number still entries)
below_from number still [] h = subst (λ n. IsBelow n still) (omega arith) h
below_from number still (entry ∷ entries) h =
    subst (λ n. IsBelow n (still_from (number + 1) (still_after number entry.op still) entries)) (omega arith)
    (below_from (number + 1) (still_after number entry.op still) entries (below_after number entry.op still h))

-- where mounting stands still after one more record
still_from-push : (entries : List PlainRecord) (entry : PlainRecord) → still_from 0 None (entries ++ entry ∷ []) ≡ still_after (length entries) entry.op (still_from 0 None entries)
still_from-push entries entry =
    still_from-append 0 None entries (entry ∷ []) ∙ ap (λ n. still_after n entry.op (still_from 0 None entries)) (omega arith)

-- the revisions that may be mounted before and after one more record
module _ (first : Size) (front : KeptRevision) (next : SettledRevision) (entries : List PlainRecord) (entry : PlainRecord) where
  -- what is older has as many of the first records as before
  older : (number : ℕ) → number ≤ length entries → HasContentOf first front.mountable (take number entries) → HasContentOf first front.mountable (take number (entries ++ entry ∷ []))
  older number le was = subst (HasContentOf first front.mountable) (sym (take-append-le number entries (entry ∷ []) le)) was

  -- the next one has all
  newer : HasContentOf first next (entries ++ entry ∷ []) → HasContentOf first next (take (length (entries ++ entry ∷ [])) (entries ++ entry ∷ []))
  newer is = subst (HasContentOf first next) (sym (take_all (length (entries ++ entry ∷ [])) (entries ++ entry ∷ []) (omega arith))) is

  -- after a change that neither suspends nor resumes
  as_before : (still : Option ℕ) → IsBelow (length entries) still → front.newest.number ≡ length entries
      → HasContentOf first front.mountable (take (unwrap_or still (length entries)) entries) → HasContentOf first next (entries ++ entry ∷ [])
      → HasContentOf first (cond (nat_lt front.mountable.number front.newest.number) front.mountable next)
      (take (unwrap_or still (length (entries ++ entry ∷ []))) (entries ++ entry ∷ []))
  as_before None below number was is =
      let count : front.mountable.number ≡ length entries = was.number ∙ ap length (take_all (length entries) entries (omega arith)) in
      let same : nat_lt front.mountable.number front.newest.number ≡ false = grind (arith, nat_tests) in
      subst (λ b. HasContentOf first (cond b front.mountable next) (take (length (entries ++ entry ∷ [])) (entries ++ entry ∷ []))) (sym same) (newer is)
  as_before (Some still) below number was is =
      let count : front.mountable.number ≡ still = was.number ∙ length-take-le still entries (omega arith) in
      let older_one : nat_lt front.mountable.number front.newest.number ≡ true = grind (arith, nat_tests) in
      subst (λ b. HasContentOf first (cond b front.mountable next) (take still (entries ++ entry ∷ []))) (sym older_one) (older still (omega arith) was)

  -- after any change
  after_change : (op : PlainOp) (still : Option ℕ) → IsBelow (length entries) still → front.newest.number ≡ length entries
      → HasContentOf first front.mountable (take (unwrap_or still (length entries)) entries) → HasContentOf first next (entries ++ entry ∷ [])
      → HasContentOf first (mountable_next op front next) (take (unwrap_or (still_after (length entries) op still) (length (entries ++ entry ∷ []))) (entries ++ entry ∷ []))
  after_change (complete nodes) still below number was is = as_before still below number was is
  after_change (state tag change) still below number was is = as_before still below number was is
  after_change (props tag change) still below number was is = as_before still below number was is
  after_change (resize size) still below number was is = as_before still below number was is
  after_change stop still below number was is = as_before still below number was is
  after_change suspend None below number was is = older (length entries) (omega arith) was
  after_change suspend (Some still) below number was is = older still (omega arith) was
  after_change resume still below number was is = newer is

  -- the revision that may be mounted next has the content of the first that may be mounted
  pub mountable_next-stands : StandsFor first front entries → HasContentOf first next (entries ++ entry ∷ [])
      → HasContentOf first (mountable_next entry.op front next) (take (mountable_of (entries ++ entry ∷ [])) (entries ++ entry ∷ []))
  mountable_next-stands stands is =
      let still = still_from 0 None entries in
      let all = entries ++ entry ∷ [] in
      let below : IsBelow (length entries) still = subst (λ n. IsBelow n still) (omega arith) (below_from 0 None entries tt) in
      let before : HasContentOf first front.mountable (take (unwrap_or still (length entries)) entries) =
      subst (λ n. HasContentOf first front.mountable (take n entries)) (mountable_of-still entries) stands.mountable in
      let number : mountable_of all ≡ unwrap_or (still_after (length entries) entry.op still) (length all) =
      mountable_of-still all ∙ ap (λ still. unwrap_or still (length all)) (still_from-push entries entry) in
      rw number (after_change entry.op still below stands.newest.number before is)
