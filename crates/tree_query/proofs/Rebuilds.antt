-- Rebuilds that grow by one record, and what a change leads to in them.
use Rattle.std.proofs.Common.{◌≡◌, ◌+◌, ◌-◌, ◌<◌, ◌≤◌, ℕ, zero, suc, List, [], ◌∷◌, ◌++◌, length, take, get_or, Option, Some, None, Result, Ok, Err, refl, ap, sym, subst, ◌∙◌, arith, inl, inr, append_assoc, length-append}
use Rattle.std.proofs.lemmas.Bool.{cases_lt}
use Rattle.std.proofs.lemmas.List.{append-nil, get_or_push, length-take-le, take-append-le}
use Rattle.std.proofs.lemmas.Option.{none-some, same_Some, slice_get-get_or, slice_get_within}
use Rattle.std.proofs.Math.ListN.{get_or-append}
use Rattle.std.proofs.Math.Seq.{take-length}
use Rattle.std.specs.Prelude.{slice_get}
use Rattle.std.specs.Result.{result_err}
use Rattle.shadow_frame.specs.declared.Size.{Size}
use Rattle.tree_revision.specs.Records.{PlainOp, PlainRecord}
use Rattle.tree_revision.specs.Cancels.{cancel_of}
use Rattle.tree_revision.specs.Lawful.{MayAllFollow, MayFollow}
use Rattle.tree_revision.specs.OneMore.{IsCancelledFor, StandsForOneMore}
use Rattle.tree_revision.specs.Settled.{KeptRevision}
use Rattle.tree_revision.specs.Stands.{StandsFor}
use Rattle.tree_revision.specs.declared.record.Cancel.{Cancel}
use Rattle.tree_revision.specs.declared.next.PrepareRefusal.{PrepareRefusal}
use Rattle.tree_revision.specs.declared.next.PrepareRefusal.TheVariants.{Cancel as CancelRefusal}
use Rattle.tree_query.specs.LedTo.{IsNextAfter, LeadsTo}
use Rattle.tree_query.specs.Rebuilt.{PlainRebuild, IsCauseAt, IsRebuildOf, last_number}

-- the first of some first elements are the first elements
taken : {A : Type 0} (less more : ℕ) (xs : List A) → less ≤ more → take less (take more xs) ≡ take less xs
taken zero more xs le = refl
taken (suc less) zero xs le = absurd (omega (arith, le))
taken (suc less) (suc more) [] le = refl
taken (suc less) (suc more) (x ∷ xs) le = ap (λ l. x ∷ l) (taken less more xs (omega (arith, le)))

none_taken : {A : Type 0} (n : ℕ) → take {A = A} n [] ≡ []
none_taken zero = refl
none_taken (suc n) = refl

-- the last record of a lawful list may follow those before it
last_may : (first : Size) (before entries : List PlainRecord) (entry : PlainRecord) → MayAllFollow first before (entries ++ entry ∷ []) → MayFollow first (before ++ entries) entry
last_may first before [] entry all = subst (λ l. MayFollow first l entry) (sym (append-nil before)) all.0
last_may first before (e ∷ entries) entry all =
    subst (λ l. MayFollow first l entry) (append_assoc before (e ∷ []) entries) (last_may first (before ++ e ∷ []) entries entry all.1)

-- the revision of a number stands for as many of the first records
stands_at : (first : Size) (rebuild : PlainRebuild) (entries : List PlainRecord) (number : ℕ) (d : KeptRevision) → IsRebuildOf first rebuild entries → number < length rebuild
    → d ≡ get_or rebuild number d → StandsFor first d (take number entries)
stands_at first rebuild entries number d h within is = h.each number d (slice_get-get_or rebuild number d within ∙ ap Some (sym is))

-- what is prepared at the revision of a number, by a caller that holds that of another
module _ (rebuild : PlainRebuild) (op : PlainOp) (at held : ℕ) (front own : KeptRevision) (le : held ≤ at) (within : at < length rebuild)
    (front_is : front ≡ get_or rebuild at front) (own_is : own ≡ get_or rebuild held own) where
  own_stands : (first : Size) (entries : List PlainRecord) → IsRebuildOf first rebuild entries → StandsFor first own (take held (take at entries))
  own_stands first entries h = subst (StandsFor first own) (sym (taken held at entries le)) (stands_at first rebuild entries held own h (omega (arith, le, within)) own_is)

  -- leads to the revision of one record more
  pub leads_to : (next : KeptRevision) → StandsForOneMore op front own next → LeadsTo rebuild op at held next
  leads_to next more = λ first entries entry h is_op is_held.
      let count : length (take at entries) ≡ at = length-take-le at entries (omega (arith, h.count, within)) in
      more first (take at entries) entry (stands_at first rebuild entries at front h within front_is) (omega (arith, is_held, count, le))
      (subst (λ n. StandsFor first own (take n (take at entries))) (sym is_held) (own_stands first entries h)) is_op

  -- and is refused for the cause of a cancel
  pub cancelled_at : (refusal : PrepareRefusal) (cause : Cancel) → refusal ≡ CancelRefusal cause → IsCancelledFor op front own refusal → IsCauseAt rebuild op at held (Some cause)
  cancelled_at refusal cause is cancelled = λ first entries h.
      cancelled cause is first (take at entries) held (stands_at first rebuild entries at front h within front_is) (own_stands first entries h)

-- a change that leads to a revision has no cause to be cancelled
pub no_cause : (rebuild : PlainRebuild) (op : PlainOp) (at held : ℕ) (next : KeptRevision) → LeadsTo rebuild op at held next → IsCauseAt rebuild op at held None
no_cause rebuild op at held next lead = λ first entries h.
    let entry : PlainRecord = record { actor = 0; call = 0; held = held; op = op } in
    let may : MayFollow first (take at entries) entry = last_may first [] (take at entries) entry (lead first entries entry h refl refl).lawful in
    may.admitted

-- a rebuild with the opening revision alone stands for no records
pub begun : (size : Size) (first : KeptRevision) → StandsFor size first [] → IsRebuildOf size (first ∷ []) []
begun size first h = record { count = omega arith; each = each }
  where
    each : (number : ℕ) (revision : KeptRevision) → slice_get (first ∷ []) number ≡ Some revision → StandsFor size revision (take number [])
    each zero revision is = subst (λ r. StandsFor size r []) (same_Some first revision is) h
    each (suc number) revision is = absurd (none-some revision is)

-- a rebuild with one revision more stands for one record more
pub grown : (first : Size) (rebuild : PlainRebuild) (entries : List PlainRecord) (entry : PlainRecord) (next : KeptRevision) → IsRebuildOf first rebuild entries
    → StandsFor first next (entries ++ entry ∷ []) → IsRebuildOf first (rebuild ++ next ∷ []) (entries ++ entry ∷ [])
grown first rebuild entries entry next h stands =
    record { count = omega (arith, h.count, length-append rebuild (next ∷ []), length-append entries (entry ∷ [])); each = each }
  where
    each : (number : ℕ) (revision : KeptRevision) → slice_get (rebuild ++ next ∷ []) number ≡ Some revision → StandsFor first revision (take number (entries ++ entry ∷ []))
    each number revision is =
        let within : number < length (rebuild ++ next ∷ []) = slice_get_within (rebuild ++ next ∷ []) number revision is in
        let here : get_or (rebuild ++ next ∷ []) number revision ≡ revision = same_Some (get_or (rebuild ++ next ∷ []) number revision) revision (sym (slice_get-get_or (rebuild ++ next ∷ []) number revision within) ∙ is) in
        elim (cases_lt number (length rebuild)) [
          | inl before ↦
              let old : get_or rebuild number revision ≡ revision = sym (get_or-append rebuild (next ∷ []) revision number before) ∙ here in
              subst (StandsFor first revision) (sym (take-append-le number entries (entry ∷ []) (omega (arith, h.count, before))))
              (stands_at first rebuild entries number revision h before (sym old))
          | inr after ↦
              let last : length rebuild ≡ number = omega (arith, after, within, length-append rebuild (next ∷ [])) in
              let same : next ≡ revision = sym (get_or_push rebuild next revision number last) ∙ here in
              let all : number ≡ length (entries ++ entry ∷ []) = omega (arith, last, h.count, length-append entries (entry ∷ [])) in
              subst (λ r. StandsFor first r (take number (entries ++ entry ∷ []))) same
              (subst (StandsFor first next) (sym (take-length (entries ++ entry ∷ [])) ∙ ap (λ n. take n (entries ++ entry ∷ [])) (sym all)) stands)
        ]

-- at the last number of a rebuild all of its records are taken
pub all_taken : (first : Size) (rebuild : PlainRebuild) (entries : List PlainRecord) → IsRebuildOf first rebuild entries → take (last_number rebuild) entries ≡ entries
all_taken first rebuild entries h =
    let all : last_number rebuild ≡ length entries = omega (arith, h.count) in
    ap (λ n. take n entries) all ∙ take-length entries

-- where a record's change leads to a revision at the last number, the rebuild with that revision stands for one record more
pub grown_by : (rebuild : PlainRebuild) (entry : PlainRecord) (next : KeptRevision) → LeadsTo rebuild entry.op (last_number rebuild) entry.held next
    → (first : Size) (entries : List PlainRecord) → IsRebuildOf first rebuild entries → IsRebuildOf first (rebuild ++ next ∷ []) (entries ++ entry ∷ [])
grown_by rebuild entry next lead first entries h =
    grown first rebuild entries entry next h
    (subst (λ l. StandsFor first next (l ++ entry ∷ [])) (all_taken first rebuild entries h) (lead first entries entry h refl refl))

-- a cause at the last number is that after all records
pub cause_after_all : (rebuild : PlainRebuild) (op : PlainOp) (held : ℕ) (cause : Option Cancel) → IsCauseAt rebuild op (last_number rebuild) held cause
    → (first : Size) (entries : List PlainRecord) → IsRebuildOf first rebuild entries → cancel_of first op entries held ≡ cause
cause_after_all rebuild op held cause is first entries h =
    ap (λ l. cancel_of first op l held) (sym (all_taken first rebuild entries h)) ∙ is first entries h

-- the cause, where there is one, of what a change leads to
pub cause_of_next : (rebuild : PlainRebuild) (op : PlainOp) (at held : ℕ) (answer : Result KeptRevision Cancel) → IsNextAfter rebuild op at held answer
    → IsCauseAt rebuild op at held (result_err answer)
cause_of_next rebuild op at held (Ok next) h = no_cause rebuild op at held next h
cause_of_next rebuild op at held (Err cause) h = h
