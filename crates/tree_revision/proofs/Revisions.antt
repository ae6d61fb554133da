-- The revisions of a history, one record after another.
use Rattle.std.proofs.Common.{◌≡◌, ℕ, zero, suc, ◌+◌, ◌≤◌, inl, inr, List, [], ◌∷◌, ◌++◌, length, take, drop, arith, refl, ap, sym, ◌∙◌, subst, length-append, length-take-le, take_all, unwrap_or}
use Rattle.std.proofs.lemmas.Bool.{cases_lt}
use Rattle.std.specs.Prelude.{slice_get}
use Rattle.std.specs.List.{fold}
use Rattle.std.proofs.lemmas.List.{take-append-drop}
use Rattle.std.proofs.lemmas.List.Sums.{fold-append}
use Rattle.std.proofs.lemmas.Option.{slice_get_past}
use Rattle.shadow_frame.specs.declared.Size.{Size}
use Rattle.tree_revision.specs.Records.{PlainRecord}
use Rattle.tree_revision.specs.Revisions.{PlainRevisions, opening, revision_after, revision_numbered, one_more_revision, revisions_of, revision_of}

-- the number of the newest is the count of the earlier ones
newest_numbered : (revisions : PlainRevisions) (number : ℕ) → length revisions.earlier ≤ number → revision_numbered revisions number ≡ revisions.newest
newest_numbered revisions number above = ap (λ found. unwrap_or found revisions.newest) (slice_get_past revisions.earlier number above)

-- at a place up to the end, one more element stands where the default did
get-push : {A : Type 0} (l : List A) (x other : A) (i : ℕ) → i ≤ length l → unwrap_or (slice_get (l ++ x ∷ []) i) other ≡ unwrap_or (slice_get l i) x
get-push [] x other zero h = refl
get-push [] x other (suc i) h = absurd (omega arith)
get-push (y ∷ l) x other zero h = refl
get-push (y ∷ l) x other (suc i) h = get-push l x other i (omega arith)

-- more revisions leave each at its number
numbered-stays : (revisions : PlainRevisions) (entries : List PlainRecord) (number : ℕ) → number ≤ length revisions.earlier
    → revision_numbered (fold one_more_revision revisions entries) number ≡ revision_numbered revisions number
numbered-stays revisions [] number h = refl
numbered-stays revisions (entry ∷ entries) number h =
    let more = one_more_revision revisions entry in
    numbered-stays more entries number (omega (arith, length-append revisions.earlier (revisions.newest ∷ [])))
    ∙ get-push revisions.earlier revisions.newest more.newest number h

-- each record leads to one more revision
length-earlier : (revisions : PlainRevisions) (entries : List PlainRecord)
    → length (fold one_more_revision revisions entries).earlier ≡ length revisions.earlier + length entries
length-earlier revisions [] = omega arith
length-earlier revisions (entry ∷ entries) =
    omega (arith, length-earlier (one_more_revision revisions entry) entries, length-append revisions.earlier (revisions.newest ∷ []))

-- as many revisions are earlier than the newest as there are records
length-revisions_of : (first : Size) (entries : List PlainRecord) → length (revisions_of first entries).earlier ≡ length entries
length-revisions_of first entries = omega (arith, length-earlier (record { earlier = []; newest = opening first }) entries)

-- the revision of the first part stands at its number among those of all records
pub revision_numbered-front : (first : Size) (us vs : List PlainRecord) → revision_numbered (revisions_of first (us ++ vs)) (length us) ≡ revision_of first us
revision_numbered-front first us vs =
    let before = revisions_of first us in
    ap (λ revisions. revision_numbered revisions (length us)) (fold-append one_more_revision (record { earlier = []; newest = opening first }) us vs)
    ∙ numbered-stays before vs (length us) (omega (arith, length-revisions_of first us))
    ∙ newest_numbered before (length us) (omega (arith, length-revisions_of first us))

-- the revision of a number is that of as many of the first records
pub revision_numbered-take : (first : Size) (entries : List PlainRecord) (number : ℕ)
    → revision_numbered (revisions_of first entries) number ≡ revision_of first (take number entries)
revision_numbered-take first entries number =
    elim (cases_lt (length entries) number) as (λ c. revision_numbered (revisions_of first entries) number ≡ revision_of first (take number entries)) [
      | inl above ↦
          newest_numbered (revisions_of first entries) number (omega (arith, length-revisions_of first entries))
          ∙ ap (revision_of first) (sym (take_all number entries (omega arith)))
      | inr within ↦
          let front = take number entries in
          subst (λ n. revision_numbered (revisions_of first entries) n ≡ revision_of first front) (length-take-le number entries within)
          (subst (λ l. revision_numbered (revisions_of first l) (length front) ≡ revision_of first front) (take-append-drop number entries)
          (revision_numbered-front first front (drop number entries)))
    ]

-- one more record leads from the newest revision, and from the one that its caller held, to the next
pub revision_of-push : (first : Size) (entries : List PlainRecord) (entry : PlainRecord)
    → revision_of first (entries ++ entry ∷ []) ≡ revision_after entry.op (revision_of first entries) (revision_of first (take entry.held entries))
revision_of-push first entries entry =
    ap (λ revisions. revisions.newest) (fold-append one_more_revision (record { earlier = []; newest = opening first }) entries (entry ∷ []))
    ∙ ap (revision_after entry.op (revision_of first entries)) (revision_numbered-take first entries entry.held)

-- the same of a record whose caller held a revision of the list
pub revision_of-next : (first : Size) (entries : List PlainRecord) (entry : PlainRecord) → entry.held ≤ length entries
    → revision_of first (entries ++ entry ∷ []) ≡ revision_after entry.op (revision_of first entries) (revision_of first (take entry.held entries))
revision_of-next first entries entry h = revision_of-push first entries entry
