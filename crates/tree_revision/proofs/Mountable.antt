-- The number that may be mounted, as a history grows.
use Rattle.std.proofs.Common.{◌≡◌, ℕ, ◌+◌, ◌-◌, ◌≤◌, List, [], ◌∷◌, ◌++◌, length, Bool, true, false, cond, not, arith, refl, ap, sym, ◌∙◌, subst, length-append, append_assoc, append-nil, reverse}
use Rattle.std.specs.Prelude.{Option, Some, None, unwrap_or}
use Rattle.std.specs.List.{before_first}
use Rattle.std.proofs.lemmas.List.{reverse-append}
use Rattle.std.proofs.lemmas.List.Sums.{take_while-cons}
use Rattle.tree_revision.specs.Records.{PlainOp, complete, state, props, resize, stop, suspend, resume, PlainRecord}
use Rattle.tree_revision.specs.Mountable.{is_suspend, is_resume, after_last_resume, from_first_suspend, held_back, mountable_of}

-- the number at which mounting stands still after a change, where it does: a suspend lets it stand at the number before, and a resume lets it go on
abbrev pub still_after : (number : ℕ) → PlainOp → Option ℕ → Option ℕ
still_after number suspend still = Some (unwrap_or still number)
still_after number resume still = None
still_after number _ still = still

-- the same after more records than that number
abbrev pub still_from : (number : ℕ) → Option ℕ → List PlainRecord → Option ℕ
still_from number still [] = still
still_from number still (entry ∷ entries) = still_from (number + 1) (still_after number entry.op still) entries

-- more records are taken after those before them
pub still_from-append : (number : ℕ) (still : Option ℕ) (us vs : List PlainRecord)
    → still_from number still (us ++ vs) ≡ still_from (number + length us) (still_from number still us) vs
still_from-append number still [] vs = ap (λ n. still_from n still vs) (omega arith)
still_from-append number still (u ∷ us) vs =
    still_from-append (number + 1) (still_after number u.op still) us vs
    ∙ ap (λ n. still_from n (still_from (number + 1) (still_after number u.op still) us) vs) (omega arith)

-- after one more record, the records after the last resume are none, or those before and this one
after_last_resume-push : (entries : List PlainRecord) (entry : PlainRecord)
    → after_last_resume (entries ++ entry ∷ []) ≡ cond (is_resume entry.op) [] (after_last_resume entries ++ entry ∷ [])
after_last_resume-push entries entry =
    let resumes : PlainRecord → Bool = λ entry. is_resume entry.op in
    ap (λ l. reverse (before_first resumes l)) (reverse-append entries (entry ∷ []))
    ∙ ap reverse (take_while-cons (λ entry. not (resumes entry)) entry (reverse entries))
    ∙ go (is_resume entry.op)
  where
    before : List PlainRecord
    before = before_first (λ entry. is_resume entry.op) (reverse entries)

    go : (b : Bool) → reverse (cond (not b) (entry ∷ before) []) ≡ cond b [] (reverse before ++ entry ∷ [])
    go true = refl
    go false = reverse-append (entry ∷ []) before

-- records from the first suspend on, with one more record and its change
abbrev held_with : PlainOp → PlainRecord → List PlainRecord → List PlainRecord
held_with op entry [] = cond (is_suspend op) (entry ∷ []) []
held_with op entry (first ∷ held) = first ∷ held ++ entry ∷ []

-- after one more record, those from the first suspend on are those before and this one, or this one alone where it suspends
from_first_suspend-push : (entries : List PlainRecord) (entry : PlainRecord)
    → from_first_suspend (entries ++ entry ∷ []) ≡ held_with entry.op entry (from_first_suspend entries)
from_first_suspend-push [] entry = refl
from_first_suspend-push (first ∷ entries) entry = go (is_suspend first.op) (from_first_suspend-push entries entry)
  where
    go : (b : Bool) → from_first_suspend (entries ++ entry ∷ []) ≡ held_with entry.op entry (from_first_suspend entries)
        → cond b (first ∷ entries ++ entry ∷ []) (from_first_suspend (entries ++ entry ∷ [])) ≡ held_with entry.op entry (cond b (first ∷ entries) (from_first_suspend entries))
    go true rest = refl
    go false rest = rest

-- the records that are held back after one more
held_back-push : (entries : List PlainRecord) (entry : PlainRecord)
    → held_back (entries ++ entry ∷ []) ≡ cond (is_resume entry.op) [] (held_with entry.op entry (held_back entries))
held_back-push entries entry = ap from_first_suspend (after_last_resume-push entries entry) ∙ go (is_resume entry.op)
  where
    go : (b : Bool) → from_first_suspend (cond b [] (after_last_resume entries ++ entry ∷ [])) ≡ cond b [] (held_with entry.op entry (held_back entries))
    go true = refl
    go false = from_first_suspend-push (after_last_resume entries) entry

-- records that are held back are at most as many as that
held_with-within : (number : ℕ) (op : PlainOp) (entry : PlainRecord) (held : List PlainRecord) → length held ≤ number
    → length (cond (is_resume op) [] (held_with op entry held)) ≤ number + 1
held_with-within number suspend entry [] h = omega arith
held_with-within number suspend entry (first ∷ held) h = omega (arith, length-append held (entry ∷ []))
held_with-within number resume entry held h = omega arith
held_with-within number _ entry [] h = omega arith
held_with-within number _ entry (first ∷ held) h = omega (arith, length-append held (entry ∷ []))

-- of that many records, the number at which mounting stands still where the last of them are held back
abbrev still_before : (number : ℕ) → (held : List PlainRecord) → Option ℕ
still_before number [] = None
still_before number (entry ∷ held) = Some (number - length (entry ∷ held))

-- one more record in either way
still_before-after : (number : ℕ) (op : PlainOp) (entry : PlainRecord) (held : List PlainRecord) → length held ≤ number
    → still_before (number + 1) (cond (is_resume op) [] (held_with op entry held)) ≡ still_after number op (still_before number held)
still_before-after number suspend entry [] h = ap Some (omega arith)
still_before-after number suspend entry (first ∷ held) h = ap Some (omega (arith, length-append held (entry ∷ [])))
still_before-after number resume entry held h = refl
still_before-after number _ entry [] h = refl
still_before-after number _ entry (first ∷ held) h = ap Some (omega (arith, length-append held (entry ∷ [])))

-- of some records, those that are held back are some of them, and mounting stands still before them
record IsHeldBack (entries : List PlainRecord) : Type 0 where
  within : length (held_back entries) ≤ length entries
  still : still_from 0 None entries ≡ still_before (length entries) (held_back entries)

-- so it is after one more record
IsHeldBack-push : (entries : List PlainRecord) (entry : PlainRecord) → IsHeldBack entries → IsHeldBack (entries ++ entry ∷ [])
IsHeldBack-push entries entry is =
    let count : length (entries ++ entry ∷ []) ≡ length entries + 1 = omega (arith, length-append entries (entry ∷ [])) in
    let held = held_back-push entries entry in
    record {
      within = rw (held, count) (held_with-within (length entries) entry.op entry (held_back entries) is.within);
      still =
          still_from-append 0 None entries (entry ∷ [])
          ∙ ap (λ n. still_after n entry.op (still_from 0 None entries)) (omega arith)
          ∙ ap (still_after (length entries) entry.op) is.still
          ∙ sym (still_before-after (length entries) entry.op entry (held_back entries) is.within)
          ∙ ap (λ n. still_before n (cond (is_resume entry.op) [] (held_with entry.op entry (held_back entries)))) (sym count)
          ∙ ap (still_before (length (entries ++ entry ∷ []))) (sym held);
    }

-- and after more records
held_back_from : (before entries : List PlainRecord) → IsHeldBack before → IsHeldBack (before ++ entries)
held_back_from before [] is = subst IsHeldBack (sym (append-nil before)) is
held_back_from before (entry ∷ entries) is =
    subst IsHeldBack (append_assoc before (entry ∷ []) entries) (held_back_from (before ++ entry ∷ []) entries (IsHeldBack-push before entry is))

-- the number that may be mounted is that at which mounting stands still, or the newest
pub mountable_of-still : (entries : List PlainRecord) → mountable_of entries ≡ unwrap_or (still_from 0 None entries) (length entries)
mountable_of-still entries =
    let is = held_back_from [] entries (record { within = omega arith; still = refl }) in
    go (held_back entries) ∙ ap (λ still. unwrap_or still (length entries)) (sym is.still)
  where
    go : (held : List PlainRecord) → length entries - length held ≡ unwrap_or (still_before (length entries) held) (length entries)
    go [] = omega arith
    go (first ∷ held) = refl

-- one change does not let the number that may be mounted fall, nor rise above the newest
pub still_after-rises : (number : ℕ) (op : PlainOp) (still : Option ℕ) → unwrap_or still number ≤ number
    → (unwrap_or still number ≤ unwrap_or (still_after number op still) (number + 1)) × (unwrap_or (still_after number op still) (number + 1) ≤ number + 1)
still_after-rises number (complete nodes) None h = (omega arith, omega arith)
still_after-rises number (complete nodes) (Some k) h = (omega arith, omega arith)
still_after-rises number (state tag change) None h = (omega arith, omega arith)
still_after-rises number (state tag change) (Some k) h = (omega arith, omega arith)
still_after-rises number (props tag change) None h = (omega arith, omega arith)
still_after-rises number (props tag change) (Some k) h = (omega arith, omega arith)
still_after-rises number (resize size) None h = (omega arith, omega arith)
still_after-rises number (resize size) (Some k) h = (omega arith, omega arith)
still_after-rises number stop None h = (omega arith, omega arith)
still_after-rises number stop (Some k) h = (omega arith, omega arith)
still_after-rises number suspend None h = (omega arith, omega arith)
still_after-rises number suspend (Some k) h = (omega arith, omega arith)
still_after-rises number resume None h = (omega arith, omega arith)
still_after-rises number resume (Some k) h = (omega arith, omega arith)

-- nor do more changes
pub still_from-rises : (number : ℕ) (still : Option ℕ) (vs : List PlainRecord) → unwrap_or still number ≤ number
    → (unwrap_or still number ≤ unwrap_or (still_from number still vs) (number + length vs)) × (unwrap_or (still_from number still vs) (number + length vs) ≤ number + length vs)
still_from-rises number still [] h =
    subst (λ n. (unwrap_or still number ≤ unwrap_or still n) × (unwrap_or still n ≤ n)) (omega arith) (omega arith, h)
still_from-rises number still (v ∷ vs) h =
    let one = still_after-rises number v.op still h in
    let rest = still_from-rises (number + 1) (still_after number v.op still) vs one.1 in
    subst (λ n. (unwrap_or still number ≤ unwrap_or (still_from (number + 1) (still_after number v.op still) vs) n) × (unwrap_or (still_from (number + 1) (still_after number v.op still) vs) n ≤ n))
    (omega arith) (omega arith, rest.1)

-- the number that may be mounted is one of the history
pub mountable_of-within : (entries : List PlainRecord) → mountable_of entries ≤ length entries
mountable_of-within entries = omega arith

-- it never falls as the history grows
pub mountable_of-rises : (us vs : List PlainRecord) → mountable_of us ≤ mountable_of (us ++ vs)
mountable_of-rises us vs =
    let still = still_from 0 None us in
    let us_are = mountable_of-still us in
    let within : unwrap_or still (length us) ≤ length us = omega (arith, mountable_of-within us) in
    let up = (still_from-rises (length us) still vs within).0 in
    let whole : still_from 0 None (us ++ vs) ≡ still_from (length us) still vs =
    still_from-append 0 None us vs ∙ ap (λ n. still_from n still vs) (omega arith) in
    let count : length us + length vs ≡ length (us ++ vs) = omega (arith, length-append us vs) in
    let all_are : mountable_of (us ++ vs) ≡ unwrap_or (still_from (length us) still vs) (length us + length vs) =
    mountable_of-still (us ++ vs) ∙ (λ i. unwrap_or (whole i) (sym count i)) in
    rw (us_are, all_are) up
