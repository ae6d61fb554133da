-- Steps and revisions of an actor, read from its lists.
use Rattle.std.proofs.Common.{◌≡◌, ℕ, zero, suc, ◌+◌, ◌<◌, List, [], ◌∷◌, ◌++◌, length, take, drop, map, get_or, arith, refl, ap, sym, ◌∙◌, subst, false, cond, add-one}
use Rattle.std.specs.Prelude.{nat_eq, All, Option, Some, None, IfSome, slice_get, option_map}
use Rattle.std.specs.List.{AllByRecursion, IsDistinct}
use Rattle.std.proofs.lemmas.Option.{slice_get-map}
use Rattle.std.proofs.lemmas.Bool.{ne_eqb, eqb-false}
use Rattle.std.proofs.Math.Seq.{take-suc}
use Rattle.indexmap.specs.IndexMap.{insert_entry}
use Rattle.tree_revision.specs.Settled.{KeptRevision}
use Rattle.tree_revision.specs.Script.{PlainStep}
use Rattle.tree_revision.specs.InRange.{IsActInRange}
use Rattle.script_read.specs.Plain.{plain_act, plain_step}
use Rattle.script_read.specs.declared.script.Step.{Step}
use Rattle.run_report.proofs.Lists.{all_at}

drop_at : {A : Type 0} (n : ℕ) (xs : List A) → slice_get (drop n xs) 0 ≡ slice_get xs n
drop_at zero [] = refl
drop_at zero (x ∷ xs) = refl
drop_at (suc n) [] = refl
drop_at (suc n) (x ∷ xs) = drop_at n xs

-- the first step that is left
pub left_at : (steps : List Step) (n : ℕ) → option_map plain_step (slice_get steps n) ≡ slice_get (drop n (map plain_step steps)) 0
left_at steps n = sym (slice_get-map plain_step steps n) ∙ sym (drop_at n (map plain_step steps))

-- what it does is in range
pub act_at : (steps : List Step) (n : ℕ) (found : Option Step) → found ≡ slice_get steps n → All (λ (step : PlainStep). IsActInRange step.act) (map plain_step steps)
    → IfSome found (λ step. IsActInRange (plain_act step.act))
act_at steps n None is all = tt
act_at steps n (Some step) is all = all_at (λ (step : PlainStep). IsActInRange step.act) (map plain_step steps) n (plain_step step) all
    (slice_get-map plain_step steps n ∙ ap (option_map plain_step) (sym is))

at_key : (P : ℕ → Type 0) (xs : List (ℕ × KeptRevision)) (i : ℕ) (d : ℕ × KeptRevision) → i < length xs → AllByRecursion P (map (λ entry. entry.0) xs) → P (get_or xs i d).0
at_key P [] i d h all = absurd (omega (arith, h))
at_key P (x ∷ xs) zero d h all = all.0
at_key P (x ∷ xs) (suc i) d h all = at_key P xs i d (omega (arith, h)) all.1

-- a key is none of those before it
none_before : (first : List (ℕ × KeptRevision)) (i : ℕ) (d : ℕ × KeptRevision) → IsDistinct nat_eq (map (λ entry. entry.0) first) → i < length first
    → AllByRecursion (λ entry. nat_eq (get_or first i d).0 entry.0 ≡ false) (take i first)
unfolding IsDistinct
none_before [] i d distinct h = absurd (omega (arith, h))
none_before (x ∷ xs) zero d distinct h = tt
none_before (x ∷ xs) (suc i) d distinct h =
    let there : nat_eq x.0 (get_or xs i d).0 ≡ false = at_key (λ k. nat_eq x.0 k ≡ false) xs i d (omega (arith, h)) distinct.0 in
    (ne_eqb (get_or xs i d).0 x.0 (λ e. eqb-false x.0 (get_or xs i d).0 there (sym e)), none_before xs i d distinct.1 (omega (arith, h)))

insert_absent : (k : ℕ) (v : KeptRevision) (es : List (ℕ × KeptRevision)) → AllByRecursion (λ entry. nat_eq k entry.0 ≡ false) es → insert_entry nat_eq es k v ≡ es ++ (k, v) ∷ []
insert_absent k v [] all = refl
insert_absent k v (x ∷ es) all = ap (λ same. cond same ((x.0, v) ∷ es) (x ∷ insert_entry nat_eq es k v)) all.0 ∙ ap (λ l. x ∷ l) (insert_absent k v es all.1)

-- the first entries, and one more
pub next_entries : (first : List (ℕ × KeptRevision)) (i : ℕ) (d : ℕ × KeptRevision) (revision : KeptRevision) (es new : List (ℕ × KeptRevision)) → IsDistinct nat_eq (map (λ entry. entry.0) first)
    → i < length first → d ≡ get_or first i d → revision ≡ d.1 → es ≡ take i first → new ≡ insert_entry nat_eq es d.0 revision → new ≡ take (i + 1) first
next_entries first i d revision es new distinct within is shared so_far inserted =
    let none : AllByRecursion (λ entry. nat_eq d.0 entry.0 ≡ false) (take i first) =
    subst (λ (e : ℕ × KeptRevision). AllByRecursion (λ entry. nat_eq e.0 entry.0 ≡ false) (take i first)) (sym is) (none_before first i d distinct within) in
    let next : take (i + 1) first ≡ take i first ++ get_or first i d ∷ [] = rw (add-one, take-suc first i d within) refl in
    inserted ∙ (λ j. insert_entry nat_eq (so_far j) d.0 (shared j)) ∙ insert_absent d.0 d.1 (take i first) none
    ∙ ap (λ (e : ℕ × KeptRevision). take i first ++ e ∷ []) is ∙ sym next
