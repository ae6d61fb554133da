-- Lists that are changed place by place.
use Rattle.std.proofs.Common.{◌≡◌, ℕ, zero, suc, ◌<◌, ◌≤◌, Bool, true, false, List, [], ◌∷◌, ◌++◌, length, map, take, take_at, drop, slice_get, slice_set, arith, refl, ap, sym, subst, ◌∙◌, inl, inr}
use Rattle.std.specs.Prelude.{Some, Result, Ok, Err, IfOk, OnOk, is_err}
use Rattle.std.specs.List.{list_any}
use Rattle.std.specs.Map.{values_of}
use Rattle.std.proofs.lemmas.Bool.{cases_Bool, cases_eq, true≢false}
use Rattle.std.proofs.lemmas.List.Folds.{list_any_at}
use Rattle.std.proofs.lemmas.Option.{get_or_from_slice_get, none-some, same_Some, slice_get_within}
use Rattle.run_report.proofs.Lists.{slice_get-set_same, slice_get-set_other}

-- below a place each item was changed
abbrev pub AreChangedBelow : {A : Type 0} → (ℕ → A → A → Type 0) → (old now : List A) → ℕ → Type 0
AreChangedBelow {A} R old now i = (k : ℕ) (was is : A) → k < i → slice_get old k ≡ Some was → slice_get now k ≡ Some is → R k was is

-- and from there on it stands as it did
abbrev pub StandFrom : {A : Type 0} → (old now : List A) → ℕ → Type 0
StandFrom {A} old now i = (k : ℕ) → i ≤ k → slice_get now k ≡ slice_get old k

-- one item more was changed
pub changed_below_next : {A : Type 0} (R : ℕ → A → A → Type 0) (old now : List A) (i m : ℕ) (was is : A) → m ≡ suc i → slice_get old i ≡ Some was → slice_get now i ≡ Some was → AreChangedBelow R old now i → R i was is
    → AreChangedBelow R old (slice_set now i is) m
changed_below_next R old now i m was is s at to before here k u v below uk vk =
    elim (cases_eq k i) [
      | inl e ↦
          let from : was ≡ u = same_Some was u (sym at ∙ ap (slice_get old) (sym e) ∙ uk) in
          let into : is ≡ v = same_Some is v (sym (slice_get-set_same now i is was to) ∙ ap (slice_get (slice_set now i is)) (sym e) ∙ vk) in
          subst (λ k. R k u v) (sym e) (subst (λ u. R i u v) from (subst (λ v. R i was v) into here))
      | inr n ↦
          let low : k < i = omega (arith, below, s, n) in
          before k u v low uk (sym (slice_get-set_other now i k is n) ∙ vk)
    ]

pub stand_from_next : {A : Type 0} (old now : List A) (i m : ℕ) (is : A) → m ≡ suc i → StandFrom old now i → StandFrom old (slice_set now i is) m
stand_from_next old now i m is s before k high =
    let n : k ≡ i → ⊥ = λ e. absurd (omega (arith, high, s, e)) in
    slice_get-set_other now i k is n ∙ before k (omega (arith, high, s))

-- so where nothing changes there
pub changed_below_same : {A : Type 0} (R : ℕ → A → A → Type 0) (old now : List A) (i m : ℕ) (was : A) → m ≡ suc i → slice_get old i ≡ Some was → slice_get now i ≡ Some was → AreChangedBelow R old now i → R i was was
    → AreChangedBelow R old now m
changed_below_same R old now i m was s at to before here k u v below uk vk =
    elim (cases_eq k i) [
      | inl e ↦
          let from : was ≡ u = same_Some was u (sym at ∙ ap (slice_get old) (sym e) ∙ uk) in
          let into : was ≡ v = same_Some was v (sym to ∙ ap (slice_get now) (sym e) ∙ vk) in
          subst (λ k. R k u v) (sym e) (subst (λ u. R i u v) from (subst (λ v. R i was v) into here))
      | inr n ↦ before k u v (omega (arith, below, s, n)) uk vk
    ]

pub stand_from_later : {A : Type 0} (old now : List A) (i m : ℕ) → m ≡ suc i → StandFrom old now i → StandFrom old now m
stand_from_later old now i m s before k high = before k (omega (arith, high, s))

-- of a list whose first items were changed, the next one is as it was, and is changed
pub untouched_at : {A : Type 0} (f : A → A) (xs : List A) (i : ℕ) → slice_get (map f (take i xs) ++ drop i xs) i ≡ slice_get xs i
untouched_at f [] zero = refl
untouched_at f [] (suc i) = refl
untouched_at f (x ∷ xs) zero = refl
untouched_at f (x ∷ xs) (suc i) = untouched_at f xs i

pub changed_next : {A : Type 0} (f : A → A) (xs : List A) (i m : ℕ) (x : A) → m ≡ suc i → slice_get xs i ≡ Some x
    → slice_set (map f (take i xs) ++ drop i xs) i (f x) ≡ map f (take m xs) ++ drop m xs
changed_next f [] i m x s at = absurd (none-some x at)
changed_next f (y ∷ xs) i zero x s at = absurd (omega (arith, s))
changed_next f (y ∷ xs) zero (suc m) x s at =
    let k : m ≡ 0 = omega (arith, s) in
    ap (λ z. f z ∷ xs) (sym (same_Some y x at)) ∙ ap (λ m. map f (take (suc m) (y ∷ xs)) ++ drop (suc m) (y ∷ xs)) (sym k)
changed_next f (y ∷ xs) (suc i) (suc m) x s at = ap (λ l. f y ∷ l) (changed_next f xs i m x (omega (arith, s)) at)

pub changed_length : {A : Type 0} (f : A → A) (xs : List A) (i : ℕ) → length (map f (take i xs) ++ drop i xs) ≡ length xs
changed_length f [] zero = refl
changed_length f [] (suc i) = refl
changed_length f (x ∷ xs) zero = refl
changed_length f (x ∷ xs) (suc i) = ap suc (changed_length f xs i)

-- the value of an entry at a place
pub value_is : {A : Type 0} (es : List (ℕ × A)) (i : ℕ) (e : ℕ × A) (v : A) → slice_get es i ≡ Some e → slice_get (values_of es) i ≡ Some v → v ≡ e.1
value_is [] i e v at to = absurd (none-some e at)
value_is (x ∷ es) zero e v at to = sym (same_Some x.1 v to) ∙ ap (λ (p : ℕ × _). p.1) (same_Some x e at)
value_is (x ∷ es) (suc i) e v at to = value_is es i e v at to

-- what comes next behind the first items
pub drop_head : {A : Type 0} (xs : List A) (n : ℕ) (x : A) (more : List A) → drop n xs ≡ x ∷ more → slice_get xs n ≡ Some x
drop_head [] zero x more e = absurd (omega (arith, ap length e))
drop_head [] (suc n) x more e = absurd (omega (arith, ap length e))
drop_head (y ∷ xs) zero x more e = ap (λ l. slice_get l 0) e
drop_head (y ∷ xs) (suc n) x more e = drop_head xs n x more e

pub drop_tail : {A : Type 0} (xs : List A) (n m : ℕ) (x : A) (more : List A) → m ≡ suc n → drop n xs ≡ x ∷ more → drop m xs ≡ more
drop_tail [] zero m x more s e = absurd (omega (arith, ap length e))
drop_tail [] (suc n) m x more s e = absurd (omega (arith, ap length e))
drop_tail (y ∷ xs) zero m x more s e = ap (λ m. drop m (y ∷ xs)) s ∙ ap (drop 1) e
drop_tail (y ∷ xs) (suc n) zero x more s e = absurd (omega (arith, s))
drop_tail (y ∷ xs) (suc n) (suc m) x more s e = drop_tail xs n m x more (omega (arith, s)) e

-- one that passes makes some pass, and where none does, each fails
pub any_at : {A : Type 0} (p : A → Bool) (xs : List A) (i : ℕ) (x : A) → slice_get xs i ≡ Some x → p x ≡ true → list_any p xs ≡ true
any_at p xs i x at here = list_any_at p xs i x (slice_get_within xs i x at) (subst (λ y. p y ≡ true) (sym (get_or_from_slice_get xs i x x at)) here)

pub none_at : {A : Type 0} (p : A → Bool) (xs : List A) (i : ℕ) (x : A) → list_any p xs ≡ false → slice_get xs i ≡ Some x → p x ≡ false
none_at p xs i x none at =
    elim (cases_Bool (p x)) [
      | inl e ↦ absurd (true≢false (sym (any_at p xs i x at e) ∙ none))
      | inr e ↦ e
    ]

-- what was promised of a call that succeeded
pub of_ok : {T E : Type 0} (result : Result T E) (P : Type 0) → is_err result ≡ false → OnOk result P → P
of_ok (Ok value) P e p = p
of_ok (Err error) P e p = absurd (true≢false e)

-- what follows from two promises of a call that succeeded
pub if_ok_both : {T E : Type 0} (result : Result T E) (P Q R : T → Type 0) → ((x : T) → P x → Q x → R x) → IfOk result P → IfOk result Q → IfOk result R
if_ok_both (Ok value) P Q R both p q = both value p q
if_ok_both (Err error) P Q R both p q = tt

-- a list that is written back whole
pub written_back : {A : Type 0} (old new : List A) (n : ℕ) → length new ≡ length old → n ≡ length old → take n (new ++ drop (length new) old) ≡ new
written_back old new n count same = take_at new (drop (length new) old) n (omega (arith, count, same))
