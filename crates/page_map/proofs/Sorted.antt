-- A list in the order of its tags: they rise, and it has and adds what the list has and adds.
use Rattle.std.proofs.Common.{◌≡◌, ◌≢◌, ℕ, zero, suc, ◌<◌, ◌≤◌, List, [], ◌∷◌, length, get_or, Bool, cond, true, false, eqb, Option, Some, None, refl, sym, ap, subst, ◌∙◌, inl, inr, arith}
use Rattle.std.specs.Ordering.{nat_cmp, eq_by_cmp}
use Rattle.std.specs.Cmp.{nat_cmp_total}
use Rattle.std.specs.FinMap.{FinMap, find, get, insert, get-insert, same_map, nat_cmp-IsAntisymmetric}
use Rattle.std.specs.List.{AllByRecursion, AllPairs, Contains, IsDistinct}
use Rattle.std.specs.List.Sorted.{IsNonDecreasingBy, IsPermutation}
use Rattle.std.proofs.lemmas.Bool.{cases_lt, eqb-false}
use Rattle.std.proofs.lemmas.Bool.Decides.{nat_tests}
use Rattle.std.proofs.lemmas.List.Sorted.{Contains-permutation, IsPermutation-sym}
use Rattle.std.proofs.lemmas.Map.Keys.{IsDistinct-IsPermutation}
use Rattle.page_map.specs.Entries.{all_added}
use Rattle.page_map.specs.Rising.{AreAbove, IsRising}
use Rattle.page_map.proofs.Rising.{less, greater, equal}

missed : (q k : ℕ) → k ≢ q → eq_by_cmp nat_cmp q k ≡ false
missed q k other = elim (cases_lt q k) [ inl lt ↦ rw (less q k lt) refl | inr le ↦ let gt : k < q = omega (arith, other) in rw (greater q k gt) refl ]

module _ {V : Type 0} where
  -- whether two values have one tag
  abbrev pub same_tag : ℕ × V → ℕ × V → Bool
  same_tag x y = eqb x.0 y.0

  apart : (x : ℕ × V) (xs : List (ℕ × V)) → ((k : ℕ) (d : ℕ × V) → k < length xs → x.0 ≢ (get_or xs k d).0) → AllByRecursion (λ y. same_tag x y ≡ false) xs
  apart x [] differ = tt
  apart x (y ∷ xs) differ = (let h : x.0 ≢ y.0 = differ 0 y (omega arith) in grind (arith, nat_tests, h), apart x xs (λ k d lt. differ (suc k) d (omega arith)))

  pub distinct : (xs : List (ℕ × V)) → AllPairs (λ one other. one.0 ≢ other.0) xs → IsDistinct same_tag xs
  unfolding IsDistinct
  distinct [] differ = tt
  distinct (x ∷ xs) differ = (apart x xs (λ k d lt. differ 0 (suc k) d (omega arith) (omega arith)), distinct xs (λ i j d lt le. differ (suc i) (suc j) d (omega arith) (omega arith)))

  turned : (x y : ℕ × V) → same_tag x y ≡ same_tag y x
  turned x y = grind (arith, nat_tests)

  pub distinct_permuted : (xs ys : List (ℕ × V)) → IsPermutation xs ys → IsDistinct same_tag xs → IsDistinct same_tag ys
  distinct_permuted xs ys moved = IsDistinct-IsPermutation same_tag turned xs ys moved

  above : (x : ℕ × V) (xs : List (ℕ × V)) → ((k : ℕ) (d : ℕ × V) → k < length xs → x.0 ≤ (get_or xs k d).0) → AllByRecursion (λ y. same_tag x y ≡ false) xs → AreAbove x.0 xs
  above x [] le other = tt
  above x (y ∷ xs) le other = (omega (arith, le 0 y (omega arith), eqb-false x.0 y.0 other.0), above x xs (λ k d lt. le (suc k) d (omega arith)) other.1)

  pub rising_of : (xs : List (ℕ × V)) → IsNonDecreasingBy (λ e. e.0) xs → IsDistinct same_tag xs → IsRising xs
  unfolding IsDistinct
  rising_of [] up other = tt
  rising_of (x ∷ xs) up other = (above x xs (λ k d lt. up 0 (suc k) d (omega arith) (omega arith)) other.0, rising_of xs (λ i j d le lt. up (suc i) (suc j) d (omega arith) (omega arith)) other.1)

  -- ---- a look-up in a list whose tags differ

  hit : (q : ℕ) (x : ℕ × V) (xs : List (ℕ × V)) → x.0 ≡ q → find nat_cmp q (x ∷ xs) ≡ Some x.1
  hit q x xs same = subst (λ n. find nat_cmp n (x ∷ xs) ≡ Some x.1) same (rw (equal x.0) refl)

  miss : (q : ℕ) (x : ℕ × V) (xs : List (ℕ × V)) → x.0 ≢ q → find nat_cmp q (x ∷ xs) ≡ find nat_cmp q xs
  miss q x xs other = ap (λ b. cond b (Some x.1) (find nat_cmp q xs)) (missed q x.0 other)

  absent : (q : ℕ) (x : ℕ × V) (xs : List (ℕ × V)) → x.0 ≡ q → AllByRecursion (λ y. same_tag x y ≡ false) xs → find nat_cmp q xs ≡ None
  absent q x [] same other = refl
  absent q x (y ∷ xs) same other = miss q y xs (λ is. eqb-false x.0 y.0 other.0 (same ∙ sym is)) ∙ absent q x xs same other.1

  found : (q : ℕ) (v : V) (xs : List (ℕ × V)) → IsDistinct same_tag xs → (k : ℕ) → k < length xs → get_or xs k (q, v) ≡ (q, v) → find nat_cmp q xs ≡ Some v
  unfolding IsDistinct
  found q v [] other k lt is = absurd (omega arith)
  found q v (x ∷ xs) other zero lt is = hit q x xs (ap (λ e. e.0) is) ∙ ap (λ e. Some e.1) is
  found q v (x ∷ xs) other (suc k) lt is =
      let rest = found q v xs other.1 k (omega arith) is in
      miss q x xs (λ same. absurd (none≢some (sym (absent q x xs same other.0) ∙ rest))) ∙ rest
    where
      none≢some : {v : V} → None ≡ Some v → ⊥
      none≢some e = cc

  pub contained : (q : ℕ) (v : V) (xs : List (ℕ × V)) → find nat_cmp q xs ≡ Some v → Contains xs (q, v)
  contained q v [] is = absurd (cc)
  contained q v (x ∷ xs) is =
      elim (eqb x.0 q) as (λ b. eqb x.0 q ≡ b → Contains (x ∷ xs) (q, v)) [
        | true ↦ λ e. let same : x.0 ≡ q = grind (arith, nat_tests, e) in
            let value : Some x.1 ≡ Some v = sym (hit q x xs same) ∙ is in
            let value_is : x.1 ≡ v = cc in
            (0, omega arith, λ i. (same i, value_is i))
        | false ↦ λ e. let rest = contained q v xs (sym (miss q x xs (eqb-false x.0 q e)) ∙ is) in
            (suc rest.0, omega (arith, rest.1), rest.2)
      ] refl

  pub same_find : (xs ys : List (ℕ × V)) → IsPermutation xs ys → IsDistinct same_tag xs → IsDistinct same_tag ys → (q : ℕ) → find nat_cmp q xs ≡ find nat_cmp q ys
  same_find xs ys moved one other q =
      elim (find nat_cmp q xs) as (λ f. find nat_cmp q xs ≡ f → f ≡ find nat_cmp q ys) [
        | None ↦ λ none. elim (find nat_cmp q ys) as (λ g. find nat_cmp q ys ≡ g → None ≡ g) [
          | None ↦ λ _. refl
          | Some v ↦ λ is. let has = Contains-permutation ys xs (q, v) (IsPermutation-sym xs ys moved) (contained q v ys is) in
              sym none ∙ found q v xs one has.0 has.1 has.2
        ] refl
        | Some v ↦ λ is. let has = Contains-permutation xs ys (q, v) moved (contained q v xs is) in
            sym (found q v ys other has.0 has.1 has.2)
      ] refl

module _ {V : Type 0} where
  -- what a list has at a tag, or else what the map has
  abbrev pub first_of : Option V → Option V → Option V
  first_of None other = other
  first_of (Some value) other = Some value

  added : (map : FinMap nat_cmp V) (xs : List (ℕ × V)) (q : ℕ) → IsDistinct same_tag xs → get (all_added map xs) q ≡ first_of (find nat_cmp q xs) (get map q)
  unfolding IsDistinct
  added map [] q other = refl
  added map (x ∷ xs) q other =
      elim (eqb x.0 q) as (λ b. eqb x.0 q ≡ b → get (all_added map (x ∷ xs)) q ≡ first_of (find nat_cmp q (x ∷ xs)) (get map q)) [
        | true ↦ λ e. let same : x.0 ≡ q = grind (arith, nat_tests, e) in
            added (insert map x.0 x.1) xs q other.1
            ∙ ap (λ f. first_of f (get (insert map x.0 x.1) q)) (absent q x xs same other.0)
            ∙ get-insert nat_cmp_total map x.0 x.1 q
            ∙ subst (λ n. cond (eq_by_cmp nat_cmp n x.0) (Some x.1) (get map n) ≡ Some x.1) same (rw (equal x.0) refl)
            ∙ sym (ap (λ f. first_of f (get map q)) (hit q x xs same))
        | false ↦ λ e. let differs = eqb-false x.0 q e in
            added (insert map x.0 x.1) xs q other.1
            ∙ ap (first_of (find nat_cmp q xs)) (get-insert nat_cmp_total map x.0 x.1 q ∙ ap (λ b. cond b (Some x.1) (get map q)) (missed q x.0 differs))
            ∙ sym (ap (λ f. first_of f (get map q)) (miss q x xs differs))
      ] refl

  -- the order of the list does not matter
  pub same_added : (map : FinMap nat_cmp V) (xs ys : List (ℕ × V)) → IsPermutation xs ys → IsDistinct same_tag xs → all_added map ys ≡ all_added map xs
  same_added map xs ys moved one =
      let other = distinct_permuted xs ys moved one in
      same_map nat_cmp_total nat_cmp-IsAntisymmetric (all_added map ys) (all_added map xs) (λ q.
      added map ys q other ∙ ap (λ f. first_of f (get map q)) (sym (same_find xs ys moved one other q)) ∙ sym (added map xs q one))
