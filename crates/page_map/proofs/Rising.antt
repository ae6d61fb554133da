-- Lists whose tags rise: parts, one more value, and a look-up.
use Rattle.std.proofs.Common.{◌≡◌, ℕ, zero, suc, ◌+◌, ◌<◌, ◌≤◌, List, [], ◌∷◌, ◌++◌, length, take, drop, ◌≢◌, ltb, Bool, cond, true, false, ◌&&◌, T, Some, None, refl, sym, ap, subst, ◌∙◌, arith, append_assoc}
use Rattle.std.specs.declared.cmp.Ordering.{Ordering}
use Rattle.std.specs.declared.cmp.Ordering.TheVariants.{Less, Equal, Greater}
use Rattle.std.specs.Ordering.{nat_cmp, is_lt, eq_by_cmp}
use Rattle.std.specs.Cmp.{nat_cmp_total}
use Rattle.std.specs.FinMap.{find, put, is_sorted, from_sorted, insert, same_entries_map, entries-from_sorted, entries-insert}
use Rattle.std.specs.FinMap.Entries.{by_order, below_all}
use Rattle.std.specs.List.{AllWithin}
use Rattle.std.specs.List.Sorted.{IsNonDecreasingBy}
use Rattle.std.proofs.lemmas.Bool.Decides.{nat_tests}
use Rattle.page_map.specs.Rising.{Each, AreAbove, AreBelow, AreFrom, IsRising}
use Rattle.page_map.proofs.Each.{each_at, each_left, each_with, each_taken, each_dropped}

pub less : (x y : ℕ) → x < y → nat_cmp x y ≡ Less
less x y lt = grind (arith, nat_tests)

pub greater : (x y : ℕ) → y < x → nat_cmp x y ≡ Greater
greater x y lt = grind (arith, nat_tests)

pub equal : (x : ℕ) → nat_cmp x x ≡ Equal
equal x = grind (arith, nat_tests)

both : (a b : Bool) → T a → T b → T (a && b)
both true b p q = q
both false b p q = p

module _ {V : Type 0} where
  pub above_lower : (low n : ℕ) (es : List (ℕ × V)) → low ≤ n → AreAbove n es → AreAbove low es
  above_lower low n es le = each_with (λ e. n < e.0) (λ e. low < e.0) (λ e lt. omega arith) es

  -- ---- parts

  pub rising_left : (xs ys : List (ℕ × V)) → IsRising (xs ++ ys) → IsRising xs
  rising_left [] ys h = tt
  rising_left (x ∷ xs) ys h = (each_left (λ e. x.0 < e.0) xs ys h.0, rising_left xs ys h.1)

  pub rising_right : (xs ys : List (ℕ × V)) → IsRising (xs ++ ys) → IsRising ys
  rising_right [] ys h = h
  rising_right (x ∷ xs) ys h = rising_right xs ys h.1

  pub rising_in_order : (es : List (ℕ × V)) → IsRising es → IsNonDecreasingBy (λ e. e.0) es
  rising_in_order [] h i j d le lt = absurd (omega arith)
  rising_in_order (e ∷ es) h zero zero d le lt = omega arith
  rising_in_order (e ∷ es) h zero (suc j) d le lt = let above = each_at (λ o. e.0 < o.0) es j d h.0 (omega arith) in omega arith
  rising_in_order (e ∷ es) h (suc i) zero d le lt = absurd (omega arith)
  rising_in_order (e ∷ es) h (suc i) (suc j) d le lt = rising_in_order es h.1 i j d (omega arith) (omega arith)

  -- no more entries than there are tags
  rising_short : (n : ℕ) (e : ℕ × V) (es : List (ℕ × V)) → IsRising (e ∷ es) → AreBelow n (e ∷ es) → e.0 + length (e ∷ es) ≤ n
  rising_short n e [] h below = omega (arith, below.0)
  rising_short n e (o ∷ es) h below = omega (arith, h.0.0, rising_short n o es h.1 below.1)

  pub rising_few : (n : ℕ) (es : List (ℕ × V)) → IsRising es → AreBelow n es → length es ≤ n
  rising_few n [] h below = omega arith
  rising_few n (e ∷ es) h below = omega (arith, rising_short n e es h below)

  -- ---- as a map

  lower_all : (n : ℕ) (es : List (ℕ × V)) → AreAbove n es → T (below_all nat_cmp n es)
  lower_all n [] h = tt
  lower_all n (e ∷ es) h = both (is_lt (nat_cmp n e.0)) _ (rw (less n e.0 h.0) tt) (lower_all n es h.1)

  pub rising_sorted : (es : List (ℕ × V)) → IsRising es → T (is_sorted nat_cmp es)
  rising_sorted [] h = tt
  rising_sorted (e ∷ es) h = both _ _ (lower_all e.0 es h.0) (rising_sorted es h.1)

  -- ---- one more value

  pub put_after : (k : ℕ) (v : V) (xs ys : List (ℕ × V)) → AreBelow k xs → put nat_cmp k v (xs ++ ys) ≡ xs ++ put nat_cmp k v ys
  put_after k v [] ys h = refl
  put_after k v (x ∷ xs) ys h = rw (greater k x.0 h.0) (ap (λ es. x ∷ es) (put_after k v xs ys h.1))

  pub put_first : (k : ℕ) (v : V) (ys : List (ℕ × V)) → AreAbove k ys → put nat_cmp k v ys ≡ (k, v) ∷ ys
  put_first k v [] h = refl
  put_first k v (y ∷ ys) h = rw (less k y.0 h.0) refl

  pub put_before : (k : ℕ) (v : V) (xs ys : List (ℕ × V)) → AreAbove k ys → put nat_cmp k v (xs ++ ys) ≡ put nat_cmp k v xs ++ ys
  put_before k v [] ys h = put_first k v ys h
  put_before k v (x ∷ xs) ys h =
      elim (nat_cmp k x.0) as (λ o. by_order o ((k, v) ∷ x ∷ (xs ++ ys)) ((x.0, v) ∷ (xs ++ ys)) (x ∷ put nat_cmp k v (xs ++ ys)) ≡ by_order o ((k, v) ∷ x ∷ xs) ((x.0, v) ∷ xs) (x ∷ put nat_cmp k v xs) ++ ys) [
        | Less ↦ refl
        | Equal ↦ refl
        | Greater ↦ ap (λ es. x ∷ es) (put_before k v xs ys h)
      ]

  pub each-put : (P : ℕ → Type 0) (k : ℕ) (v : V) (es : List (ℕ × V)) → P k → Each (λ e. P e.0) es → Each (λ e. P e.0) (put nat_cmp k v es)
  each-put P k v [] p h = (p, tt)
  each-put P k v (e ∷ es) p h =
      elim (nat_cmp k e.0) as (λ o. Each (λ e. P e.0) (by_order o ((k, v) ∷ e ∷ es) ((e.0, v) ∷ es) (e ∷ put nat_cmp k v es))) [
        | Less ↦ (p, h)
        | Equal ↦ h
        | Greater ↦ (h.0, each-put P k v es p h.1)
      ]

  pub length-put : (k : ℕ) (v : V) (es : List (ℕ × V)) → (length es ≤ length (put nat_cmp k v es)) × (length (put nat_cmp k v es) ≤ length es + 1)
  length-put k v [] = (omega arith, omega arith)
  length-put k v (e ∷ es) =
      elim (nat_cmp k e.0) as (λ o. (length (e ∷ es) ≤ length (by_order o ((k, v) ∷ e ∷ es) ((e.0, v) ∷ es) (e ∷ put nat_cmp k v es))) × (length (by_order o ((k, v) ∷ e ∷ es) ((e.0, v) ∷ es) (e ∷ put nat_cmp k v es)) ≤ length (e ∷ es) + 1)) [
        | Less ↦ (omega arith, omega arith)
        | Equal ↦ (omega arith, omega arith)
        | Greater ↦ (omega (arith, (length-put k v es).0), omega (arith, (length-put k v es).1))
      ]

  rising_put_case : (k : ℕ) (v : V) (e : ℕ × V) (es : List (ℕ × V)) (o : Ordering) → nat_cmp k e.0 ≡ o → IsRising (e ∷ es) → IsRising (put nat_cmp k v es) → IsRising (by_order o ((k, v) ∷ e ∷ es) ((e.0, v) ∷ es) (e ∷ put nat_cmp k v es))
  rising_put_case k v e es Less is h rest = let lt : k < e.0 = grind (arith, nat_tests) in ((lt, above_lower k e.0 es (omega arith) h.0), h)
  rising_put_case k v e es Equal is h rest = h
  rising_put_case k v e es Greater is h rest = let lt : e.0 < k = grind (arith, nat_tests) in (each-put (λ tag. e.0 < tag) k v es lt h.0, rest)

  pub rising-put : (k : ℕ) (v : V) (es : List (ℕ × V)) → IsRising es → IsRising (put nat_cmp k v es)
  rising-put k v [] h = (tt, tt)
  rising-put k v (e ∷ es) h = rising_put_case k v e es (nat_cmp k e.0) refl h (rising-put k v es h.1)

  pub from_sorted-put : (k : ℕ) (v : V) (es : List (ℕ × V)) → IsRising es → from_sorted {R = nat_cmp} (put nat_cmp k v es) ≡ insert (from_sorted es) k v
  from_sorted-put k v es h =
      same_entries_map _ _ (entries-from_sorted nat_cmp _ (rising_sorted _ (rising-put k v es h))
      ∙ sym (entries-insert nat_cmp_total (from_sorted es) k v ∙ ap (put nat_cmp k v) (entries-from_sorted nat_cmp es (rising_sorted es h))))

  -- ---- a look-up

  pub find_after : (q : ℕ) (xs ys : List (ℕ × V)) → AreBelow q xs → find nat_cmp q (xs ++ ys) ≡ find nat_cmp q ys
  find_after q [] ys h = refl
  find_after q (x ∷ xs) ys h = rw (greater q x.0 h.0) (find_after q xs ys h.1)

  pub find_none : (q : ℕ) (ys : List (ℕ × V)) → AreAbove q ys → find nat_cmp q ys ≡ None
  find_none q [] h = refl
  find_none q (y ∷ ys) h = rw (less q y.0 h.0) (find_none q ys h.1)

  pub find_before : (q : ℕ) (xs ys : List (ℕ × V)) → AreAbove q ys → find nat_cmp q (xs ++ ys) ≡ find nat_cmp q xs
  find_before q [] ys h = find_none q ys h
  find_before q (x ∷ xs) ys h = ap (cond (eq_by_cmp nat_cmp q x.0) (Some x.1)) (find_before q xs ys h)

  -- ---- a place

  pub place_below : (tag : ℕ) (es : List (ℕ × V)) (i : ℕ) → AllWithin (λ e. ltb e.0 tag ≡ true) es 0 i → AreBelow tag (take i es)
  place_below tag es i all = each_with (λ e. ltb e.0 tag ≡ true) (λ e. e.0 < tag) (λ e is. grind (arith, nat_tests)) (take i es) (each_taken (λ e. ltb e.0 tag ≡ true) es i all)

  pub place_rest : (tag : ℕ) (es : List (ℕ × V)) (i : ℕ) → AllWithin (λ e. ltb e.0 tag ≡ false) es i (length es) → AreFrom tag (drop i es)
  place_rest tag es i all = each_with (λ e. ltb e.0 tag ≡ false) (λ e. tag ≤ e.0) (λ e is. grind (arith, nat_tests)) (drop i es) (each_dropped (λ e. ltb e.0 tag ≡ false) es i all)

  pub find_here : (q : ℕ) (es : List (ℕ × V)) (below rest : List (ℕ × V)) (e : ℕ × V) (others : List (ℕ × V)) → es ≡ below ++ rest → AreBelow q below → rest ≡ e ∷ others → e.0 ≡ q → find nat_cmp q es ≡ Some e.1
  find_here q es below rest e others whole h is same =
      ap (find nat_cmp q) whole ∙ find_after q below rest h ∙ ap (find nat_cmp q) is ∙ subst (λ n. find nat_cmp n (e ∷ others) ≡ Some e.1) same (rw (equal e.0) refl)

  pub find_past : (q : ℕ) (es : List (ℕ × V)) (below rest : List (ℕ × V)) (e : ℕ × V) (others : List (ℕ × V)) → es ≡ below ++ rest → IsRising es → AreBelow q below → AreFrom q rest → rest ≡ e ∷ others → e.0 ≢ q → find nat_cmp q es ≡ None
  find_past q es below rest e others whole rises h from is differs =
      let le : q ≤ e.0 = (subst (AreFrom q) is from).0 in
      let all : IsRising (e ∷ others) = subst IsRising is (rising_right below rest (subst IsRising whole rises)) in
      ap (find nat_cmp q) whole ∙ find_after q below rest h ∙ ap (find nat_cmp q) is ∙ find_none q (e ∷ others) (omega arith, above_lower q e.0 others le all.0)

  pub find_at_end : (q : ℕ) (es : List (ℕ × V)) (below rest : List (ℕ × V)) → es ≡ below ++ rest → AreBelow q below → length rest ≡ 0 → find nat_cmp q es ≡ None
  find_at_end q es below [] whole h end = ap (find nat_cmp q) whole ∙ find_after q below [] h
  find_at_end q es below (e ∷ rest) whole h end = absurd (omega arith)

  pub put_between : (k : ℕ) (v : V) (es below rest above : List (ℕ × V)) → es ≡ below ++ rest → AreBelow k below → put nat_cmp k v rest ≡ (k, v) ∷ above → put nat_cmp k v es ≡ (below ++ (k, v) ∷ []) ++ above
  put_between k v es below rest above whole h is =
      ap (put nat_cmp k v) whole ∙ put_after k v below rest h ∙ ap (λ xs. below ++ xs) is ∙ sym (append_assoc below ((k, v) ∷ []) above)
