-- The first value of a tag in a list that is added to, sorted or looked through.
use Rattle.std.proofs.Common.{◌≡◌, ◌≢◌, ℕ, suc, ◌<◌, ◌≤◌, Bool, true, false, cond, not, ◌&&◌, List, [], ◌∷◌, ◌++◌, filter, take, drop, take-append-drop, refl, sym, ap, subst, ◌∙◌, arith}
use Rattle.std.specs.Prelude.{Option, Some, None, nat_eq, if◌then◌else◌}
use Rattle.std.specs.Option.{option_map, option_or}
use Rattle.std.specs.declared.cmp.Ordering.{Ordering}
use Rattle.std.specs.declared.cmp.Ordering.TheVariants.{Less, Equal, Greater}
use Rattle.std.specs.List.{IsAllAdjacentAnswer}
use Rattle.std.specs.Ordering.{nat_cmp, is_lt, is_le, is_eq, is_some_and, eq_by_cmp, MatchOrdering}
use Rattle.std.specs.FinMap.{find}
use Rattle.std.specs.List.Sorted.{IsNonDecreasingBy, IsStableBy, ties}
use Rattle.std.proofs.lemmas.Bool.{eq-eqb, ne_eqb}
use Rattle.std.proofs.lemmas.Cmp.{ranked}
use Rattle.std.proofs.lemmas.List.Sorted.{IsNonDecreasingBy-drop, IsNonDecreasingBy-from_all_adjacent}
use denote.Bor.{Bor}
use Rattle.page_map.specs.Rising.{AreAbove, AreBelow, AreFrom}
use Rattle.page_map.proofs.Each.{each_within}
use Rattle.page_map.proofs.Rising.{less, equal, find_after, find_none}
use Rattle.shadow_node.specs.Falls.{Shared}
use Rattle.tree_build.specs.Index.{TaggedNodes, found_in}

-- two tags tie where they are equal
same_tag : (q tag : ℕ) → eq_by_cmp nat_cmp q tag ≡ nat_eq tag q
same_tag q tag = by (nat_cmp q tag) (ranked q tag (nat_cmp q tag) refl)
  where
    by : (o : Ordering) → MatchOrdering o (q < tag) (q ≡ tag) (tag < q) → is_eq o ≡ nat_eq tag q
    by Less l = sym (ne_eqb tag q (λ e. absurd (omega arith)))
    by Equal e = sym (eq-eqb tag q (sym e))
    by Greater g = sym (ne_eqb tag q (λ e. absurd (omega arith)))

-- neither is below the other where they are equal
tie_of_tags : (q tag : ℕ) → (not (is_lt (nat_cmp q tag)) && not (is_lt (nat_cmp tag q))) ≡ eq_by_cmp nat_cmp q tag
tie_of_tags q tag = by (nat_cmp q tag) (ranked q tag (nat_cmp q tag) refl)
  where
    by : (o : Ordering) → MatchOrdering o (q < tag) (q ≡ tag) (tag < q) → (not (is_lt o) && not (is_lt (nat_cmp tag q))) ≡ is_eq o
    by Less l = refl
    by Equal e = subst (λ n. not (is_lt (nat_cmp tag n)) ≡ true) (sym e) (rw (equal tag) refl)
    by Greater g = rw (less tag q g) refl

-- a test of two neighbours' tags
not_above : (x y : ℕ) → true ≡ is_some_and is_le (Some (nat_cmp x y)) → x ≤ y
not_above x y = by (nat_cmp x y) (ranked x y (nat_cmp x y) refl)
  where
    by : (o : Ordering) → MatchOrdering o (x < y) (x ≡ y) (y < x) → true ≡ is_some_and is_le (Some o) → x ≤ y
    by Less l h = omega arith
    by Equal e h = omega arith
    by Greater g h = absurd (cc)

module _ {V : Type 0} where
  -- where no tag is above the next one, tags do not fall
  pub in_order_from_answer : (es : List (ℕ × V)) (answer : Bool) → IsAllAdjacentAnswer (λ x y b. b ≡ is_some_and is_le (Some (nat_cmp x.0 y.0))) es answer → answer ≡ true → IsNonDecreasingBy (λ e. e.0) es
  in_order_from_answer es true all is = IsNonDecreasingBy-from_all_adjacent (λ e. e.0) es (λ k d lt. not_above _ _ (all k d lt))
  in_order_from_answer es false some is = absurd (cc)

  -- the first value of a list
  abbrev first_value : List (ℕ × V) → Option V
  first_value [] = None
  first_value (e ∷ es) = Some e.1

  -- one tag is below the other
  abbrev goes_before : ℕ × V → ℕ × V → Bool
  goes_before x y = is_lt (nat_cmp x.0 y.0)

  -- the first of a list to which an element may be added in front
  first_of_both : (b : Bool) (e : ℕ × V) (es : List (ℕ × V)) → cond b (Some e.1) (first_value es) ≡ first_value (cond b (e ∷ es) es)
  first_of_both true e es = refl
  first_of_both false e es = refl

  -- what is found is the first of those that tie with an entry of that tag
  find_tied : (q : ℕ) (v : V) (es : List (ℕ × V)) → find nat_cmp q es ≡ first_value (filter (ties goes_before (q, v)) es)
  find_tied q v [] = refl
  find_tied q v (e ∷ es) =
      let left = filter (ties goes_before (q, v)) es in
      ap (cond (eq_by_cmp nat_cmp q e.0) (Some e.1)) (find_tied q v es)
      ∙ first_of_both (eq_by_cmp nat_cmp q e.0) e left
      ∙ ap (λ b. first_value (cond b (e ∷ left) left)) (sym (tie_of_tags q e.0))

  -- a stable sort by the tags changes nothing that is found
  pub find_sorted : (xs ys : List (ℕ × V)) → IsStableBy goes_before xs ys → (q : ℕ) → find nat_cmp q ys ≡ find nat_cmp q xs
  find_sorted xs ys stable q = by (find nat_cmp q ys) (find nat_cmp q xs) refl refl
    where
      tied : V → find nat_cmp q ys ≡ find nat_cmp q xs
      tied v = find_tied q v ys ∙ ap first_value (stable (q, v)) ∙ sym (find_tied q v xs)

      by : (one other : Option V) → find nat_cmp q ys ≡ one → find nat_cmp q xs ≡ other → find nat_cmp q ys ≡ find nat_cmp q xs
      by None None e f = e ∙ sym f
      by (Some v) other e f = tied v
      by None (Some v) e f = tied v

  -- a tag that the first of those from it on has not is not found
  pub find_passed : (q : ℕ) (es : List (ℕ × V)) (i : ℕ) (e : ℕ × V) (others : List (ℕ × V)) → IsNonDecreasingBy (λ e. e.0) es → AreBelow q (take i es) → AreFrom q (drop i es) → drop i es ≡ e ∷ others → e.0 ≢ q → find nat_cmp q es ≡ None
  find_passed q es i e others rises below from is differs =
      let first : q ≤ e.0 = (subst (AreFrom q) is from).0 in
      let left : IsNonDecreasingBy (λ e. e.0) (e ∷ others) = subst (IsNonDecreasingBy (λ e. e.0)) is (IsNonDecreasingBy-drop (λ e. e.0) i es rises) in
      let later : AreAbove q others = each_within (λ o. q < o.0) others (λ k d low high. omega (arith, left 0 (suc k) d (omega arith) (omega arith))) in
      ap (find nat_cmp q) (sym (take-append-drop i es) ∙ ap (λ rest. take i es ++ rest) is)
      ∙ find_after q (take i es) (e ∷ others) below
      ∙ find_none q (e ∷ others) (omega arith, later)

-- one more node at the end is found where its tag has none yet
pub found_pushed : (nodes : TaggedNodes) (tag : ℕ) (new : Bor Shared) (q : ℕ)
    → found_in (nodes ++ (tag, new) ∷ []) q ≡ option_or (found_in nodes q) (if nat_eq tag q then Some new.now.value else None)
found_pushed [] tag new q = ap (λ b. option_map (λ (node : Bor Shared). node.now.value) (cond b (Some new) None)) (same_tag q tag) ∙ by (nat_eq tag q)
  where
    by : (b : Bool) → option_map (λ (node : Bor Shared). node.now.value) (cond b (Some new) None) ≡ cond b (Some new.now.value) None
    by true = refl
    by false = refl
found_pushed (node ∷ nodes) tag new q = by (eq_by_cmp nat_cmp q node.0) (found_pushed nodes tag new q)
  where
    more : Option (Bor Shared)
    more = find nat_cmp q (nodes ++ (tag, new) ∷ [])

    by : (b : Bool) → found_in (nodes ++ (tag, new) ∷ []) q ≡ option_or (found_in nodes q) (if nat_eq tag q then Some new.now.value else None)
        → option_map (λ (node : Bor Shared). node.now.value) (cond b (Some node.1) (find nat_cmp q (nodes ++ (tag, new) ∷ [])))
        ≡ option_or (option_map (λ (node : Bor Shared). node.now.value) (cond b (Some node.1) (find nat_cmp q nodes))) (if nat_eq tag q then Some new.now.value else None)
    by true h = refl
    by false h = h
