-- The nodes that neither pass a test nor lie below one that does, counted tree by tree.
use Rattle.std.proofs.Common.{◌≡◌, ◌+◌, ℕ, List, [], ◌∷◌, ◌++◌, Bool, true, false, cond, not, inl, inr, zero-add, arith, refl, ap, sym, ◌∙◌}
use Rattle.std.specs.List.{count_by, list_any}
use Rattle.std.proofs.lemmas.Bool.{cases_Bool, or_from, or_left, or_right}
use Rattle.std.proofs.lemmas.List.Sums.{sum_by-append}
use Rattle.shadow_node.specs.Entered.{count_outside}
use Rattle.shadow_node.specs.Forest.{PlainForest, none, node}
use Rattle.shadow_node.specs.Fields.{SettledFields}
use Rattle.shadow_node.specs.Shown.{Descendant, descendants_below, line_of}

-- one, where a node counts
abbrev weight : Bool → ℕ
weight counts = cond counts 1 0

module _ (test : SettledFields → Bool) where
  -- whether a node neither passes nor lies below one that does
  abbrev is_outside : Descendant → Bool
  is_outside here = not (list_any test (line_of here))

  -- how many of some nodes are so
  abbrev outside : List Descendant → ℕ
  outside nodes = count_by is_outside nodes

  -- of the nodes of two lists
  outside_append : (one other : List Descendant) → outside (one ++ other) ≡ outside one + outside other
  outside_append one other = sum_by-append (λ here. weight (is_outside here)) one other

  outside_first : (here : Descendant) (others : List Descendant) → outside (here ∷ others) ≡ weight (is_outside here) + outside others
  outside_first here others = outside_append (here ∷ []) others ∙ ap (λ n. n + outside others) (zero-add (weight (is_outside here)))

  -- below a node that passes there is none
  none_outside : (above : List SettledFields) → list_any test above ≡ true → (forest : PlainForest SettledFields) → outside (descendants_below above forest) ≡ 0
  none_outside above h none = refl
  none_outside above h (node settled children siblings) =
      let line : list_any test (settled ∷ above) ≡ true = or_right (test settled) (list_any test above) h in
      let below = none_outside (settled ∷ above) line children in
      let after = none_outside above h siblings in
      let first = outside_first (record { settled = settled; above = above }) (descendants_below (settled ∷ above) children ++ descendants_below above siblings) in
      let own : weight (not (list_any test (settled ∷ above))) ≡ 0 = ap (λ b. weight (not b)) line in
      omega (arith, own, below, after, first, outside_append (descendants_below (settled ∷ above) children) (descendants_below above siblings))

  -- how many there are, tree by tree
  abbrev count_in : PlainForest SettledFields → ℕ
  count_in none = 0
  count_in (node settled children siblings) = cond (test settled) 0 (1 + count_in children) + count_in siblings

  -- below ancestors of which none passes there are so many
  outside_below : (above : List SettledFields) → list_any test above ≡ false → (forest : PlainForest SettledFields) → outside (descendants_below above forest) ≡ count_in forest
  outside_below above h none = refl
  outside_below above h (node settled children siblings) =
      let below = descendants_below (settled ∷ above) children in
      let both = outside_append below (descendants_below above siblings) in
      let after = outside_below above h siblings in
      let first = outside_first (record { settled = settled; above = above }) (below ++ descendants_below above siblings) in
      elim (cases_Bool (test settled)) [
        | inl is ↦
            let line : list_any test (settled ∷ above) ≡ true = or_left (test settled) (list_any test above) is in
            let own : weight (not (list_any test (settled ∷ above))) ≡ 0 = ap (λ b. weight (not b)) line in
            let inner = none_outside (settled ∷ above) line children in
            let count : cond (test settled) 0 (1 + count_in children) ≡ 0 = ap (λ b. cond b 0 (1 + count_in children)) is in
            omega (arith, own, first, both, inner, after, count)
        | inr isnt ↦
            let line : list_any test (settled ∷ above) ≡ false = or_from (test settled) (list_any test above) isnt h in
            let own : weight (not (list_any test (settled ∷ above))) ≡ 1 = ap (λ b. weight (not b)) line in
            let inner = outside_below (settled ∷ above) line children in
            let count : cond (test settled) 0 (1 + count_in children) ≡ 1 + count_in children = ap (λ b. cond b 0 (1 + count_in children)) isnt in
            omega (arith, own, first, both, inner, after, count)
      ]

  -- in a forest: of each tree none where its node passes, and else its node and those below it
  pub outside_both : (settled : SettledFields) (children siblings : PlainForest SettledFields)
      → count_outside test (node settled children siblings) ≡ cond (test settled) 0 (1 + count_outside test children) + count_outside test siblings
  outside_both settled children siblings =
      outside_below [] refl (node settled children siblings)
      ∙ (λ i. cond (test settled) 0 (1 + sym (outside_below [] refl children) i) + sym (outside_below [] refl siblings) i)
