-- Nodes of one tag in two forests that are alike since a base.
use Rattle.std.proofs.Common.{◌≡◌, ◌≤◌, ℕ, List, [], ◌∷◌, map, Bool, true, false, ◌&&◌, Contains, nat_eq, unwrap_or, ap, sym, ◌∙◌, subst, inl, inr}
use Rattle.std.specs.List.{AllByRecursion, IsDistinct, list_any}
use Rattle.std.proofs.lemmas.Bool.{and_from, and_parts, both_ways, cases_Bool, eq-eqb, eqb-true, or_parts}
use Rattle.std.proofs.lemmas.List.Elements.{All-contains, All-from_recursion}
use Rattle.shadow_node.specs.Entered.{AreAlikeSince, is_kept_since, is_unchanged_since}
use Rattle.shadow_node.specs.Fields.{SettledFields, contents_of, tags_of}
use Rattle.shadow_node.specs.Find.{first_settled}
use Rattle.shadow_node.specs.Forest.{PlainForest, PlainNode, preorder}
use Rattle.shadow_node.specs.Shown.{Descendant, descendants}
use Rattle.view_flatten.proofs.Agree.{where_any}
use Rattle.view_flatten.proofs.Distinct.{each_of_two, each_then}
use Rattle.view_flatten.proofs.Lines.{tags_below}
use Rattle.view_flatten.proofs.Order.{tag_at}
use Rattle.view_flatten.proofs.Outside.{of_tags}
use Rattle.view_mutation.specs.Since.{AreTagged}
use Rattle.view_mutation.specs.Together.{ArePaired}
use Rattle.view_mutation.proofs.Skipped.{HasTree, each_tree, found_in_old, same_from_both, settled_in_preorder}

-- a node without its ancestors
abbrev alone : SettledFields → Descendant
alone settled = record { settled = settled; above = [] }

-- the tree that a node's tag finds is the node's, and its tag is at least 1
record IsKnown (forest : PlainForest SettledFields) (settled : SettledFields) : Type 0 where
  tree : HasTree forest (alone settled)
  low : 1 ≤ settled.fields.tag

-- what holds of each node, without ancestors
each_settled : (P : SettledFields → Type 0) (nodes : List Descendant) → AllByRecursion (λ here. P here.settled) nodes → AllByRecursion P (map (λ here. here.settled) nodes)
each_settled P [] h = tt
each_settled P (here ∷ nodes) h = (h.0, each_settled P nodes h.1)

each_known : (forest : PlainForest SettledFields) → IsDistinct nat_eq (tags_of (contents_of forest)) → AreTagged forest → AllByRecursion (IsKnown forest) (preorder forest)
each_known forest distinct low =
    let nodes = descendants forest in
    subst (AllByRecursion (IsKnown forest)) (settled_in_preorder [] forest)
    (each_settled (IsKnown forest) nodes
    (each_then (λ here. HasTree forest here × (1 ≤ tag_at here)) (λ here. IsKnown forest here.settled)
    (λ here h. record { tree = record { tree = h.0.tree; found = h.0.found; same = h.0.same }; low = h.1 }) nodes
    (each_of_two (HasTree forest) (λ here. 1 ≤ tag_at here) nodes (each_tree forest (subst (IsDistinct nat_eq) (sym (tags_below [] forest)) distinct))
    (of_tags (λ tag. 1 ≤ tag) nodes (subst (AllByRecursion (λ tag. 1 ≤ tag)) (sym (tags_below [] forest)) low)))))

-- what holds of each holds of one that is contained
of_contained : {X : Type 0} (P : X → Type 0) (xs : List X) (x : X) → AllByRecursion P xs → Contains xs x → P x
of_contained P xs x h c = All-contains P xs x (All-from_recursion P xs h) c

-- where none passes each fails
each_fails : {X : Type 0} (test : X → Bool) (xs : List X) → list_any test xs ≡ false → AllByRecursion (λ x. test x ≡ false) xs
each_fails test [] e = tt
each_fails test (x ∷ xs) e = let parts = or_parts (test x) (list_any test xs) e in (parts.0, each_fails test xs parts.1)

-- one that is contained and passes is found
any_contained : {X : Type 0} (test : X → Bool) (xs : List X) (x : X) → Contains xs x → test x ≡ true → list_any test xs ≡ true
any_contained test xs x c e =
    elim (cases_Bool (list_any test xs)) [
      | inl found ↦ found
      | inr none ↦ absurd (both_ways (test x) (of_contained (λ y. test y ≡ false) xs x (each_fails test xs none) c) e)
    ]

-- trees that are found by one tag are of one node
one_node : (forest : PlainForest SettledFields) (x y : SettledFields) → HasTree forest (alone x) → HasTree forest (alone y) → x.fields.tag ≡ y.fields.tag → x ≡ y
one_node forest x y h k e =
    let same : h.tree ≡ k.tree = ap (λ o. unwrap_or o h.tree) (sym h.found ∙ ap (λ tag. first_settled tag forest) e ∙ k.found) in
    sym h.same ∙ ap (λ (tree : PlainNode SettledFields). tree.fields) same ∙ k.same

-- nodes of one tag are paired
pub paired_since : (stamps : ℕ → ℕ) (base : ℕ) (old new : PlainForest SettledFields) → IsDistinct nat_eq (tags_of (contents_of old)) → IsDistinct nat_eq (tags_of (contents_of new))
    → AreTagged old → AreTagged new → AreAlikeSince stamps base old new → ArePaired (is_kept_since stamps base new) (is_unchanged_since stamps base) old new
paired_since stamps base old new distinct_old distinct_new low_old low_new alike was is in_old in_new tag =
    let unchanged = is_unchanged_since stamps base in
    let all_new = each_known new distinct_new low_new in
    let known_was = of_contained (IsKnown old) (preorder old) was (each_known old distinct_old low_old) in_old in
    let known_is = of_contained (IsKnown new) (preorder new) is all_new in_new in
    record {
      skipped =
          same_from_both (is_kept_since stamps base new was) (unchanged is)
          (where_any (unchanged is ≡ true) (λ now. nat_eq now.fields.tag was.fields.tag && unchanged now) (preorder new)
          (each_then (IsKnown new) (λ now. (nat_eq now.fields.tag was.fields.tag && unchanged now) ≡ true → unchanged is ≡ true)
          (λ now known e. let parts = and_parts (nat_eq now.fields.tag was.fields.tag) (unchanged now) e in
          ap unchanged (sym (one_node new now is known.tree known_is.tree (eqb-true now.fields.tag was.fields.tag parts.0 ∙ tag))) ∙ parts.1) (preorder new) all_new))
          (λ e. any_contained (λ now. nat_eq now.fields.tag was.fields.tag && unchanged now) (preorder new) is in_new
          (and_from (nat_eq is.fields.tag was.fields.tag) (unchanged is) (eq-eqb is.fields.tag was.fields.tag (sym tag)) e));
      same = λ e.
          let found = found_in_old stamps base old new distinct_old distinct_new low_old low_new alike (alone is) known_is.tree known_is.low e in
          one_node old was is known_was.tree (record { tree = known_is.tree.tree; found = found; same = known_is.tree.same }) tag;
    }
