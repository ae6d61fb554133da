-- What stands below a context in two forests that have the same there.
use Rattle.std.proofs.Common.{◌≡◌, ℕ, List, [], ◌∷◌, ◌++◌, map, filter, Bool, true, false, cond, not, ◌&&◌, ◌||◌, nat_eq, unwrap_or, Some, refl, ap, sym, ◌∙◌}
use Rattle.std.specs.List.{AllByRecursion, IsDistinct, list_any}
use Rattle.std.specs.Option.{option_map}
use Rattle.std.proofs.lemmas.List.{map-append}
use Rattle.std.proofs.lemmas.List.Elements.{filter-append}
use Rattle.shadow_kinds.specs.Traits.{forms_view_of}
use Rattle.shadow_node.specs.Forest.{PlainForest, PlainNode, none, node}
use Rattle.shadow_node.specs.Fields.{SettledFields}
use Rattle.shadow_node.specs.Find.{first_settled}
use Rattle.shadow_node.specs.Seen.{shown_in}
use Rattle.shadow_node.specs.Shown.{Descendant, descendants, descendants_below, is_shown}
use Rattle.host_views.specs.Plain.{PlainHostTree}
use Rattle.view_flatten.specs.HostTree.{host_parent, host_origin, moved}
use Rattle.view_flatten.specs.Places.{placed_at}
use Rattle.view_flatten.proofs.Shorthands.{has_view, is_context}
use Rattle.view_flatten.proofs.Distinct.{each_then}
use Rattle.view_flatten.proofs.Order.{tag_at, tags_at}
use Rattle.view_flatten.proofs.Lines.{tags_below}
use Rattle.view_flatten.proofs.ShownPart.{hides}
use Rattle.view_flatten.proofs.Inside.{block, inside, only_found}

-- below both lines of ancestors nodes have the same host parent, begin at the same place there, and are shown in both or in neither
record AreAlike (a b : List SettledFields) : Type 0 where
  parent : host_parent a ≡ host_parent b
  origin : (s : SettledFields) → host_origin s a ≡ host_origin s b
  hidden : list_any hides a ≡ list_any hides b

-- and so below one more node
alike_below : (s : SettledFields) (a b : List SettledFields) → AreAlike a b → AreAlike (s ∷ a) (s ∷ b)
alike_below s a b h = record {
  parent = ap (λ p. cond (is_context s) s.fields.tag p) h.parent;
  origin = λ x. ap (λ o. cond (is_context s) x.frame.origin (moved o x.frame.origin)) (h.origin s);
  hidden = ap (λ b. hides s || b) h.hidden;
}

-- below a context the other ancestors do not matter, but for being hidden
alike_in_context : (s : SettledFields) (a b : List SettledFields) → is_context s ≡ true → list_any hides (s ∷ a) ≡ list_any hides (s ∷ b) → AreAlike (s ∷ a) (s ∷ b)
alike_in_context s a b c h = record {
  parent = ap (λ x. cond x s.fields.tag (host_parent a)) c ∙ sym (ap (λ x. cond x s.fields.tag (host_parent b)) c);
  origin = λ x. ap (λ y. cond y x.frame.origin (moved (host_origin s a) x.frame.origin)) c ∙ sym (ap (λ y. cond y x.frame.origin (moved (host_origin s b) x.frame.origin)) c);
  hidden = h;
}

-- the views of nodes, wherever they stand below their host parents
abbrev pub looks : List Descendant → PlainHostTree
looks nodes = map (placed_at 0) (filter has_view nodes)

-- of a node, of those below it and of those beside it
looks_first : (here : Descendant) (below beside : List Descendant) → looks (here ∷ below ++ beside) ≡ cond (has_view here) (placed_at 0 here ∷ []) [] ++ (looks below ++ looks beside)
looks_first here below beside =
    first (has_view here)
    ∙ ap (λ r. cond (has_view here) (placed_at 0 here ∷ []) [] ++ r)
    (ap (map (placed_at 0)) (filter-append has_view below beside) ∙ map-append (placed_at 0) (filter has_view below) (filter has_view beside))
  where
    first : (b : Bool) → map (placed_at 0) (cond b (here ∷ filter has_view (below ++ beside)) (filter has_view (below ++ beside))) ≡ cond b (placed_at 0 here ∷ []) [] ++ looks (below ++ beside)
    first true = refl
    first false = refl

-- below lines of ancestors that are alike a forest has the same views
same_looks : (a b : List SettledFields) → AreAlike a b → (forest : PlainForest SettledFields) → looks (descendants_below a forest) ≡ looks (descendants_below b forest)
same_looks a b h none = refl
same_looks a b h (node s children siblings) =
    looks_first (record { settled = s; above = a }) (descendants_below (s ∷ a) children) (descendants_below a siblings)
    ∙ (λ i. cond (forms_view_of s.fields.kind s.fields.props && not (hides s || h.hidden i)) (place i ∷ []) [] ++ (same_looks (s ∷ a) (s ∷ b) (alike_below s a b h) children i ++ same_looks a b h siblings i))
    ∙ sym (looks_first (record { settled = s; above = b }) (descendants_below (s ∷ b) children) (descendants_below b siblings))
  where
    place : placed_at 0 (record { settled = s; above = a }) ≡ placed_at 0 (record { settled = s; above = b })
    place i = record {
      tag = s.fields.tag;
      parent = h.parent i;
      index = 0;
      view = record {
        kind = s.fields.kind;
        props = s.fields.props;
        label = s.fields.label;
        state = s.state;
        frame = record { origin = h.origin s i; size = s.frame.size };
      };
    }

-- where the tree of a tag is a context, each node of the tag is one
pub each_context : (forest : PlainForest SettledFields) → IsDistinct nat_eq (tags_at (descendants forest)) → (tag : ℕ) (tree : PlainNode SettledFields) → first_settled tag forest ≡ Some tree
    → is_context tree.fields ≡ true → AllByRecursion (λ here. nat_eq (tag_at here) tag ≡ true → is_context here.settled ≡ true) (descendants forest)
each_context forest distinct tag tree found context =
    let own = block tag tree [] forest tt distinct found in
    let top : Descendant = record { settled = tree.fields; above = own.up } in
    each_then (λ here. nat_eq (tag_at here) tag ≡ true → here ≡ top) (λ here. nat_eq (tag_at here) tag ≡ true → is_context here.settled ≡ true)
    (λ here same e. ap (λ (d : Descendant). is_context d.settled) (same e) ∙ context) (descendants forest) (only_found tag top (descendants forest) distinct own.found)

-- the same stands below a tag in two forests: the same tags, and the same views
pub record AreSameBelow (old new : PlainForest SettledFields) (tag : ℕ) : Type 0 where
  pub tags : tags_at (inside old tag) ≡ tags_at (inside new tag)
  pub views : looks (inside old tag) ≡ looks (inside new tag)

-- the same context, which is shown in both forests or in neither, has the same below it
pub same_below : (old new : PlainForest SettledFields) → IsDistinct nat_eq (tags_at (descendants old)) → IsDistinct nat_eq (tags_at (descendants new)) → (tag : ℕ) (tree : PlainNode SettledFields)
    → first_settled tag old ≡ Some tree → first_settled tag new ≡ Some tree → is_context tree.fields ≡ true → shown_in old tag ≡ shown_in new tag → AreSameBelow old new tag
same_below old new apart_old apart_new tag tree found_old found_new context shown =
    let was = block tag tree [] old tt apart_old found_old in
    let is = block tag tree [] new tt apart_new found_new in
    let top_old : Descendant = record { settled = tree.fields; above = was.up } in
    let top_new : Descendant = record { settled = tree.fields; above = is.up } in
    let both : is_shown top_old ≡ is_shown top_new = ap (λ o. unwrap_or o false) (sym (ap (option_map is_shown) was.found) ∙ shown ∙ ap (option_map is_shown) is.found) in
    let hidden : list_any hides (tree.fields ∷ was.up) ≡ list_any hides (tree.fields ∷ is.up) = sym (twice (list_any hides (tree.fields ∷ was.up))) ∙ ap not both ∙ twice (list_any hides (tree.fields ∷ is.up)) in
    record {
      tags = ap tags_at was.below ∙ tags_below (tree.fields ∷ was.up) tree.children ∙ sym (tags_below (tree.fields ∷ is.up) tree.children) ∙ ap tags_at (sym is.below);
      views = ap looks was.below ∙ same_looks (tree.fields ∷ was.up) (tree.fields ∷ is.up) (alike_in_context tree.fields was.up is.up context hidden) tree.children ∙ ap looks (sym is.below);
    }
  where
    twice : (b : Bool) → not (not b) ≡ b
    twice true = refl
    twice false = refl
