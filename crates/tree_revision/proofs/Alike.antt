-- When nodes and forests are equal.
use Rattle.std.proofs.Common.{◌≡◌, ℕ, Bool, ◌&&◌, true, false, Decides, Option, Some, None, cond, nat_eq, refl, ap, sym, ◌∙◌, subst}
use Rattle.std.specs.Option.{option_map, option_or}
use Rattle.std.specs.Cmp.Lexicographic.{pointwise}
use Rattle.std.proofs.lemmas.Bool.Decides.{Decides-eqb, Decides-and}
use Rattle.std.proofs.lemmas.Slice.Eq.{slice_eq-Decides}
use Rattle.shadow_frame.proofs.Same.{by_parts, same_options, same_frames}
use Rattle.native_state.proofs.Same.{same_cells}
use Rattle.native_state.specs.Same.{is_same_cell}
use Rattle.shadow_kinds.specs.declared.Kind.{Kind}
use Rattle.shadow_kinds.specs.Words.{code_of}
use Rattle.shadow_kinds.proofs.SameProps.{same_props}
use Rattle.shadow_node.specs.Forest.{PlainForest, none, node, PlainNode}
use Rattle.shadow_node.specs.Fields.{SettledFields}
use Rattle.shadow_node.specs.Find.{first_settled}
use Rattle.tree_revision.specs.Unchanged.{SeenNode, shown_here, seen_below, AreSeenIn, DoTreesStandIn, top_tags, is_same_fields}
use Rattle.tree_revision.proofs.Families.{same_kind}
use Rattle.tree_revision.proofs.Seen.{tree_seen}

same_kinds : (a b : Kind) → Decides (nat_eq (code_of a) (code_of b)) (a ≡ b)
same_kinds a b = by_parts _ (Decides-eqb (code_of a) (code_of b)) (same_kind a b) (ap code_of)

-- the test of two nodes' fields decides their equality
pub same_fields : (a b : SettledFields) → Decides (is_same_fields a b) (a ≡ b)
same_fields a b =
    by_parts _
    (Decides-and _ _
    (Decides-and _ _
    (Decides-and _ _
    (Decides-and _ _
    (Decides-and _ _ (Decides-eqb a.fields.tag b.fields.tag) (same_kinds a.fields.kind b.fields.kind))
    (same_props a.fields.props b.fields.props))
    (slice_eq-Decides Decides-eqb a.fields.label b.fields.label (pointwise nat_eq a.fields.label b.fields.label) refl))
    (same_options is_same_cell same_cells a.state b.state))
    (same_frames a.frame b.frame))
    (λ h i. record { fields = record { tag = h.0.0.0.0.0 i; kind = h.0.0.0.0.1 i; props = h.0.0.0.1 i; label = h.0.0.1 i }; state = h.0.1 i; frame = h.1 i })
    (λ e. (((((ap (λ v. v.fields.tag) e, ap (λ v. v.fields.kind) e), ap (λ v. v.fields.props) e), ap (λ v. v.fields.label) e), ap (λ v. v.state) e), ap (λ v. v.frame) e))

-- forests of trees of an older one are equal where their top nodes have the same tags
same_trees : (old k l : PlainForest SettledFields) → DoTreesStandIn old k → DoTreesStandIn old l → top_tags k ≡ top_tags l → k ≡ l
same_trees old none none in_k in_l e = refl
same_trees old none (node g d t) in_k in_l e = absurd cc
same_trees old (node f c s) none in_k in_l e = absurd cc
same_trees old (node f c s) (node g d t) in_k in_l e =
    let tag : f.fields.tag ≡ g.fields.tag = cc in
    let rest : top_tags s ≡ top_tags t = cc in
    let first : PlainNode SettledFields = record { fields = f; children = c } in
    let second : PlainNode SettledFields = record { fields = g; children = d } in
    let both : Some first ≡ Some second = sym in_k.0 ∙ ap (λ t. first_settled t old) tag ∙ in_l.0 in
    let one : first ≡ second = cc in
    λ i. node (one i).fields (one i).children (same_trees old s t in_k.1 in_l.1 rest i)

-- a node and another one are equal where their fields are, and those below them are trees of an older forest with the same tags
pub same_nodes : (old : PlainForest SettledFields) (was is : PlainNode SettledFields) (below tags fields : Bool) → DoTreesStandIn old was.children
    → Decides below (DoTreesStandIn old is.children) → Decides tags (top_tags was.children ≡ top_tags is.children) → Decides fields (was.fields ≡ is.fields)
    → Decides (below && tags && fields) (was ≡ is)
same_nodes old was is below tags fields stand b t f =
    by_parts _ (Decides-and _ _ (Decides-and _ _ b t) f)
    (λ h i. record { fields = h.1 i; children = same_trees old was.children is.children stand h.0.0 h.0.1 i })
    (λ e. ((subst (λ (n : PlainNode SettledFields). DoTreesStandIn old n.children) e stand, ap (λ n. top_tags n.children) e), ap (λ n. n.fields) e))

-- the trees of what is seen in a whole forest are trees of it
pub trees_stand : (whole : PlainForest SettledFields) (above : Bool) (forest : PlainForest SettledFields) → AreSeenIn whole above forest → DoTreesStandIn whole forest
trees_stand whole above none seen = tt
trees_stand whole above (node f k s) seen =
    (sym (tree_seen true f.fields.tag whole) ∙ ap (option_map (λ seen. seen.tree)) seen.0, trees_stand whole above s seen.2)

-- so are those below a node that is found
pub below_stand : (whole : PlainForest SettledFields) (above : Bool) (tag : ℕ) (forest : PlainForest SettledFields) (found : SeenNode) → AreSeenIn whole above forest
    → seen_below above tag forest ≡ Some found → DoTreesStandIn whole found.tree.children
below_stand whole above tag none found seen e = absurd cc
below_stand whole above tag (node f k s) found seen e =
    elim (nat_eq f.fields.tag tag) as (λ b. cond b (Some (record { tree = record { fields = f; children = k }; shown = shown_here above f })) (option_or (seen_below (shown_here above f) tag k) (seen_below above tag s)) ≡ Some found
    → DoTreesStandIn whole found.tree.children) [
      | true ↦ λ e. let first : SeenNode = record { tree = record { fields = f; children = k }; shown = shown_here above f } in
          let same : first ≡ found = cc in
          subst (λ found. DoTreesStandIn whole found.tree.children) same (trees_stand whole (shown_here above f) k seen.1)
      | false ↦ λ e. of_two (seen_below (shown_here above f) tag k) (seen_below above tag s) e
          (below_stand whole (shown_here above f) tag k found seen.1) (below_stand whole above tag s found seen.2)
    ] e
  where
    of_two : {P : Type 0} (a b : Option SeenNode) → option_or a b ≡ Some found → (a ≡ Some found → P) → (b ≡ Some found → P) → P
    of_two None b e left right = right e
    of_two (Some x) b e left right = left e
