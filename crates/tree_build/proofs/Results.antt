-- What script nodes name is what is built of them.
use Rattle.std.proofs.Common.{◌≡◌, ℕ, true, false, Bool, refl, ◌∙◌}
use Rattle.std.specs.Prelude.{Option, Some, None, option_map, is_some, if◌then◌else◌, IsSome, ◌||◌}
use Rattle.std.specs.Option.{option_or}
use Rattle.shadow_kinds.specs.Traits.{is_leaf_of}
use Rattle.shadow_node.specs.declared.NodeEdit.{NodeEdit}
use Rattle.shadow_node.specs.Forest.{PlainForest, PlainNode}
use Rattle.shadow_node.specs.Fields.{NodeFields, SettledFields, contents_of}
use Rattle.shadow_node.specs.Find.{first_with, first_settled}
use Rattle.shadow_node.specs.Limits.{IsForestWithin}
use Rattle.shadow_node.proofs.Found.{contents_of_node}
use Rattle.tree_build.specs.Script.{ScriptForest, no_more, written, kept, kept_with}
use Rattle.tree_build.specs.InRange.{AreNodesInRange}
use Rattle.tree_build.specs.Resolved.{resolved, kept_node, kept_node_with}
use Rattle.tree_build.specs.Refusals.{unkept_in, tag_of_parent, is_kept_leaf, leaf_with_child, forest_refusal_of, build_refusal_of}
use Rattle.tree_build.specs.declared.builds.BuildRefusal.{BuildRefusal}
use Rattle.tree_build.specs.declared.builds.BuildRefusal.TheVariants.{Unkept, ChildOfLeaf}
use Rattle.tree_build.specs.Built.{built, kept_tree, kept_tree_with}
use Rattle.tree_build.specs.Buildable.{AreBuildable, MayHave}
use Rattle.tree_build.specs.KeptNodes.{has_kept}
use Rattle.tree_build.proofs.Finds.{first_with_held}
use Rattle.tree_build.proofs.Within.{within_from_refusal}

contents_of-kept_tree : (found : Option (PlainNode SettledFields)) (change : Option NodeEdit) (siblings : PlainForest SettledFields)
    → contents_of (kept_tree found change siblings) ≡ kept_node (option_map contents_of_node found) change (contents_of siblings)
contents_of-kept_tree None change siblings = refl
contents_of-kept_tree (Some tree) None siblings = refl
contents_of-kept_tree (Some tree) (Some change) siblings = refl

contents_of-kept_tree_with : (found : Option (PlainNode SettledFields)) (change : Option NodeEdit) (children siblings : PlainForest SettledFields)
    → contents_of (kept_tree_with found change children siblings) ≡ kept_node_with (option_map contents_of_node found) change (contents_of children) (contents_of siblings)
contents_of-kept_tree_with None change children siblings = refl
contents_of-kept_tree_with (Some tree) None children siblings = refl
contents_of-kept_tree_with (Some tree) (Some change) children siblings = refl

-- the contents of what is built are what the nodes name over the held contents
pub contents_of_built : (held : PlainForest SettledFields) (nodes : ScriptForest) → contents_of (built held nodes) ≡ resolved (contents_of held) nodes
contents_of_built held no_more = refl
contents_of_built held (written fields children siblings) = rw (contents_of_built held children, contents_of_built held siblings) refl
contents_of_built held (kept tag change siblings) =
    contents_of-kept_tree (first_settled tag held) change (built held siblings)
    ∙ rw (contents_of_built held siblings, first_with_held tag held) refl
contents_of_built held (kept_with tag change children siblings) =
    contents_of-kept_tree_with (first_settled tag held) change (built held children) (built held siblings)
    ∙ rw (contents_of_built held children, contents_of_built held siblings, first_with_held tag held) refl

-- of two answers none is there: neither the first nor the second is
neither : {A : Type 0} (a b : Option A) → option_or a b ≡ None → (a ≡ None) × (b ≡ None)
neither None b h = (refl, h)
neither (Some x) b h = absurd (cc)

-- a tag, where no node was found for it
abbrev unless_found : {A : Type 0} → ℕ → Option A → Option ℕ
unless_found tag found = if is_some found then None else Some tag

found_from_unless : {A B : Type 0} (f : A → B) (tag : ℕ) (found : Option A) → unless_found tag (option_map f found) ≡ None → IsSome found
found_from_unless f tag None h = absurd (cc)
found_from_unless f tag (Some x) h = refl

may_have : (held : PlainForest SettledFields) (tag : ℕ) (children : ScriptForest) (found : Option (PlainNode SettledFields))
    → unless_found tag (option_map contents_of_node found) ≡ None
    → tag_of_parent (is_kept_leaf (option_map contents_of_node found)) tag children ≡ None → MayHave found children
may_have held tag children None u l = absurd (cc)
may_have held tag children (Some tree) u l = no_parent (is_leaf_of tree.fields.fields.kind) tag tree.fields.fields.tag children l
  where
    no_parent : (is_leaf : Bool) (one other : ℕ) (children : ScriptForest) → tag_of_parent is_leaf one children ≡ None → tag_of_parent is_leaf other children ≡ None
    no_parent false one other children h = refl
    no_parent true one other no_more h = refl
    no_parent true one other (written fields children siblings) h = absurd (cc)
    no_parent true one other (kept own change siblings) h = absurd (cc)
    no_parent true one other (kept_with own change children siblings) h = absurd (cc)

-- script nodes in range of which nothing is wrong may be built
pub buildable : (held : PlainForest SettledFields) (nodes : ScriptForest) → AreNodesInRange nodes → unkept_in (contents_of held) nodes ≡ None
    → leaf_with_child (contents_of held) nodes ≡ None → AreBuildable held nodes
buildable held no_more r u l = tt
buildable held (written fields children siblings) r u l =
    let plain = contents_of held in
    let kept = neither (unkept_in plain children) (unkept_in plain siblings) u in
    let own = neither (tag_of_parent (is_leaf_of fields.kind) fields.tag children) (option_or (leaf_with_child plain children) (leaf_with_child plain siblings)) l in
    let below = neither (leaf_with_child plain children) (leaf_with_child plain siblings) own.1 in
    (r.0, own.0, buildable held children r.1 kept.0 below.0, buildable held siblings r.2 kept.1 below.1)
buildable held (kept tag change siblings) r u l =
    let plain = contents_of held in
    let kept = neither (unless_found tag (first_with tag plain)) (unkept_in plain siblings) u in
    (found_from_unless contents_of_node tag (first_settled tag held) (rw first_with_held at kept.0), r.1, buildable held siblings r.2 kept.1 l)
buildable held (kept_with tag change children siblings) r u l =
    let plain = contents_of held in
    let here = neither (unless_found tag (first_with tag plain)) (option_or (unkept_in plain children) (unkept_in plain siblings)) u in
    let kept = neither (unkept_in plain children) (unkept_in plain siblings) here.1 in
    let own = neither (tag_of_parent (is_kept_leaf (first_with tag plain)) tag children) (option_or (leaf_with_child plain children) (leaf_with_child plain siblings)) l in
    let below = neither (leaf_with_child plain children) (leaf_with_child plain siblings) own.1 in (
      may_have held tag children (first_settled tag held) (rw first_with_held at here.0) (rw first_with_held at own.0),
      r.1,
      buildable held children r.2 kept.0 below.0,
      buildable held siblings r.3 kept.1 below.1,
    )

-- where kept tags are there and no leaf has a child, it is the forest that is built that may be refused
pub refusal_of_built : (held : PlainForest SettledFields) (nodes : ScriptForest) (forest : PlainForest SettledFields) (refusal : Option BuildRefusal)
    → None ≡ unkept_in (contents_of held) nodes → None ≡ leaf_with_child (contents_of held) nodes → forest ≡ built held nodes
    → refusal ≡ forest_refusal_of (contents_of forest) → build_refusal_of (contents_of held) nodes ≡ refusal
refusal_of_built held nodes forest refusal u l f r = rw (r, f, contents_of_built, ← u, ← l) refl

-- what is built of nodes without a refusal keeps the limits
pub within_from_built : (held : PlainForest SettledFields) (nodes : ScriptForest) → build_refusal_of (contents_of held) nodes ≡ None
    → IsForestWithin (contents_of (built held nodes))
within_from_built held nodes h =
    let plain = contents_of held in
    let after = option_or (option_map (λ tag. ChildOfLeaf tag) (leaf_with_child plain nodes)) (forest_refusal_of (resolved plain nodes)) in
    let kept = neither (option_map (λ tag. Unkept tag) (unkept_in plain nodes)) after h in
    let leaves = neither (option_map (λ tag. ChildOfLeaf tag) (leaf_with_child plain nodes)) (forest_refusal_of (resolved plain nodes)) kept.1 in
    rw contents_of_built (within_from_refusal (resolved plain nodes) leaves.1)

no_kept_parts : (a b : Bool) → (a || b) ≡ false → (a ≡ false) × (b ≡ false)
no_kept_parts true b h = absurd (cc)
no_kept_parts false b h = (refl, h)

-- where no node is kept, every held forest gives the same
pub built_alone : (one other : PlainForest SettledFields) (nodes : ScriptForest) → has_kept nodes ≡ false → built one nodes ≡ built other nodes
built_alone one other no_more h = refl
built_alone one other (written fields children siblings) h =
    let parts = no_kept_parts (has_kept children) (has_kept siblings) h in
    rw (built_alone one other children parts.0, built_alone one other siblings parts.1) refl
built_alone one other (kept tag change siblings) h = absurd (cc)
built_alone one other (kept_with tag change children siblings) h = absurd (cc)

unkept_alone : (one other : PlainForest NodeFields) (nodes : ScriptForest) → has_kept nodes ≡ false → unkept_in one nodes ≡ unkept_in other nodes
unkept_alone one other no_more h = refl
unkept_alone one other (written fields children siblings) h =
    let parts = no_kept_parts (has_kept children) (has_kept siblings) h in
    rw (unkept_alone one other children parts.0, unkept_alone one other siblings parts.1) refl
unkept_alone one other (kept tag change siblings) h = absurd (cc)
unkept_alone one other (kept_with tag change children siblings) h = absurd (cc)

leaf_alone : (one other : PlainForest NodeFields) (nodes : ScriptForest) → has_kept nodes ≡ false → leaf_with_child one nodes ≡ leaf_with_child other nodes
leaf_alone one other no_more h = refl
leaf_alone one other (written fields children siblings) h =
    let parts = no_kept_parts (has_kept children) (has_kept siblings) h in
    rw (leaf_alone one other children parts.0, leaf_alone one other siblings parts.1) refl
leaf_alone one other (kept tag change siblings) h = absurd (cc)
leaf_alone one other (kept_with tag change children siblings) h = absurd (cc)

-- and the same refusal
pub refusal_alone : (one other : PlainForest SettledFields) (nodes : ScriptForest) → has_kept nodes ≡ false
    → build_refusal_of (contents_of one) nodes ≡ build_refusal_of (contents_of other) nodes
refusal_alone one other nodes h =
    rw (
      unkept_alone (contents_of one) (contents_of other) nodes h,
      leaf_alone (contents_of one) (contents_of other) nodes h,
      ← contents_of_built one nodes,
      ← contents_of_built other nodes,
      built_alone one other nodes h,
    ) refl
