-- Why script nodes name no forest that a revision may have, in the order in which it is answered.
use Rattle.std.specs.Prelude.{ℕ, List, [], ◌∷◌, Bool, true, false, nat_eq, nat_lt, if◌then◌else◌, Option, Some, None, is_some, option_map}
use Rattle.std.specs.Option.{option_or, option_map_or}
use Rattle.std.specs.List.{list_any}
use Rattle.shadow_kinds.specs.Traits.{is_leaf_of}
use Rattle.shadow_node.specs.Forest.{PlainForest, PlainNode, depth_of, node_count}
use Rattle.shadow_node.specs.Fields.{NodeFields, tags_of}
use Rattle.shadow_node.specs.Find.{first_with}
use Rattle.tree_build.specs.Script.{ScriptForest, no_more, written, kept, kept_with}
use Rattle.tree_build.specs.Resolved.{resolved}
use Rattle.tree_build.specs.declared.builds.BuildRefusal.{BuildRefusal}
use Rattle.tree_build.specs.declared.builds.BuildRefusal.TheVariants.{Unkept, ChildOfLeaf, TwiceTag, TooDeep, TooManyNodes}

-- the first kept tag that the held forest has not, in preorder of the script nodes
abbrev pub unkept_in : PlainForest NodeFields → ScriptForest → Option ℕ
unkept_in held no_more = None
unkept_in held (written fields children siblings) = option_or (unkept_in held children) (unkept_in held siblings)
unkept_in held (kept tag change siblings) = option_or (if is_some (first_with tag held) then None else Some tag) (unkept_in held siblings)
unkept_in held (kept_with tag change children siblings) =
    option_or (if is_some (first_with tag held) then None else Some tag) (option_or (unkept_in held children) (unkept_in held siblings))

-- a leaf's tag, where it is given a child
abbrev pub tag_of_parent : (is_leaf : Bool) → ℕ → ScriptForest → Option ℕ
tag_of_parent false tag children = None
tag_of_parent true tag no_more = None
tag_of_parent true tag _ = Some tag

-- a kept node is a leaf
abbrev pub is_kept_leaf : Option (PlainNode NodeFields) → Bool
is_kept_leaf found = option_map_or (λ tree. is_leaf_of tree.fields.kind) found false

-- the first leaf that is given a child, in preorder of the script nodes: a written one, or a kept one
abbrev pub leaf_with_child : PlainForest NodeFields → ScriptForest → Option ℕ
leaf_with_child held no_more = None
leaf_with_child held (written fields children siblings) =
    option_or (tag_of_parent (is_leaf_of fields.kind) fields.tag children) (option_or (leaf_with_child held children) (leaf_with_child held siblings))
leaf_with_child held (kept tag change siblings) = leaf_with_child held siblings
leaf_with_child held (kept_with tag change children siblings) =
    option_or (tag_of_parent (is_kept_leaf (first_with tag held)) tag children) (option_or (leaf_with_child held children) (leaf_with_child held siblings))

-- the first tag that is equal to an earlier one
abbrev pub repeated_after : List ℕ → List ℕ → Option ℕ
repeated_after earlier [] = None
repeated_after earlier (tag ∷ tags) = if list_any (nat_eq tag) earlier then Some tag else repeated_after (tag ∷ earlier) tags

abbrev pub repeated : List ℕ → Option ℕ
repeated tags = repeated_after [] tags

-- why a forest is none that a revision may have: two of its nodes have one tag, it is more than 48 deep, or it has more than 2,000 nodes
abbrev pub forest_refusal_of : PlainForest NodeFields → Option BuildRefusal
forest_refusal_of forest =
    option_or (option_map (λ tag. TwiceTag tag) (repeated (tags_of forest)))
    (if nat_lt 48 (depth_of forest) then Some TooDeep else (if nat_lt 2000 (node_count forest) then Some TooManyNodes else None))

-- why script nodes over a held forest name none: a kept tag is not there, a leaf is given a child, or the forest that they name may not be
abbrev pub build_refusal_of : PlainForest NodeFields → ScriptForest → Option BuildRefusal
build_refusal_of held nodes =
    option_or (option_map (λ tag. Unkept tag) (unkept_in held nodes))
    (option_or (option_map (λ tag. ChildOfLeaf tag) (leaf_with_child held nodes)) (forest_refusal_of (resolved held nodes)))
