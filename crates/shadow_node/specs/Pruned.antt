-- A forest without what lies below some of its nodes.
use Rattle.std.specs.Prelude.{ℕ, List, Bool, nat_eq, if◌then◌else◌, filter, map}
use Rattle.std.specs.List.{list_any}
use Rattle.shadow_node.specs.Forest.{PlainForest, none, node, preorder}
use Rattle.shadow_node.specs.Fields.{SettledFields}

-- the forest without what lies below the nodes that pass a test; these nodes themselves stay
abbrev pub pruned : (SettledFields → Bool) → PlainForest SettledFields → PlainForest SettledFields
pruned test none = none
pruned test (node settled children siblings) = node settled (if test settled then none else pruned test children) (pruned test siblings)

-- the tags of the nodes that pass a test and have no node above them that does, in preorder
abbrev pub skipped_tags : (SettledFields → Bool) → PlainForest SettledFields → List ℕ
skipped_tags test forest = map (λ settled. settled.fields.tag) (filter test (preorder (pruned test forest)))

-- whether a node has one of these tags
abbrev pub has_one_of : List ℕ → SettledFields → Bool
has_one_of tags settled = list_any (nat_eq settled.fields.tag) tags
