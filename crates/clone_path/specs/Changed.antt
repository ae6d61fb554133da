-- A forest with a change of one node.
use Rattle.std.specs.Prelude.{ℕ, nat_eq, if◌then◌else◌}
use Rattle.shadow_node.specs.declared.NodeEdit.{NodeEdit}
use Rattle.shadow_node.specs.Forest.{PlainForest, none, node}
use Rattle.shadow_node.specs.Fields.{SettledFields}
use Rattle.shadow_node.specs.Edit.{edited_settled}

-- a forest with a change of the nodes of that tag
abbrev pub forest_edited_at : ℕ → NodeEdit → PlainForest SettledFields → PlainForest SettledFields
forest_edited_at tag change none = none
forest_edited_at tag change (node settled children siblings) =
    node (if nat_eq settled.fields.tag tag then edited_settled change settled else settled) (forest_edited_at tag change children) (forest_edited_at tag change siblings)
