-- What a forest's fields are seen as.
use Rattle.std.specs.Prelude.{Some, None}
use Rattle.shadow_node.specs.declared.Forest.TheInside.{Inside}
use Rattle.shadow_node.specs.Forest.{PlainForest, none}
use Rattle.shadow_node.specs.Fields.{SettledFields}
use Rattle.shadow_node.specs.Falls.{forest_at}

-- a forest without a list is empty
abbrev pub seen_forest : Inside → PlainForest SettledFields
seen_forest inside = elim inside.nodes [ None ↦ none | Some nodes ↦ forest_at nodes.value.items ]
