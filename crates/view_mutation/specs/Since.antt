-- What the mutations since a base ask of a forest.
use Rattle.std.specs.Prelude.{◌≤◌}
use Rattle.std.specs.List.{AllByRecursion}
use Rattle.shadow_node.specs.Forest.{PlainForest}
use Rattle.shadow_node.specs.Fields.{SettledFields, contents_of, tags_of}

-- each tag of a forest is at least 1
abbrev pub AreTagged : PlainForest SettledFields → Type 0
AreTagged forest = AllByRecursion (λ tag. 1 ≤ tag) (tags_of (contents_of forest))
