-- What the building of script nodes asks of them.
use Rattle.std.specs.Prelude.{◌≡◌, Option, Some, None, IsSome, IfSome}
use Rattle.shadow_kinds.specs.Traits.{is_leaf_of}
use Rattle.shadow_node.specs.Forest.{PlainForest, PlainNode}
use Rattle.shadow_node.specs.Fields.{SettledFields}
use Rattle.shadow_node.specs.Find.{first_settled}
use Rattle.shadow_node.specs.InRange.{AreFieldsInRange, IsEditInRange}
use Rattle.tree_build.specs.Script.{ScriptForest, no_more, written, kept, kept_with}
use Rattle.tree_build.specs.Refusals.{tag_of_parent}

-- a held node that may be given these children: it is there, and is no leaf that is given a child
abbrev pub MayHave : Option (PlainNode SettledFields) → ScriptForest → Type 0
MayHave None children = ⊥
MayHave (Some tree) children = tag_of_parent (is_leaf_of tree.fields.fields.kind) tree.fields.fields.tag children ≡ None

-- values are in range, each kept tag is in the held forest, and no leaf is given a child
abbrev pub AreBuildable : PlainForest SettledFields → ScriptForest → Type 0
AreBuildable held no_more = Unit {0}
AreBuildable held (written fields children siblings) =
    AreFieldsInRange fields × (tag_of_parent (is_leaf_of fields.kind) fields.tag children ≡ None) × AreBuildable held children × AreBuildable held siblings
AreBuildable held (kept tag change siblings) = IsSome (first_settled tag held) × IfSome change IsEditInRange × AreBuildable held siblings
AreBuildable held (kept_with tag change children siblings) =
    MayHave (first_settled tag held) children × IfSome change IsEditInRange × AreBuildable held children × AreBuildable held siblings
