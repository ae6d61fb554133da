-- When the values of script nodes are in range.
use Rattle.std.specs.Prelude.{IfSome}
use Rattle.shadow_node.specs.InRange.{IsTagInRange, AreFieldsInRange, IsEditInRange}
use Rattle.tree_build.specs.Script.{ScriptForest, no_more, written, kept, kept_with}

-- the nodes of a tree
abbrev pub AreNodesInRange : ScriptForest → Type 0
AreNodesInRange no_more = Unit {0}
AreNodesInRange (written fields children siblings) = AreFieldsInRange fields × AreNodesInRange children × AreNodesInRange siblings
AreNodesInRange (kept tag change siblings) = IsTagInRange tag × IfSome change IsEditInRange × AreNodesInRange siblings
AreNodesInRange (kept_with tag change children siblings) =
    IsTagInRange tag × IfSome change IsEditInRange × AreNodesInRange children × AreNodesInRange siblings
