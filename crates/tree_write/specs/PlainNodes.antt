-- A node that a host writes out, before it joins a tree.
use Rattle.std.specs.Prelude.{ℕ, List}
use Rattle.prop_table.specs.Props.{PropList}
use Rattle.shadow_kinds.specs.declared.Kind.{Kind}
use Rattle.tree_build.specs.declared.ScriptNode.{ScriptNode}

-- its values, and its children as a commit names them
pub record WrittenNode : Type 0 where
  pub tag : ℕ
  pub kind : Kind
  pub props : PropList
  pub label : List ℕ
  pub children : List ScriptNode
