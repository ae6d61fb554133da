-- What the calls of a written node make of it.
use Rattle.std.specs.Prelude.{◌≡◌, ℕ, ℤ, List, [], ◌∷◌, ◌++◌, slice_set, Some, None, Result, Ok, Err}
use Rattle.prop_table.specs.Table.{IsInRow, start_of, v2_rules}
use Rattle.prop_table.specs.Rules.{row_named, rule_at}
use Rattle.shadow_kinds.specs.declared.Kind.{Kind}
use Rattle.tree_build.specs.declared.ScriptNode.{ScriptNode}
use Rattle.tree_build.specs.declared.ScriptNode.TheVariants.{Written, Kept}
use Rattle.tree_write.specs.declared.written.PropRefusal.{PropRefusal}
use Rattle.tree_write.specs.declared.written.PropRefusal.TheVariants.{Unknown, OutOfRange}
use Rattle.tree_write.specs.PlainNodes.{WrittenNode}

-- a node with each prop's start, no label and no children
abbrev pub fresh_node : ℕ → Kind → WrittenNode
fresh_node tag kind = record { tag = tag; kind = kind; props = start_of v2_rules; label = []; children = [] }

-- the node with that label
abbrev pub with_label : List ℕ → WrittenNode → WrittenNode
with_label text node = record node { label = text }

-- the node with one child more, at the end
abbrev pub with_child : ScriptNode → WrittenNode → WrittenNode
with_child child node = record node { children = node.children ++ child ∷ [] }

-- a written node as a commit names it
abbrev pub script_node : WrittenNode → ScriptNode
script_node node = Written node.tag node.kind node.props node.label node.children

-- a kept node as a commit names it: with no change, and with the children that it has
abbrev pub kept_node : ℕ → ScriptNode
kept_node tag = Kept tag None None

-- a row has that name and takes that number, which the node has there from then on
pub record IsSetAt (before after : WrittenNode) (name : List ℕ) (value : ℤ) : Type 0 where
  pub row : ℕ
  pub named : row_named v2_rules name ≡ Some row
  pub in_row : IsInRow (rule_at v2_rules row) (Some value)
  pub node : after ≡ record before { props = slice_set before.props row (Some value) }

-- a row has that name, and does not take that number
pub record IsOutOfRow (name : List ℕ) (value : ℤ) : Type 0 where
  pub row : ℕ
  pub named : row_named v2_rules name ≡ Some row
  pub out : IsInRow (rule_at v2_rules row) (Some value) → ⊥

-- what the setting of a prop answers
abbrev pub HasProp : WrittenNode → List ℕ → ℤ → Result WrittenNode PropRefusal → Type 0
HasProp before name value (Ok after) = IsSetAt before after name value
HasProp before name value (Err Unknown) = row_named v2_rules name ≡ None
HasProp before name value (Err OutOfRange) = IsOutOfRow name value
