-- How much is made for a change.
use Rattle.std.specs.Prelude.{◌≡◌, ℕ, ◌+◌, ◌-◌, ◌*◌, ◌≤◌, [], length, unwrap_or}
use Rattle.std.specs.FinMap.{len}
use Rattle.shadow_node.specs.Forest.{PlainForest, none}
use Rattle.shadow_node.specs.Fields.{SettledFields}
use Rattle.shadow_node.specs.Find.{way_to}
use Rattle.tree_build.specs.Built.{built, made_for}
use Rattle.clone_path.specs.Changed.{forest_edited_at}
use Rattle.counts.specs.Raised.{raised}
use Rattle.native_state.specs.Families.{cell_in}
use Rattle.native_state.specs.Made.{MadeCounts}
use Rattle.tree_settle.specs.Changes.{changes_in}
use Rattle.tree_revision.specs.Records.{PlainOp, complete, state, props, stop}
use Rattle.tree_revision.specs.Settled.{SettledRevision}

-- the forest of the next revision, before it is settled
abbrev pub forest_next : PlainOp → (front held : SettledRevision) → PlainForest SettledFields
forest_next (complete nodes) front held = built held.forest nodes
forest_next (props tag change) front held = forest_edited_at tag change front.forest
forest_next stop front held = none
forest_next _ front held = front.forest

-- how many nodes are made for a change before the forest is settled: those that a complete makes, or those on the way to the node that is changed
abbrev pub made_first : PlainOp → SettledRevision → ℕ
made_first (complete nodes) front = made_for nodes
made_first (props tag change) front = length (unwrap_or (way_to tag front.forest) [])
made_first _ front = 0

-- and how many by settling it, in the size and with the families of the next revision
abbrev pub made_then : PlainOp → (front held next : SettledRevision) → ℕ
made_then op front held next = changes_in next.size (cell_in next.families) (forest_next op front held)

-- at most how many families are put into new pages: 65 for a change of state, and 65 for each new family
abbrev pub families_most : PlainOp → (front next : SettledRevision) → ℕ
families_most (state tag change) front next = 65
families_most _ front next = 65 * (len next.families - len front.families)

-- how the counts rise with a change that leads to that next revision
pub record IsMadeFor (op : PlainOp) (front held next : SettledRevision) (before after : MadeCounts) : Type 0 where
  pub nodes : after.nodes ≡ raised (raised before.nodes (made_first op front)) (made_then op front held next)
  pub families : before.families ≤ after.families
  pub families_most : after.families ≤ before.families + families_most op front next
