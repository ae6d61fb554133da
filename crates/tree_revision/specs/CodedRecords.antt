-- The codes of script nodes, changes and records, by which a proof tells two apart.
use Rattle.std.specs.Prelude.{◌≡◌, ◌⊎◌, ℕ, Bool, true, false, Option, Some, None, refl}
use Rattle.std.specs.Coded.{Coded, code_by, coded×, coded⊎, coded_bool, coded_option, coded_ℕ}
use Rattle.std.proofs.Common.{inl, inr}
use Rattle.shadow_frame.specs.declared.Size.{Size}
use Rattle.shadow_frame.specs.contracts.Size as size
use Rattle.native_state.specs.declared.StateChange.{StateChange}
use Rattle.native_state.specs.contracts.StateChange as state_change
use Rattle.shadow_node.specs.declared.NodeEdit.{NodeEdit}
use Rattle.shadow_node.specs.contracts.NodeEdit as node_edit
use Rattle.shadow_node.specs.Fields.{NodeFields}
use Rattle.shadow_node.specs.Forest.{PlainForest, none, node}
use Rattle.shadow_node.specs.Code.{coded_fields, coded_forest}
use Rattle.tree_build.specs.Script.{ScriptForest, no_more, written, kept, kept_with}
use Rattle.tree_revision.specs.Records.{PlainOp, complete, state, props, resize, stop, suspend, resume, PlainRecord}

-- what a script node names: the fields of a written node, or a kept tag with its edit, and whether it has children of its own
abbrev Named : Type 0
Named = NodeFields ⊎ (ℕ × (Option NodeEdit × Bool))

abbrev coded_named : Coded Named
coded_named = coded⊎ coded_fields (coded× coded_ℕ (coded× (coded_option (node_edit.the_row).coded) coded_bool))

-- script nodes as a forest of what they name
pub named_forest : ScriptForest → PlainForest Named
named_forest no_more = none
named_forest (written fields children siblings) = node (inl fields) (named_forest children) (named_forest siblings)
named_forest (kept tag change siblings) = node (inr (tag, (change, false))) none (named_forest siblings)
named_forest (kept_with tag change children siblings) = node (inr (tag, (change, true))) (named_forest children) (named_forest siblings)

abbrev kept_as : Bool → ℕ → Option NodeEdit → (children siblings : ScriptForest) → ScriptForest
kept_as false tag change children siblings = kept tag change siblings
kept_as true tag change children siblings = kept_with tag change children siblings

abbrev node_as : Named → (children siblings : ScriptForest) → ScriptForest
node_as (inl fields) children siblings = written fields children siblings
node_as (inr one) children siblings = kept_as one.1.1 one.0 one.1.0 children siblings

pub from_named : PlainForest Named → ScriptForest
from_named none = no_more
from_named (node named children siblings) = node_as named (from_named children) (from_named siblings)

pub from_named_forest : (nodes : ScriptForest) → from_named (named_forest nodes) ≡ nodes
unfolding named_forest from_named
from_named_forest no_more = refl
from_named_forest (written fields children siblings) = λ i. written fields (from_named_forest children i) (from_named_forest siblings i)
from_named_forest (kept tag change siblings) = λ i. kept tag change (from_named_forest siblings i)
from_named_forest (kept_with tag change children siblings) = λ i. kept_with tag change (from_named_forest children i) (from_named_forest siblings i)

abbrev pub coded_nodes : Coded ScriptForest
coded_nodes = code_by (PlainForest Named) (coded_forest coded_named) named_forest from_named from_named_forest

-- what a change is of: nodes, a state, props, a size, or none of these: a stop, a suspension or its end
abbrev ChangeOf : Type 0
ChangeOf = ScriptForest ⊎ ((ℕ × StateChange) ⊎ ((ℕ × NodeEdit) ⊎ (Size ⊎ Option Bool)))

abbrev change_of : PlainOp → ChangeOf
change_of (complete nodes) = inl nodes
change_of (state tag change) = inr (inl (tag, change))
change_of (props tag change) = inr (inr (inl (tag, change)))
change_of (resize size) = inr (inr (inr (inl size)))
change_of stop = inr (inr (inr (inr None)))
change_of suspend = inr (inr (inr (inr (Some false))))
change_of resume = inr (inr (inr (inr (Some true))))

abbrev op_with : ChangeOf → PlainOp
op_with (inl nodes) = complete nodes
op_with (inr (inl named)) = state named.0 named.1
op_with (inr (inr (inl named))) = props named.0 named.1
op_with (inr (inr (inr (inl size)))) = resize size
op_with (inr (inr (inr (inr None)))) = stop
op_with (inr (inr (inr (inr (Some false))))) = suspend
op_with (inr (inr (inr (inr (Some true))))) = resume

pub op_with_change_of : (op : PlainOp) → op_with (change_of op) ≡ op
op_with_change_of (complete nodes) = refl
op_with_change_of (state tag change) = refl
op_with_change_of (props tag change) = refl
op_with_change_of (resize size) = refl
op_with_change_of stop = refl
op_with_change_of suspend = refl
op_with_change_of resume = refl

abbrev pub coded_op : Coded PlainOp
coded_op =
    code_by ChangeOf
    (coded⊎ coded_nodes (coded⊎ (coded× coded_ℕ (state_change.the_row).coded) (coded⊎ (coded× coded_ℕ (node_edit.the_row).coded) (coded⊎ (size.the_row).coded (coded_option coded_bool)))))
    change_of op_with op_with_change_of

abbrev pub coded_record : Coded PlainRecord
coded_record =
    code_by (ℕ × (ℕ × (ℕ × PlainOp))) (coded× coded_ℕ (coded× coded_ℕ (coded× coded_ℕ coded_op)))
    (λ r. (r.actor, (r.call, (r.held, r.op)))) (λ p. record { actor = p.0; call = p.1.0; held = p.1.1.0; op = p.1.1.1 }) (λ _. refl)
