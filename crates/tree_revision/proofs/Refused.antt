-- Why a step is cancelled.
use Rattle.std.proofs.Common.{◌≡◌, ◌≢◌, ℕ, Bool, true, false, cond, Option, Some, None, nat_eq, Ok, Err, refl, ap, sym, subst, ◌∙◌}
use Rattle.std.specs.Prelude.{is_some, unwrap_or}
use Rattle.std.specs.Option.{option_map, option_or, option_and_then}
use Rattle.std.specs.Ordering.{nat_cmp}
use Rattle.std.specs.FinMap.{FinMap, get, insert}
use Rattle.native_state.specs.Families.{cell_in}
use Rattle.native_state.specs.declared.StateCell.{StateCell}
use Rattle.native_state.specs.declared.Stale.{Stale}
use Rattle.native_state.specs.declared.StateChange.{StateChange}
use Rattle.native_state.specs.declared.StateChange.TheVariants.{Set, Add, SetIf}
use Rattle.native_state.specs.declared.Family.{Family}
use Rattle.native_state.specs.State.{start_cell, cell_after, applied}
use Rattle.shadow_kinds.specs.Traits.{has_state_of}
use Rattle.shadow_node.specs.Forest.{PlainForest, PlainNode}
use Rattle.shadow_node.specs.Fields.{SettledFields, contents_of}
use Rattle.shadow_node.specs.Find.{first_settled, first_with}
use Rattle.shadow_node.proofs.Found.{contents_of_node, first_with-contents}
use Rattle.tree_build.specs.declared.builds.BuildRefusal.{BuildRefusal}
use Rattle.tree_build.specs.declared.builds.BuildRefusal.TheVariants.{Memory as BuildMemory}
use Rattle.tree_revision.specs.Cancels.{cancel_for, stale, state_cancel, props_cancel}
use Rattle.tree_revision.specs.declared.record.Cancel.{Cancel}
use Rattle.tree_revision.specs.declared.record.Cancel.TheVariants.{NotMounted, Stateless}
use Rattle.tree_revision.specs.declared.next.PrepareRefusal.{PrepareRefusal}
use Rattle.tree_revision.specs.declared.next.PrepareRefusal.TheVariants.{Cancel as CancelRefusal, Memory}
use Rattle.tree_revision.specs.Steps.{IsFor, refusal_for, families_changed, families_with_cell}

-- what is built is refused for the cause that the refusal is
pub refused_built : (why : Option BuildRefusal) (refusal : BuildRefusal) (later : Option Cancel) → (refusal ≢ BuildMemory → why ≡ Some refusal)
    → IsFor (option_or (option_and_then cancel_for why) later) (refusal_for refusal)
refused_built why BuildMemory later is = tt
refused_built why refusal later is = ap (λ w. option_or (option_and_then cancel_for w) later) (is (λ e. cc))

-- a later cause, where there is none before
pub refused_later : (first later : Option Cancel) (refusal : PrepareRefusal) → first ≡ None → IsFor later refusal → IsFor (option_or first later) refusal
refused_later first later (CancelRefusal cause) none why = ap (λ o. option_or o later) none ∙ why
refused_later first later Memory none why = tt

-- one of two answers by a test, where it is Ok
ok_of_two : (test : Bool) (cell after : StateCell) (stale : Stale) → cond test (Ok cell) (Err stale) ≡ Ok after → after ≡ cell
ok_of_two true cell after stale is = cc
ok_of_two false cell after stale is = absurd cc

-- a change that is applied leads to the cell after it
pub cell_applied : (change : StateChange) (cell after : StateCell) → applied change cell ≡ Ok after → after ≡ cell_after change cell
cell_applied (Set point) cell after is = cc
cell_applied (Add by) cell after is = cc
cell_applied (SetIf count point) cell after is = ok_of_two (nat_eq count cell.count) (cell_after (SetIf count point) cell) after (record { count = cell.count }) is

-- a family with that cell is a family with that change
pub families_with_changed : (tag : ℕ) (change : StateChange) (families : FinMap nat_cmp Family) (cell : StateCell) → cell ≡ cell_after change (cell_in families tag)
    → families_with_cell families tag cell ≡ families_changed tag change families
families_with_changed tag change families cell is =
    elim (get families tag) as (λ o. cell ≡ cell_after change (unwrap_or (option_map (λ family. family.cell) o) start_cell)
    → unwrap_or (option_map (λ family. insert families tag (record { kind = family.kind; cell = cell })) o) families
    ≡ unwrap_or (option_map (λ family. insert families tag (record { kind = family.kind; cell = cell_after change family.cell })) o) families) [
      | None ↦ λ _. refl
      | Some family ↦ λ e. ap (λ c. insert families tag (record { kind = family.kind; cell = c })) e
    ] is

-- a change of the state of a tag that is not mounted
pub state_unmounted : (tag : ℕ) (change : StateChange) (cell : StateCell) (forest : PlainForest SettledFields) → None ≡ first_settled tag forest
    → state_cancel tag change cell (first_with tag (contents_of forest)) ≡ Some (NotMounted tag)
state_unmounted tag change cell forest none =
    ap (state_cancel tag change cell) (sym (first_with-contents tag forest) ∙ ap (option_map contents_of_node) (sym none))

-- and of one that is, by whether its kind has a state
pub state_mounted : (tag : ℕ) (change : StateChange) (cell : StateCell) (forest : PlainForest SettledFields) (tree : PlainNode SettledFields) (has_state : Bool)
    → Some tree ≡ first_settled tag forest → has_state ≡ has_state_of tree.fields.fields.kind
    → state_cancel tag change cell (first_with tag (contents_of forest)) ≡ cond has_state (stale tag change cell) (Some (Stateless tag))
state_mounted tag change cell forest tree has_state found has =
    ap (state_cancel tag change cell) (sym (first_with-contents tag forest) ∙ ap (option_map contents_of_node) (sym found))
    ∙ ap (λ has. cond has (stale tag change cell) (Some (Stateless tag))) (sym has)

-- a change of a node is cancelled by whether one is found
props_found : (tag : ℕ) (found : Option (PlainNode SettledFields)) → props_cancel tag (option_map contents_of_node found) ≡ cond (is_some found) None (Some (NotMounted tag))
props_found tag None = refl
props_found tag (Some tree) = refl

-- a change of a node is cancelled where the node is not mounted
pub props_mounted : (tag : ℕ) (forest : PlainForest SettledFields) (is_mounted : Bool) → is_mounted ≡ is_some (first_settled tag forest)
    → props_cancel tag (first_with tag (contents_of forest)) ≡ cond is_mounted None (Some (NotMounted tag))
props_mounted tag forest is_mounted is =
    ap (props_cancel tag) (sym (first_with-contents tag forest)) ∙ props_found tag (first_settled tag forest) ∙ ap (λ b. cond b None (Some (NotMounted tag))) (sym is)

-- the cause that a refusal has
pub cause_known : (why : Option Cancel) (refusal : PrepareRefusal) (cause : Cancel) → IsFor why refusal → refusal ≡ CancelRefusal cause → why ≡ Some cause
cause_known why refusal cause known is = subst (IsFor why) is known
