-- What was written of steps reads back, and has no fault.
use Rattle.std.proofs.Common.{◌≡◌, ℕ, ◌<◌, ◌^◌, Bool, true, Option, None, codes, ℤ, pos, ◌≤ℤ◌, ◌<ℤ◌, int_le, lt-ltb, refl, ap, ◌∙◌, arith}
use Rattle.std.proofs.lemmas.Int.{ints}
use Rattle.std.proofs.lemmas.Bool.Decides.{nat_tests}
use Rattle.serde_json.specs.Data.{Data}
use Rattle.native_state.specs.declared.StateChange.{StateChange}
use Rattle.native_state.specs.declared.StateChange.TheVariants.{Set, Add, SetIf}
use Rattle.tree_revision.specs.Records.{PlainOp, complete, state, props, resize, stop, suspend, resume}
use Rattle.tree_revision.specs.Script.{PlainAct, commit, hold, mount, PlainStep}
use Rattle.tree_revision.specs.InRange.{IsOpInRange, IsActInRange}
use Rattle.script_read.specs.Members.{natural_in, items_at}
use Rattle.script_read.specs.Places.{Pointer, Refusals, in_step}
use Rattle.script_read.specs.Shape.{misshapen_step, misshapen_node}
use Rattle.script_read.specs.Faults.{is_surface, bad_step, no_kind, bad_props_in, bad_tag_in}
use Rattle.script_read.specs.Value.{step_of}
use Rattle.script_read.specs.Writing.{natural, op_json, act_json, step_json}
use Rattle.script_read.specs.Writable.{IsChangeWritable, IsOpWritable, IsActWritable}
use Rattle.script_read.specs.Fits.{IsChangeFit, IsOpFit, IsActFit}
use Rattle.script_read.proofs.EditBack.{integer_back, from_range}
use Rattle.script_read.proofs.NodeBack.{natural_in-back, tag_passes, tag_fits, PassNodes, nodes_pass, nodes_formed, nodes_kinded, nodes_tagged, nodes_propped, nodes_back, nodes_unrefused, edit_faultless, edit_of_back}

-- a size in range is one of 64 bits
pub size_fits : (z : ℤ) → z ≤ℤ pos 1000000 → z <ℤ pos (2 ^ 63)
size_fits z h = omega (arith, ints)

no_less : (n : ℕ) → int_le (pos 0) (pos n) ≡ true
no_less n = grind (arith, nat_tests)

-- the form of a step

state_formed : (two : Bool) (on tag : ℕ) (change : StateChange) → on < 2 ^ 63 → tag < 2 ^ 63 → IsChangeWritable change → IsChangeFit change
    → misshapen_step two (op_json on (state tag change)) ≡ None
state_formed two on tag (Set point) o t w f = rw (lt-ltb on (2 ^ 63) o, lt-ltb tag (2 ^ 63) t, integer_back point.x f.x, integer_back point.y f.y) refl
state_formed two on tag (Add by) o t w f = rw (lt-ltb on (2 ^ 63) o, lt-ltb tag (2 ^ 63) t, integer_back by.x f.x, integer_back by.y f.y) refl
state_formed two on tag (SetIf count point) o t w f =
    rw (lt-ltb on (2 ^ 63) o, lt-ltb tag (2 ^ 63) t, lt-ltb count (2 ^ 63) w, integer_back point.x f.x, integer_back point.y f.y, no_less count) refl

op_formed : (two : Bool) (on : ℕ) (op : PlainOp) → on < 2 ^ 63 → IsOpInRange op → IsOpWritable two op → IsOpFit op → misshapen_step two (op_json on op) ≡ None
op_formed two on (complete nodes) o r w f = rw (lt-ltb on (2 ^ 63) o) refl
op_formed two on (state tag change) o r w f = state_formed two on tag change o (tag_fits tag r) w f
op_formed two on (props tag change) o r w f = rw (lt-ltb on (2 ^ 63) o, lt-ltb tag (2 ^ 63) (tag_fits tag r.0)) refl
op_formed two on (resize size) o r w f =
    rw (lt-ltb on (2 ^ 63) o, integer_back size.width (size_fits size.width r.width_high), integer_back size.height (size_fits size.height r.height_high)) refl
op_formed two on stop o r w f = rw (lt-ltb on (2 ^ 63) o) refl
op_formed two on suspend o r w f = rw (lt-ltb on (2 ^ 63) o, w) refl
op_formed two on resume o r w f = rw (lt-ltb on (2 ^ 63) o, w) refl

act_formed : (two : Bool) (on : ℕ) (act : PlainAct) → on < 2 ^ 63 → IsActInRange act → IsActWritable two act → IsActFit act → misshapen_step two (act_json on act) ≡ None
act_formed two on (commit op) o r w f = op_formed two on op o r w f
act_formed two on hold o r w f = rw (lt-ltb on (2 ^ 63) o) refl
act_formed two on mount o r w f = rw (lt-ltb on (2 ^ 63) o) refl

pub step_formed : (two : Bool) (step : PlainStep) → step.surface < 2 ^ 63 → IsActInRange step.act → IsActWritable two step.act → IsActFit step.act
    → misshapen_step two (step_json step) ≡ None
step_formed two step o r w f = act_formed two step.surface step.act o r w f

-- the surface of a step, and its size

op_placed : (script : Data) (on : ℕ) (op : PlainOp) → on < 2 ^ 63 → is_surface (items_at (codes "surfaces") script) (pos on) ≡ true → IsOpInRange op
    → bad_step script (op_json on op) ≡ None
op_placed script on (complete nodes) o s r = rw (lt-ltb on (2 ^ 63) o, s) refl
op_placed script on (state tag (Set point)) o s r = rw (lt-ltb on (2 ^ 63) o, s) refl
op_placed script on (state tag (Add by)) o s r = rw (lt-ltb on (2 ^ 63) o, s) refl
op_placed script on (state tag (SetIf count point)) o s r = rw (lt-ltb on (2 ^ 63) o, s) refl
op_placed script on (props tag change) o s r = rw (lt-ltb on (2 ^ 63) o, s) refl
op_placed script on (resize size) o s r =
    rw (
      lt-ltb on (2 ^ 63) o,
      s,
      integer_back size.width (size_fits size.width r.width_high),
      integer_back size.height (size_fits size.height r.height_high),
      from_range (pos 0) (pos 1000000) size.width r.width_low r.width_high,
      from_range (pos 0) (pos 1000000) size.height r.height_low r.height_high,
    ) refl
op_placed script on stop o s r = rw (lt-ltb on (2 ^ 63) o, s) refl
op_placed script on suspend o s r = rw (lt-ltb on (2 ^ 63) o, s) refl
op_placed script on resume o s r = rw (lt-ltb on (2 ^ 63) o, s) refl

act_placed : (script : Data) (on : ℕ) (act : PlainAct) → on < 2 ^ 63 → is_surface (items_at (codes "surfaces") script) (pos on) ≡ true → IsActInRange act
    → bad_step script (act_json on act) ≡ None
act_placed script on (commit op) o s r = op_placed script on op o s r
act_placed script on hold o s r = rw (lt-ltb on (2 ^ 63) o, s) refl
act_placed script on mount o s r = rw (lt-ltb on (2 ^ 63) o, s) refl

pub step_placed : (script : Data) (step : PlainStep) → step.surface < 2 ^ 63 → is_surface (items_at (codes "surfaces") script) (pos step.surface) ≡ true
    → IsActInRange step.act → bad_step script (step_json step) ≡ None
step_placed script step o s r = act_placed script step.surface step.act o s r

-- the props of a step

op_propped : (two : Bool) (on : ℕ) (op : PlainOp) → IsOpInRange op → IsOpWritable two op → IsOpFit op → bad_props_in two (op_json on op) ≡ None
op_propped two on (complete nodes) r w f = refl
op_propped two on (state tag (Set point)) r w f = refl
op_propped two on (state tag (Add by)) r w f = refl
op_propped two on (state tag (SetIf count point)) r w f = refl
op_propped two on (props tag change) r w f = rw (edit_faultless two change r.1 w f) refl
op_propped two on (resize size) r w f = refl
op_propped two on stop r w f = refl
op_propped two on suspend r w f = refl
op_propped two on resume r w f = refl

act_propped : (two : Bool) (on : ℕ) (act : PlainAct) → IsActInRange act → IsActWritable two act → IsActFit act → bad_props_in two (act_json on act) ≡ None
act_propped two on (commit op) r w f = op_propped two on op r w f
act_propped two on hold r w f = refl
act_propped two on mount r w f = refl

pub step_propped : (two : Bool) (step : PlainStep) → IsActInRange step.act → IsActWritable two step.act → IsActFit step.act → bad_props_in two (step_json step) ≡ None
step_propped two step r w f = act_propped two step.surface step.act r w f

-- the tag of a step

op_tagged : (on : ℕ) (op : PlainOp) → IsOpInRange op → bad_tag_in (op_json on op) ≡ None
op_tagged on (complete nodes) r = refl
op_tagged on (state tag (Set point)) r = rw (tag_passes tag r) refl
op_tagged on (state tag (Add by)) r = rw (tag_passes tag r) refl
op_tagged on (state tag (SetIf count point)) r = rw (tag_passes tag r) refl
op_tagged on (props tag change) r = rw (tag_passes tag r.0) refl
op_tagged on (resize size) r = refl
op_tagged on stop r = refl
op_tagged on suspend r = refl
op_tagged on resume r = refl

act_tagged : (on : ℕ) (act : PlainAct) → IsActInRange act → bad_tag_in (act_json on act) ≡ None
act_tagged on (commit op) r = op_tagged on op r
act_tagged on hold r = refl
act_tagged on mount r = refl

pub step_tagged : (step : PlainStep) → IsActInRange step.act → bad_tag_in (step_json step) ≡ None
step_tagged step r = act_tagged step.surface step.act r

-- the nodes that a step completes pass
abbrev pub PassOp : (Data → Option Pointer) → PlainOp → Type 0
PassOp refuse (complete nodes) = PassNodes refuse nodes
PassOp refuse (state tag change) = Unit {0}
PassOp refuse (props tag change) = Unit {0}
PassOp refuse (resize size) = Unit {0}
PassOp refuse stop = Unit {0}
PassOp refuse suspend = Unit {0}
PassOp refuse resume = Unit {0}

abbrev pub PassAct : (Data → Option Pointer) → PlainAct → Type 0
PassAct refuse (commit op) = PassOp refuse op
PassAct refuse hold = Unit {0}
PassAct refuse mount = Unit {0}

op_passes : (refusals : Refusals) (on : ℕ) (op : PlainOp) → refusals.of_step (op_json on op) ≡ None → PassOp refusals.of_node op → in_step refusals (op_json on op) ≡ None
op_passes refusals on (complete nodes) s p = rw (s, nodes_pass refusals.of_node nodes 0 p) refl
op_passes refusals on (state tag (Set point)) s p = rw s refl
op_passes refusals on (state tag (Add by)) s p = rw s refl
op_passes refusals on (state tag (SetIf count point)) s p = rw s refl
op_passes refusals on (props tag change) s p = rw s refl
op_passes refusals on (resize size) s p = rw s refl
op_passes refusals on stop s p = rw s refl
op_passes refusals on suspend s p = rw s refl
op_passes refusals on resume s p = rw s refl

act_passes : (refusals : Refusals) (on : ℕ) (act : PlainAct) → refusals.of_step (act_json on act) ≡ None → PassAct refusals.of_node act → in_step refusals (act_json on act) ≡ None
act_passes refusals on (commit op) s p = op_passes refusals on op s p
act_passes refusals on hold s p = rw s refl
act_passes refusals on mount s p = rw s refl

-- a step whose own members and nodes pass
pub step_passes : (refusals : Refusals) (step : PlainStep) → refusals.of_step (step_json step) ≡ None → PassAct refusals.of_node step.act
    → in_step refusals (step_json step) ≡ None
step_passes refusals step s p = act_passes refusals step.surface step.act s p

pub act_nodes_formed : (act : PlainAct) → IsActInRange act → PassAct misshapen_node act
act_nodes_formed (commit (complete nodes)) r = nodes_formed nodes r
act_nodes_formed (commit (state tag change)) r = tt
act_nodes_formed (commit (props tag change)) r = tt
act_nodes_formed (commit (resize size)) r = tt
act_nodes_formed (commit stop) r = tt
act_nodes_formed (commit suspend) r = tt
act_nodes_formed (commit resume) r = tt
act_nodes_formed hold r = tt
act_nodes_formed mount r = tt

pub act_nodes_kinded : (act : PlainAct) → PassAct no_kind act
act_nodes_kinded (commit (complete nodes)) = nodes_kinded nodes
act_nodes_kinded (commit (state tag change)) = tt
act_nodes_kinded (commit (props tag change)) = tt
act_nodes_kinded (commit (resize size)) = tt
act_nodes_kinded (commit stop) = tt
act_nodes_kinded (commit suspend) = tt
act_nodes_kinded (commit resume) = tt
act_nodes_kinded hold = tt
act_nodes_kinded mount = tt

pub act_nodes_tagged : (act : PlainAct) → IsActInRange act → PassAct bad_tag_in act
act_nodes_tagged (commit (complete nodes)) r = nodes_tagged nodes r
act_nodes_tagged (commit (state tag change)) r = tt
act_nodes_tagged (commit (props tag change)) r = tt
act_nodes_tagged (commit (resize size)) r = tt
act_nodes_tagged (commit stop) r = tt
act_nodes_tagged (commit suspend) r = tt
act_nodes_tagged (commit resume) r = tt
act_nodes_tagged hold r = tt
act_nodes_tagged mount r = tt

pub act_nodes_propped : (two : Bool) (act : PlainAct) → IsActInRange act → IsActWritable two act → IsActFit act → PassAct (bad_props_in two) act
act_nodes_propped two (commit (complete nodes)) r w f = nodes_propped two nodes r w f
act_nodes_propped two (commit (state tag change)) r w f = tt
act_nodes_propped two (commit (props tag change)) r w f = tt
act_nodes_propped two (commit (resize size)) r w f = tt
act_nodes_propped two (commit stop) r w f = tt
act_nodes_propped two (commit suspend) r w f = tt
act_nodes_propped two (commit resume) r w f = tt
act_nodes_propped two hold r w f = tt
act_nodes_propped two mount r w f = tt

pub act_nodes_unrefused : (act : PlainAct) → PassAct (λ value. None) act
act_nodes_unrefused (commit (complete nodes)) = nodes_unrefused nodes
act_nodes_unrefused (commit (state tag change)) = tt
act_nodes_unrefused (commit (props tag change)) = tt
act_nodes_unrefused (commit (resize size)) = tt
act_nodes_unrefused (commit stop) = tt
act_nodes_unrefused (commit suspend) = tt
act_nodes_unrefused (commit resume) = tt
act_nodes_unrefused hold = tt
act_nodes_unrefused mount = tt

-- what reads back

state_back : (two : Bool) (on tag : ℕ) (change : StateChange) → on < 2 ^ 32 → tag < 2 ^ 32 → IsChangeWritable change → IsChangeFit change
    → step_of two (op_json on (state tag change)) ≡ record { surface = on; act = commit (state tag change) }
state_back two on tag (Set point) o t w f = rw (natural_in-back on o, natural_in-back tag t, integer_back point.x f.x, integer_back point.y f.y) refl
state_back two on tag (Add by) o t w f = rw (natural_in-back on o, natural_in-back tag t, integer_back by.x f.x, integer_back by.y f.y) refl
state_back two on tag (SetIf count point) o t w f =
    rw (natural_in-back on o, natural_in-back tag t, lt-ltb count (2 ^ 63) w, integer_back point.x f.x, integer_back point.y f.y) refl

op_back : (two : Bool) (on : ℕ) (op : PlainOp) → on < 2 ^ 32 → IsOpInRange op → IsOpWritable two op → IsOpFit op
    → step_of two (op_json on op) ≡ record { surface = on; act = commit op }
op_back two on (complete nodes) o r w f = rw (natural_in-back on o, nodes_back two nodes r w f) refl
op_back two on (state tag change) o r w f = let t : tag < 2 ^ 32 = omega (arith, r.high) in state_back two on tag change o t w f
op_back two on (props tag change) o r w f =
    let t : tag < 2 ^ 32 = omega (arith, r.0.high) in
    ap (λ edit. record { surface = natural_in (natural on); act = commit (props (natural_in (natural tag)) edit) }) (edit_of_back two change r.1 w f)
    ∙ rw (natural_in-back on o, natural_in-back tag t) refl
op_back two on (resize size) o r w f =
    rw (natural_in-back on o, integer_back size.width (size_fits size.width r.width_high), integer_back size.height (size_fits size.height r.height_high)) refl
op_back two on stop o r w f = rw (natural_in-back on o) refl
op_back two on suspend o r w f = rw (natural_in-back on o, w) refl
op_back two on resume o r w f = rw (natural_in-back on o, w) refl

act_back : (two : Bool) (on : ℕ) (act : PlainAct) → on < 2 ^ 32 → IsActInRange act → IsActWritable two act → IsActFit act
    → step_of two (act_json on act) ≡ record { surface = on; act = act }
act_back two on (commit op) o r w f = op_back two on op o r w f
act_back two on hold o r w f = rw (natural_in-back on o) refl
act_back two on mount o r w f = rw (natural_in-back on o) refl

pub step_back : (two : Bool) (step : PlainStep) → step.surface < 2 ^ 32 → IsActInRange step.act → IsActWritable two step.act → IsActFit step.act
    → step_of two (step_json step) ≡ step
step_back two step o r w f = act_back two step.surface step.act o r w f
