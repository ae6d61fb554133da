use Rattle.std.proofs.Common.{arith, ◌≤◌, IfOk}
use Rattle.std.specs.Prelude.{Result, Ok, Err}
use Rattle.std.specs.declared.alloc.AllocError.{AllocError}
use Rattle.shadow_node.specs.Forest.{PlainForest, depth_of}
use Rattle.shadow_node.specs.Fields.{SettledFields, contents_of}
use Rattle.shadow_node.specs.Limits.{IsForestWithin}
use Rattle.shadow_node.proofs.Maps.{depth_of-forest_map}
use Rattle.tree_settle.specs.Limits.{IsForestInLimits}
use Rattle.tree_settle.proofs.tests.settled_anew.Goals as goal

pub settle-requires-clause-depth : goal.settle-requires-clause-depth
settle-requires-clause-depth c =
    let depth = depth_of-forest_map (λ (settled : SettledFields). settled.fields) c.args.forest.now in
    omega (arith, depth, c.requires.within.depth)

-- a forest within the limits is in them once it is settled
in_limits : (answer : Result (PlainForest SettledFields) AllocError) (forest : PlainForest SettledFields) → IsForestWithin (contents_of forest)
    → IfOk answer (λ settled. IsForestWithin (contents_of forest) → IsForestInLimits settled) → IfOk answer IsForestInLimits
in_limits (Ok settled) forest within limits = limits within
in_limits (Err error) forest within limits = tt

pub returns-clause-limits : goal.returns-clause-limits
returns-clause-limits c = in_limits c.settle.result c.args.forest.now c.requires.within c.settle.ensures.limits

-- a forest in the limits is at most 48 deep
is_shallow : (answer : Result (PlainForest SettledFields) AllocError) → IfOk answer IsForestInLimits → IfOk answer (λ settled. depth_of settled ≤ 48)
is_shallow (Ok settled) limits =
    let depth = depth_of-forest_map (λ (s : SettledFields). s.fields) settled in
    omega (arith, depth, limits.within.depth)
is_shallow (Err error) limits = tt

pub returns-clause-depth : goal.returns-clause-depth
returns-clause-depth c = is_shallow c.settle.result (in_limits c.settle.result c.args.forest.now c.requires.within c.settle.ensures.limits)
