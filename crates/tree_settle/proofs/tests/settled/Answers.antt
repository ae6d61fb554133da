use Rattle.std.proofs.Common.{arith, IfOk}
use Rattle.std.specs.Prelude.{Result, Ok, Err}
use Rattle.std.specs.declared.alloc.AllocError.{AllocError}
use Rattle.shadow_node.specs.Forest.{PlainForest}
use Rattle.shadow_node.specs.Fields.{SettledFields, contents_of}
use Rattle.shadow_node.specs.Limits.{IsForestWithin}
use Rattle.shadow_node.proofs.Maps.{depth_of-forest_map}
use Rattle.tree_settle.specs.Limits.{IsForestInLimits}
use Rattle.tree_settle.proofs.tests.settled.Goals as goal

pub settle-requires-clause-depth : goal.settle-requires-clause-depth
settle-requires-clause-depth c =
    let depth = depth_of-forest_map (λ (settled : SettledFields). settled.fields) c.args.forest.now in
    omega (arith, depth, c.requires.within.depth)

still_within : (answer : Result (PlainForest SettledFields) AllocError) (forest : PlainForest SettledFields) → IsForestWithin (contents_of forest)
    → IfOk answer (λ settled. IsForestWithin (contents_of forest) → IsForestInLimits settled) → IfOk answer (λ settled. IsForestWithin (contents_of settled))
still_within (Ok settled) forest within limits = (limits within).within
still_within (Err error) forest within limits = tt

pub returns : goal.returns
returns c = still_within c.settle.result c.args.forest.now c.requires.within c.settle.ensures.limits
