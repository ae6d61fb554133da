-- The forest of the tests keeps the limits.
use Rattle.std.proofs.Common.{◌≡◌, arith, sym, subst}
use Rattle.std.specs.List.{IsDistinct}
use Rattle.shadow_node.specs.Forest.{PlainForest, none}
use Rattle.shadow_node.specs.Fields.{SettledFields}
use Rattle.tree_settle.specs.Limits.{IsForestInLimits}

-- no node keeps the limits
no_node : IsForestInLimits none
unfolding IsDistinct
no_node = record { within = record { differ = tt; depth = omega arith; count = omega arith }; frames = tt }

pub empty_in_limits : (forest : PlainForest SettledFields) → forest ≡ none → IsForestInLimits forest
empty_in_limits forest e = subst IsForestInLimits (sym e) no_node
