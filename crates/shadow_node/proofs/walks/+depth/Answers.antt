use Rattle.std.proofs.Common.{arith}
use Rattle.shadow_node.proofs.Depths.{depth_le_count, children_lt_left}
use Rattle.shadow_node.proofs.walks.+depth.Goals as goal

pub overflow_add-below : goal.overflow_add-below
overflow_add-below t c = grind (arith, depth_le_count, children_lt_left)
