-- Each tree behind a forest's pointer is smaller than the forest.
use Rattle.std.specs.Prelude.{◌*◌, ◌≤◌, Option, Some, None}
use Rattle.std.proofs.Common.{arith}
use Rattle.std.specs.declared.sync.Arc.{Arc}
use Rattle.std.specs.declared.vec.Vec.{Vec}
use Rattle.std.specs.declared.alloc.Global.{Global}
use Rattle.shadow_node.specs.declared.Forest.TheInside.{Inside}
use Rattle.shadow_node.specs.declared.Forest.TheDeep.{deep-Forest}
use Rattle.shadow_node.specs.Forest.{node_count}
use Rattle.shadow_node.specs.Falls.{Shared, most_le-forest}
use Rattle.shadow_node.specs.View.{seen_forest}

abbrev inside : Option (Arc (Vec Shared Global) Global) → Inside
inside nodes = record { nodes = nodes }

by_nodes : (nodes : Option (Arc (Vec Shared Global) Global)) → deep-Forest (inside nodes) ≤ 2 * node_count (seen_forest (inside nodes))
by_nodes None = omega arith
by_nodes (Some nodes) = omega (arith, most_le-forest nodes.value.items)

pub deep_le-forest : (a : Inside) → deep-Forest a ≤ 2 * node_count (seen_forest a)
deep_le-forest a = by_nodes a.nodes
