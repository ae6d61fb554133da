use Rattle.std.proofs.Common.{◌≡◌, ◌+◌, drop, map}
use Rattle.serde_json.specs.Data.{depth}
use Rattle.serde_json.specs.View.{view}
use Rattle.tree_build.specs.Script.{in_front}
use Rattle.script_read.proofs.Forests.{before, forest_of}
use Rattle.script_read.proofs.nodes.+nodes.Given as goal

abbrev pub decreases-read_children : goal.decreases-read_children
decreases-read_children l = depth (view l.node.now) + depth (view l.node.now)

abbrev pub decreases-read_node : goal.decreases-read_node
decreases-read_node l = depth (view l.node.now) + depth (view l.node.now) + 1

abbrev pub decreases-read_nodes : goal.decreases-read_nodes
decreases-read_nodes l = depth (view l.tree.now) + depth (view l.tree.now)

abbrev pub invariant-read_nodes-loop-node : goal.invariant-read_nodes-loop-node
invariant-read_nodes-loop-node l =
    before (map in_front l.nodes) (forest_of l.two (map view (drop l.node-index l.list))) ≡ forest_of l.two (map view l.list)
