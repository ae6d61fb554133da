use Rattle.std.proofs.Common.{◌≡◌, [], take, drop, map}
use Rattle.serde_json.specs.Data.{depth}
use Rattle.serde_json.specs.View.{view}
use Rattle.script_read.specs.Places.{first_after, in_node}
use Rattle.script_read.specs.Checks.{refusals_of}
use Rattle.script_read.proofs.walk.+nodes.Given as goal

abbrev pub decreases-in_node : goal.decreases-in_node
decreases-in_node l = depth (view l.node.now)

abbrev pub decreases-in_nodes : goal.decreases-in_nodes
decreases-in_nodes l = depth (view l.tree.now)

abbrev pub invariant-in_nodes-loop-index : goal.invariant-in_nodes-loop-index
invariant-in_nodes-loop-index l =
    first_after (λ before node. in_node (refusals_of l.check (view l.script)).of_node node) (map view (take l.index l.nodes)) (map view (drop l.index l.nodes))
    ≡ first_after (λ before node. in_node (refusals_of l.check (view l.script)).of_node node) [] (map view l.nodes)
