use Rattle.std.proofs.Common.{arith}
use Rattle.serde_json.specs.View.{view}
use Rattle.script_read.proofs.Trees.{item_below}
use Rattle.script_read.proofs.walk.+nodes.Goals as goal

pub in_nodes-in_node-requires : goal.in_nodes-in_node-requires
in_nodes-in_node-requires t c = (
  omega (
    arith,
    item_below (view c.args.tree.now) c.items_in-nodes.result.now c.loop-index.index c.index-nodes-index.result c.items_in-nodes.ensures c.loop-index-test.true
        c.index-nodes-index.is,
  ),
  tt,
)
