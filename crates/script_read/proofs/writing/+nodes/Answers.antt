use Rattle.std.proofs.Common.{rules}
use Rattle.script_read.specs.Writing.{nodes_json}
use Rattle.script_read.specs.Fits.{AreLabelsText}
use Rattle.tree_build.specs.Script.{script_forest}
use Rattle.script_read.proofs.NodeLists.{node_pushed, all_nodes, labels_after, labels_all}
use Rattle.script_read.proofs.writing.+nodes.Goals as goal

pub node_values-loop-node-preserved : goal.node_values-loop-node-preserved
node_values-loop-node-preserved t c = record {
  json = node_pushed c.args.nodes.now c.loop-node.node-index c.node-item.result c.loop-node.values.items c.push.new.self.items c.in_ok-node_value.field-0
      (nodes_json (script_forest c.args.nodes.now)) c.loop-node-test.true c.node-item.is c.in_ok-node_value.ensures.json (search rules) c.loop-node.invariant.json;
  fits = labels_after c.args.nodes.now c.loop-node.node-index c.node-item.result (AreLabelsText (script_forest c.args.nodes.now)) c.loop-node-test.true c.node-item.is
      c.in_ok-node_value.ensures.fits c.loop-node.invariant.fits;
}

pub node_values-returns : goal.node_values-returns
node_values-returns t c = record {
  json = all_nodes c.args.nodes.now c.loop-node.node-index c.loop-node.values.items (nodes_json (script_forest c.args.nodes.now)) c.loop-node-test.false c.loop-node.invariant.json;
  fits = labels_all c.args.nodes.now c.loop-node.node-index (AreLabelsText (script_forest c.args.nodes.now)) c.loop-node-test.false c.loop-node.invariant.fits;
}
