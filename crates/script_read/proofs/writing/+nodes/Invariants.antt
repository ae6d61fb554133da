use Rattle.std.proofs.Common.{◌≡◌, map, drop}
use Rattle.serde_json.specs.View.{view}
use Rattle.tree_build.specs.Script.{script_forest}
use Rattle.script_read.specs.Writing.{nodes_json}
use Rattle.script_read.specs.Fits.{AreLabelsText}
use Rattle.script_read.proofs.ValueLists.{items_then}
use Rattle.script_read.proofs.writing.+nodes.Given as goal

abbrev pub invariant-node_values-loop-node : goal.invariant-node_values-loop-node
invariant-node_values-loop-node l = record {
  json : items_then (map view l.values.items) (nodes_json (script_forest (drop l.node-index l.nodes))) ≡ nodes_json (script_forest l.nodes);
  fits : AreLabelsText (script_forest (drop l.node-index l.nodes)) → AreLabelsText (script_forest l.nodes);
}
