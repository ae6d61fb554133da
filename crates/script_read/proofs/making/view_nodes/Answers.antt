use Rattle.std.proofs.Common.{rules}
use Rattle.tree_build.specs.Script.{in_front}
use Rattle.script_read.specs.Making.{view_before}
use Rattle.script_read.proofs.Chains.{each_pushed}
use Rattle.script_read.proofs.making.view_nodes.Goals as goal

pub loop-i-preserved : goal.loop-i-preserved
loop-i-preserved c =
    each_pushed in_front view_before c.loop-i.i c.loop-i.nodes c.push.new.self c.in_ok-view_node.field-0 (search rules) c.in_ok-view_node.ensures c.loop-i.invariant
