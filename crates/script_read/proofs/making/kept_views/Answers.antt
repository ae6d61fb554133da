use Rattle.std.proofs.Common.{◌+◌, ◌%◌, None, rules}
use Rattle.tree_build.specs.Script.{in_front, kept}
use Rattle.script_read.proofs.Chains.{each_pushed}
use Rattle.script_read.proofs.making.kept_views.Goals as goal

pub loop-i-preserved : goal.loop-i-preserved
loop-i-preserved c =
    each_pushed in_front (λ i. kept (100 + (c.args.first + i) % 200) None) c.loop-i.i c.loop-i.nodes c.push.new.self c.unchanged_node.result (search rules)
    c.unchanged_node.ensures c.loop-i.invariant
