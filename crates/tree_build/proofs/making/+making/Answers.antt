use Rattle.std.proofs.Common.{rules, ◌≡◌, ◌+◌, ◌<◌, ◌≤◌, length, drop, subst, sym, ap, ◌∙◌, IfOk}
use Rattle.native_state.specs.Made.{nodes_more}
use Rattle.shadow_node.specs.Forest.{PlainForest}
use Rattle.shadow_node.specs.Fields.{SettledFields}
use Rattle.shadow_node.specs.Falls.{trees_of}
use Rattle.shadow_node.proofs.Trees.{trees_before, trees_before-pushed}
use Rattle.tree_build.specs.Script.{script_forest}
use Rattle.tree_build.specs.Built.{built, made_for}
use Rattle.tree_build.proofs.Building.{left_parts, script_forest_left, written_fits_leaf, whole_at_end}
use Rattle.tree_build.proofs.making.+making.Goals as goal

pub make_node-make-requires-clause-leaf : goal.make_node-make-requires-clause-leaf
make_node-make-requires-clause-leaf t c =
    written_fits_leaf c.args.held.now c.args.node.now _ _ _ _ _ _ c.in-Written.is c.requires (rw c.as_slice.ensures at c.in_ok-children-in-Written.ensures.forest)

pub make_nodes-loop-node-preserved : goal.make_nodes-loop-node-preserved
make_nodes-loop-node-preserved t c =
    let lt : c.loop-node.node-index < length c.args.nodes.now = search rules in
    let parts = left_parts c.args.held.now c.args.nodes.now c.loop-node.node-index c.node-item.result lt c.node-item.is c.loop-node.invariant.buildable in
    let left = script_forest_left c.args.nodes.now c.loop-node.node-index c.node-item.result lt c.node-item.is in
    let later = script_forest (drop (c.loop-node.node-index + 1) c.args.nodes.now) in
    let first = sym (c.in_ok-make_node.ensures.node later) ∙ ap (built c.args.held.now) (sym left) in
    record {
      buildable = parts.1;
      built = trees_before-pushed c.loop-node.all.items c.push.new.self.items c.in_ok-make_node.field-0 (built c.args.held.now later) _ (search rules)
          (ap (trees_before (trees_of c.loop-node.all.items)) first ∙ c.loop-node.invariant.built);
      counted = sym (c.in_ok-make_node.ensures.made later) ∙ ap (λ f. nodes_more c.loop-node.made (made_for f)) (sym left) ∙ c.loop-node.invariant.counted;
    }

pub make_nodes-returns-clause-forest : goal.make_nodes-returns-clause-forest
make_nodes-returns-clause-forest t c =
    let le : length c.args.nodes.now ≤ c.loop-node.node-index = search rules in
    let whole = whole_at_end c.args.held.now c.args.nodes.now c.loop-node.node-index c.loop-node.all.items _ le c.loop-node.invariant.built in
    subst (λ (w : PlainForest SettledFields). IfOk c.of.result (λ forest. forest ≡ w)) whole c.of.ensures
