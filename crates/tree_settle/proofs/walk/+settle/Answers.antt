use Rattle.std.proofs.Common.{rules, arith, ◌≡◌, ◌+◌, ◌<◌, ◌≤◌, ◌∙◌, ap, refl, sym, subst, length, take, drop}
use Rattle.native_state.specs.Families.{cell_in}
use Rattle.shadow_kinds.specs.Traits.{is_leaf_of}
use Rattle.shadow_node.specs.Forest.{PlainForest, node_count}
use Rattle.shadow_node.specs.Fields.{SettledFields, contents_of}
use Rattle.shadow_node.specs.Falls.{trees_of, forest_at}
use Rattle.shadow_node.proofs.Trees.{forest_at-drop}
use Rattle.tree_settle.specs.Changes.{changes_in}
use Rattle.tree_settle.specs.Limits.{AreFramesInBounds}
use Rattle.tree_settle.specs.Walk.{begun_or, changes_of, settled_in}
use Rattle.tree_settle.proofs.Settled.{FitsLeaf-settled}
use Rattle.tree_settle.proofs.Stays.{tree_stays, none_changes, one_more_changes}
use Rattle.tree_settle.proofs.Lists.{taken_more, take_all, not_begun, is_begun}
use Rattle.tree_settle.proofs.Steps.{HasRoomInside-rest, settled-pushed, settled-end, none_left, fewer_left, nodes_more-more, some_more}
use Rattle.tree_settle.proofs.walk.+settle.Goals as goal

pub settle_node-returns-then-stays-clause-node : goal.settle_node-returns-then-stays-clause-node
settle_node-returns-then-stays-clause-node t c =
    tree_stays c.args.parent (cell_in c.args.families.now) c.args.node.now _ _ _ _ c.state_in-state.ensures c.frame_in-frame.ensures.value (rw c.children.ensures at c.in_ok-children.ensures.changed) c.stays.ensures
    (rw c.children.ensures at c.in_ok-children.ensures.forest) c.if-stays.true

pub settle_node-returns-then-stays-clause-changed : goal.settle_node-returns-then-stays-clause-changed
settle_node-returns-then-stays-clause-changed t c =
    rw (none_changes c.args.parent (cell_in c.args.families.now) c.args.node.now _ _ _ _ c.state_in-state.ensures c.frame_in-frame.ensures.value (rw c.children.ensures at c.in_ok-children.ensures.changed) c.stays.ensures c.if-stays.true) refl

pub settle_node-remade-requires-clause-leaf : goal.settle_node-remade-requires-clause-leaf
settle_node-remade-requires-clause-leaf t c =
    rw (c.in_ok-children-2.ensures, c.children-2.ensures, rw c.children.ensures at c.in_ok-children.ensures.forest)
    (FitsLeaf-settled (is_leaf_of c.args.node.now.fields.fields.kind) c.frame_in-frame.result.size (cell_in c.args.families.now) c.args.node.now.children c.is_sound.ensures.1)

pub settle_node-returns-clause-changed : goal.settle_node-returns-clause-changed
settle_node-returns-clause-changed t c =
    some_more _ _ (one_more_changes c.args.parent (cell_in c.args.families.now) c.args.node.now _ _ _ _ c.state_in-state.ensures c.frame_in-frame.ensures.value (rw c.children.ensures at c.in_ok-children.ensures.changed) c.stays.ensures c.if-stays.false)

pub settle_node-returns-clause-made : goal.settle_node-returns-clause-made
settle_node-returns-clause-made t c =
    c.in_ok-remade.ensures.made
    ∙ nodes_more-more _ _ _ _ _ _ (rw c.children.ensures at c.in_ok-children.ensures.made)
    (one_more_changes c.args.parent (cell_in c.args.families.now) c.args.node.now _ _ _ _ c.state_in-state.ensures c.frame_in-frame.ensures.value (rw c.children.ensures at c.in_ok-children.ensures.changed) c.stays.ensures c.if-stays.false) refl

pub settle_in-loop-at-preserved : goal.settle_in-loop-at-preserved
settle_in-loop-at-preserved t c =
    let lt : c.loop-at.at < length c.nodes-nodes.result.now = c.loop-at-test.true in
    let left = forest_at-drop c.nodes-nodes.result.now c.loop-at.at c.index-nodes-at.result lt c.index-nodes-at.is in
    let count = ap node_count left in
    let changes = ap (changes_in c.args.parent (cell_in c.args.families.now)) left in
    let taken = taken_more c.nodes-nodes.result.now c.loop-at.at c.index-nodes-at.result lt c.index-nodes-at.is in
    let tree = rw c.deref.ensures at c.in_ok-new.ensures.bounds in
    record {
      within = omega (arith, count, c.loop-at.invariant.within);
      room = HasRoomInside-rest c.args.parent (forest_at (drop c.loop-at.at c.nodes-nodes.result.now)) c.index-nodes-at.result.value.children (forest_at (drop (c.loop-at.at + 1) c.nodes-nodes.result.now)) c.index-nodes-at.result.value.fields left c.loop-at.invariant.room;
      settled = settled-pushed c.args.parent (cell_in c.args.families.now) _ _ _ c.index-nodes-at.result.value _ (trees_of (begun_or c.loop-at.all.items (take c.loop-at.at c.nodes-nodes.result.now))) _ left
          (rw c.deref.ensures at c.in_ok-new.ensures.node) (rw taken c.in_ok-push_settled.ensures.nodes) c.loop-at.invariant.settled;
      bounds = λ later. c.loop-at.invariant.bounds (subst (λ (f : PlainForest SettledFields). AreFramesInBounds (settled_in c.args.parent (cell_in c.args.families.now) (contents_of f))) (sym left) (tree.0, tree.1, later));
      least = omega (arith, changes, c.loop-at.invariant.least);
      begun = rw (c.in_ok-push_settled.ensures.begun, c.loop-at.invariant.begun, c.in_ok-new.ensures.changed, c.deref.ensures) (fewer_left _ _ _ _ changes c.loop-at.invariant.least);
      counted = nodes_more-more _ _ _ (changes_of c.args.parent (cell_in c.args.families.now) c.index-nodes-at.result.value) _ _ (rw c.deref.ensures at c.in_ok-new.ensures.made) changes c.loop-at.invariant.counted;
    }

pub settle_in-returns-then-is_empty-clause-forest : goal.settle_in-returns-then-is_empty-clause-forest
settle_in-returns-then-is_empty-clause-forest t c =
    let le : length c.nodes-nodes.result.now ≤ c.loop-at.at = c.loop-at-test.false in
    let kept : begun_or c.loop-at.all.items (take c.loop-at.at c.nodes-nodes.result.now) ≡ c.nodes-nodes.result.now =
    not_begun c.loop-at.all.items _ (search rules) ∙ take_all c.nodes-nodes.result.now c.loop-at.at le in
    sym c.nodes-nodes.ensures
    ∙ ap forest_at (sym kept)
    ∙ settled-end c.args.parent (cell_in c.args.families.now) c.nodes-nodes.result.now c.loop-at.at _ _ le c.loop-at.invariant.settled

pub settle_in-returns-then-is_empty-clause-changed : goal.settle_in-returns-then-is_empty-clause-changed
settle_in-returns-then-is_empty-clause-changed t c =
    let le : length c.nodes-nodes.result.now ≤ c.loop-at.at = c.loop-at-test.false in
    none_left c.args.parent (cell_in c.args.families.now) c.nodes-nodes.result.now c.loop-at.at _ _ le (search rules) c.loop-at.invariant.begun

pub settle_in-returns-in_ok-of-clause-forest : goal.settle_in-returns-in_ok-of-clause-forest
settle_in-returns-in_ok-of-clause-forest t c =
    let le : length c.nodes-nodes.result.now ≤ c.loop-at.at = c.loop-at-test.false in
    c.in_ok-of.ensures
    ∙ ap forest_at (sym (is_begun c.loop-at.all.items (take c.loop-at.at c.nodes-nodes.result.now) (search rules)))
    ∙ settled-end c.args.parent (cell_in c.args.families.now) c.nodes-nodes.result.now c.loop-at.at _ _ le c.loop-at.invariant.settled
