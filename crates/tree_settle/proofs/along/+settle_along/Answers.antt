use Rattle.std.proofs.Common.{rules, arith, ◌≡◌, ◌+◌, ◌<◌, ◌≤◌, ◌∙◌, ap, refl, sym, subst, length, take, drop}
use Rattle.std.specs.Prelude.{nat_lt}
use Rattle.native_state.specs.Families.{cell_in}
use Rattle.native_state.specs.Made.{nodes_more}
use Rattle.shadow_kinds.specs.Traits.{is_leaf_of}
use Rattle.shadow_node.specs.Forest.{PlainForest, depth_of, node_count}
use Rattle.shadow_node.specs.Fields.{SettledFields, contents_of}
use Rattle.shadow_node.specs.Falls.{trees_of, forest_at}
use Rattle.shadow_node.proofs.Trees.{forest_at-drop}
use Rattle.tree_settle.specs.Changes.{changes_in}
use Rattle.tree_settle.specs.Limits.{AreFramesInBounds}
use Rattle.tree_settle.specs.Walk.{IsTreeInBounds, begun_or, changes_of, settled_in}
use Rattle.tree_settle.proofs.Settled.{FitsLeaf-settled}
use Rattle.tree_settle.proofs.Stays.{tree_stays, none_changes, one_more_changes}
use Rattle.tree_settle.proofs.Lists.{taken_more, take_all, not_begun, is_begun}
use Rattle.tree_settle.proofs.Steps.{HasRoomInside-rest, settled-pushed, settled-end, none_left, fewer_left, nodes_more-more, some_more}
use Rattle.tree_settle.proofs.WaySteps.{HasRoomInside-first, below_but, state_kept, kept_tree, kept_forest, made_none, made_stay, tree_but, rest_but, tags_pushed, tags_end, tags_none, tags_stay, tags_change}
use Rattle.tree_settle.proofs.Unchanged.{no_tags-none_changes, no_tags-none_of, none_changes-settled, none_changes-settled_tree}
use Rattle.tree_settle.proofs.along.+settle_along.Goals as goal

pub settle_along_node-state_along-state-requires : goal.settle_along_node-state_along-state-requires
settle_along_node-state_along-state-requires t c =
    λ off. state_kept c.args.size.before (cell_in c.args.families.now) c.args.way.now c.args.node.now c.requires.but (sym c.way_under-is_on_way.ensures.leads ∙ off)

pub settle_along_node-settle_along_in-requires : goal.settle_along_node-settle_along_in-requires
settle_along_node-settle_along_in-requires t c =
    let count = ap node_count c.children.ensures in
    let room = c.frame_in-frame.ensures.room (depth_of c.args.node.now.children) c.requires.room in
    let but = below_but c.args.size.before (cell_in c.args.families.now) c.args.way.now c.args.node.now c.requires.but in
    (omega (arith, count), (rw c.children.ensures room, (rw c.children.ensures c.requires.frames.1, rw (c.children.ensures, c.frame.ensures, c.way_under-is_on_way.ensures.below) but)))

pub settle_along_node-returns-then-stays-clause-node : goal.settle_along_node-returns-then-stays-clause-node
settle_along_node-returns-then-stays-clause-node t c =
    tree_stays c.args.size.after (cell_in c.args.families.now) c.args.node.now _ _ _ _ c.state_along-state.ensures c.frame_in-frame.ensures.value (rw c.children.ensures at c.in_ok-children.ensures.changed) c.stays.ensures (rw c.children.ensures at c.in_ok-children.ensures.forest) c.if-stays.true

pub settle_along_node-returns-then-stays-clause-changed : goal.settle_along_node-returns-then-stays-clause-changed
settle_along_node-returns-then-stays-clause-changed t c =
    rw (none_changes c.args.size.after (cell_in c.args.families.now) c.args.node.now _ _ _ _ c.state_along-state.ensures c.frame_in-frame.ensures.value (rw c.children.ensures at c.in_ok-children.ensures.changed) c.stays.ensures c.if-stays.true) refl

pub settle_along_node-returns-then-stays-clause-made : goal.settle_along_node-returns-then-stays-clause-made
settle_along_node-returns-then-stays-clause-made t c =
    made_stay c.args.size.after (cell_in c.args.families.now) c.args.node.now c.frame_in-frame.result c.frame_in-frame.ensures.value _ _ (none_changes c.args.size.after (cell_in c.args.families.now) c.args.node.now _ _ _ _ c.state_along-state.ensures c.frame_in-frame.ensures.value (rw c.children.ensures at c.in_ok-children.ensures.changed) c.stays.ensures c.if-stays.true) (rw c.children.ensures at c.in_ok-children.ensures.made)

pub settle_along_node-returns-then-stays-clause-tags : goal.settle_along_node-returns-then-stays-clause-tags
settle_along_node-returns-then-stays-clause-tags t c =
    tags_stay c.args.size.after (cell_in c.args.families.now) c.args.node.now c.frame_in-frame.result c.frame_in-frame.ensures.value _ _ (none_changes c.args.size.after (cell_in c.args.families.now) c.args.node.now _ _ _ _ c.state_along-state.ensures c.frame_in-frame.ensures.value (rw c.children.ensures at c.in_ok-children.ensures.changed) c.stays.ensures c.if-stays.true) (rw c.children.ensures at c.in_ok-children.ensures.tags)

pub settle_along_node-remade-requires-clause-leaf : goal.settle_along_node-remade-requires-clause-leaf
settle_along_node-remade-requires-clause-leaf t c =
    rw (c.in_ok-children-2.ensures, c.children-2.ensures, rw c.children.ensures at c.in_ok-children.ensures.forest)
    (FitsLeaf-settled (is_leaf_of c.args.node.now.fields.fields.kind) c.frame_in-frame.result.size (cell_in c.args.families.now) c.args.node.now.children c.is_sound.ensures.1)

pub settle_along_node-returns-clause-changed : goal.settle_along_node-returns-clause-changed
settle_along_node-returns-clause-changed t c =
    some_more _ _ (one_more_changes c.args.size.after (cell_in c.args.families.now) c.args.node.now _ _ _ _ c.state_along-state.ensures c.frame_in-frame.ensures.value (rw c.children.ensures at c.in_ok-children.ensures.changed) c.stays.ensures c.if-stays.false)

pub settle_along_node-returns-clause-made : goal.settle_along_node-returns-clause-made
settle_along_node-returns-clause-made t c =
    c.in_ok-remade.ensures.made
    ∙ nodes_more-more _ _ _ _ _ _ (rw c.children.ensures at c.in_ok-children.ensures.made) (one_more_changes c.args.size.after (cell_in c.args.families.now) c.args.node.now _ _ _ _ c.state_along-state.ensures c.frame_in-frame.ensures.value (rw c.children.ensures at c.in_ok-children.ensures.changed) c.stays.ensures c.if-stays.false) refl

pub settle_along_node-returns-clause-tags : goal.settle_along_node-returns-clause-tags
settle_along_node-returns-clause-tags t c =
    tags_change c.args.size.after (cell_in c.args.families.now) c.args.node.now c.frame_in-frame.result c.frame_in-frame.ensures.value _ _ _ (one_more_changes c.args.size.after (cell_in c.args.families.now) c.args.node.now _ _ _ _ c.state_along-state.ensures c.frame_in-frame.ensures.value (rw c.children.ensures at c.in_ok-children.ensures.changed) c.stays.ensures c.if-stays.false) (rw c.children.ensures at c.in_ok-children.ensures.tags) (search rules)

pub settle_along_in-returns-then-is_kept-clause-forest : goal.settle_along_in-returns-then-is_kept-clause-forest
settle_along_in-returns-then-is_kept-clause-forest t c =
    kept_forest c.args.size.before c.args.size.after (cell_in c.args.families.now) c.args.way.now c.args.forest.now c.requires.but (search rules) (c.is_kept.ensures.0 c.if-is_kept.true)

pub settle_along_in-returns-then-is_kept-clause-changed : goal.settle_along_in-returns-then-is_kept-clause-changed
settle_along_in-returns-then-is_kept-clause-changed t c =
    rw (none_changes-settled c.args.size.after (cell_in c.args.families.now) c.args.forest.now (kept_forest c.args.size.before c.args.size.after (cell_in c.args.families.now) c.args.way.now c.args.forest.now c.requires.but (search rules) (c.is_kept.ensures.0 c.if-is_kept.true))) refl

pub settle_along_in-returns-then-is_kept-clause-bounds : goal.settle_along_in-returns-then-is_kept-clause-bounds
settle_along_in-returns-then-is_kept-clause-bounds t c =
    subst AreFramesInBounds (kept_forest c.args.size.before c.args.size.after (cell_in c.args.families.now) c.args.way.now c.args.forest.now c.requires.but (search rules) (c.is_kept.ensures.0 c.if-is_kept.true)) c.requires.frames

pub settle_along_in-returns-then-is_kept-clause-made : goal.settle_along_in-returns-then-is_kept-clause-made
settle_along_in-returns-then-is_kept-clause-made t c =
    made_none _ _ (none_changes-settled c.args.size.after (cell_in c.args.families.now) c.args.forest.now (kept_forest c.args.size.before c.args.size.after (cell_in c.args.families.now) c.args.way.now c.args.forest.now c.requires.but (search rules) (c.is_kept.ensures.0 c.if-is_kept.true)))

pub settle_along_in-returns-then-is_kept-clause-tags : goal.settle_along_in-returns-then-is_kept-clause-tags
settle_along_in-returns-then-is_kept-clause-tags t c =
    tags_none _ _ (no_tags-none_changes c.args.size.after (cell_in c.args.families.now) c.args.forest.now (none_changes-settled c.args.size.after (cell_in c.args.families.now) c.args.forest.now (kept_forest c.args.size.before c.args.size.after (cell_in c.args.families.now) c.args.way.now c.args.forest.now c.requires.but (search rules) (c.is_kept.ensures.0 c.if-is_kept.true))))

pub settle_along_in-settle_along_node-requires : goal.settle_along_in-settle_along_node-requires
settle_along_in-settle_along_node-requires t c =
    let lt : c.loop-at.at < length c.nodes-nodes.result.now = c.loop-at-test.true in
    let left = forest_at-drop c.nodes-nodes.result.now c.loop-at.at c.index-nodes-at.result lt c.index-nodes-at.is in
    let counts = ap node_count left in
    let count = ap (λ tree. node_count tree.children) c.deref-in-loop-at.ensures in
    let frames = subst AreFramesInBounds left c.loop-at.invariant.frames in (
      omega (arith, count, counts, c.loop-at.invariant.within),
      (
        rw c.deref-in-loop-at.ensures (HasRoomInside-first c.args.size.after _ _ c.index-nodes-at.result.value left c.loop-at.invariant.room),
        (rw c.deref-in-loop-at.ensures (frames.0, frames.1), rw c.deref-in-loop-at.ensures (tree_but c.args.size.before (cell_in c.args.families.now) c.args.way.now _ _ c.index-nodes-at.result.value left c.loop-at.invariant.but)),
      ),
    )

pub settle_along_in-loop-at-preserved-then-is_passed : goal.settle_along_in-loop-at-preserved-then-is_passed
settle_along_in-loop-at-preserved-then-is_passed t c =
    let lt : c.loop-at.at < length c.nodes-nodes.result.now = c.loop-at-test.true in
    let left = forest_at-drop c.nodes-nodes.result.now c.loop-at.at c.index-nodes-at.result lt c.index-nodes-at.is in
    let count = ap node_count left in
    let changes = ap (changes_in c.args.size.after (cell_in c.args.families.now)) left in
    let taken = taken_more c.nodes-nodes.result.now c.loop-at.at c.index-nodes-at.result lt c.index-nodes-at.is in
    let passed = rw c.deref.ensures at c.is_passed.ensures.0 c.if-is_passed.true in
    let but = tree_but c.args.size.before (cell_in c.args.families.now) c.args.way.now _ _ c.index-nodes-at.result.value left c.loop-at.invariant.but in
    let frames = subst AreFramesInBounds left c.loop-at.invariant.frames in
    let same = kept_tree c.args.size.before c.args.size.after (cell_in c.args.families.now) c.args.way.now c.index-nodes-at.result.value but passed.1 passed.0 in
    let none = none_changes-settled_tree c.args.size.after (cell_in c.args.families.now) c.index-nodes-at.result.value same in
    let tree = subst IsTreeInBounds same (frames.0, frames.1) in
    let rest : changes_in c.args.size.after (cell_in c.args.families.now) (forest_at (drop c.loop-at.at c.nodes-nodes.result.now)) ≡ changes_in c.args.size.after (cell_in c.args.families.now) (forest_at (drop (c.loop-at.at + 1) c.nodes-nodes.result.now)) =
    omega (arith, changes, none) in
    record {
      within = omega (arith, count, c.loop-at.invariant.within);
      room = HasRoomInside-rest c.args.size.after (forest_at (drop c.loop-at.at c.nodes-nodes.result.now)) c.index-nodes-at.result.value.children (forest_at (drop (c.loop-at.at + 1) c.nodes-nodes.result.now)) c.index-nodes-at.result.value.fields left c.loop-at.invariant.room;
      frames = frames.2;
      but = rest_but c.args.size.before (cell_in c.args.families.now) c.args.way.now _ _ c.index-nodes-at.result.value left c.loop-at.invariant.but;
      settled = settled-pushed c.args.size.after (cell_in c.args.families.now) _ _ _ c.index-nodes-at.result.value _ (trees_of (begun_or c.loop-at.all.items (take c.loop-at.at c.nodes-nodes.result.now))) _ left
          same (rw taken (c.in_ok-push_kept.ensures.nodes (take c.loop-at.at c.nodes-nodes.result.now))) c.loop-at.invariant.settled;
      bounds = λ later. c.loop-at.invariant.bounds (subst (λ (f : PlainForest SettledFields). AreFramesInBounds (settled_in c.args.size.after (cell_in c.args.families.now) (contents_of f))) (sym left) (tree.0, tree.1, later));
      least = omega (arith, rest, c.loop-at.invariant.least);
      begun = c.in_ok-push_kept.ensures.begun ∙ c.loop-at.invariant.begun ∙ ap (λ left. nat_lt left (changes_in c.args.size.after (cell_in c.args.families.now) c.args.forest.now)) rest;
      counted = ap (nodes_more c.loop-at.made) (sym rest) ∙ c.loop-at.invariant.counted;
      tags = tags_pushed c.args.size.after (cell_in c.args.families.now) _ _ c.index-nodes-at.result.value _ _ _ left (tags_none _ _ (no_tags-none_of c.args.size.after (cell_in c.args.families.now) c.index-nodes-at.result.value none)) c.loop-at.invariant.tags;
    }

pub settle_along_in-loop-at-preserved : goal.settle_along_in-loop-at-preserved
settle_along_in-loop-at-preserved t c =
    let lt : c.loop-at.at < length c.nodes-nodes.result.now = c.loop-at-test.true in
    let left = forest_at-drop c.nodes-nodes.result.now c.loop-at.at c.index-nodes-at.result lt c.index-nodes-at.is in
    let count = ap node_count left in
    let changes = ap (changes_in c.args.size.after (cell_in c.args.families.now)) left in
    let taken = taken_more c.nodes-nodes.result.now c.loop-at.at c.index-nodes-at.result lt c.index-nodes-at.is in
    let tree = rw c.deref-in-loop-at.ensures at c.in_ok-new.ensures.bounds in
    record {
      within = omega (arith, count, c.loop-at.invariant.within);
      room = HasRoomInside-rest c.args.size.after (forest_at (drop c.loop-at.at c.nodes-nodes.result.now)) c.index-nodes-at.result.value.children (forest_at (drop (c.loop-at.at + 1) c.nodes-nodes.result.now)) c.index-nodes-at.result.value.fields left c.loop-at.invariant.room;
      frames = (subst AreFramesInBounds left c.loop-at.invariant.frames).2;
      but = rest_but c.args.size.before (cell_in c.args.families.now) c.args.way.now _ _ c.index-nodes-at.result.value left c.loop-at.invariant.but;
      settled = settled-pushed c.args.size.after (cell_in c.args.families.now) _ _ _ c.index-nodes-at.result.value _ (trees_of (begun_or c.loop-at.all.items (take c.loop-at.at c.nodes-nodes.result.now))) _ left
          (rw c.deref-in-loop-at.ensures at c.in_ok-new.ensures.node) (rw taken c.in_ok-push_settled.ensures.nodes) c.loop-at.invariant.settled;
      bounds = λ later. c.loop-at.invariant.bounds (subst (λ (f : PlainForest SettledFields). AreFramesInBounds (settled_in c.args.size.after (cell_in c.args.families.now) (contents_of f))) (sym left) (tree.0, tree.1, later));
      least = omega (arith, changes, c.loop-at.invariant.least);
      begun = rw (c.in_ok-push_settled.ensures.begun, c.loop-at.invariant.begun, c.in_ok-new.ensures.changed, c.deref-in-loop-at.ensures) (fewer_left _ _ _ _ changes c.loop-at.invariant.least);
      counted = nodes_more-more _ _ _ (changes_of c.args.size.after (cell_in c.args.families.now) c.index-nodes-at.result.value) _ _ (rw c.deref-in-loop-at.ensures at c.in_ok-new.ensures.made) changes c.loop-at.invariant.counted;
      tags = tags_pushed c.args.size.after (cell_in c.args.families.now) _ _ c.index-nodes-at.result.value _ _ _ left (rw c.deref-in-loop-at.ensures at c.in_ok-new.ensures.tags) c.loop-at.invariant.tags;
    }

pub settle_along_in-returns-then-is_empty-2-clause-forest : goal.settle_along_in-returns-then-is_empty-2-clause-forest
settle_along_in-returns-then-is_empty-2-clause-forest t c =
    let le : length c.nodes-nodes.result.now ≤ c.loop-at.at = c.loop-at-test.false in
    let kept : begun_or c.loop-at.all.items (take c.loop-at.at c.nodes-nodes.result.now) ≡ c.nodes-nodes.result.now =
    not_begun c.loop-at.all.items _ (search rules) ∙ take_all c.nodes-nodes.result.now c.loop-at.at le in
    sym c.nodes-nodes.ensures
    ∙ ap forest_at (sym kept)
    ∙ settled-end c.args.size.after (cell_in c.args.families.now) c.nodes-nodes.result.now c.loop-at.at _ _ le c.loop-at.invariant.settled

pub settle_along_in-returns-then-is_empty-2-clause-changed : goal.settle_along_in-returns-then-is_empty-2-clause-changed
settle_along_in-returns-then-is_empty-2-clause-changed t c =
    let le : length c.nodes-nodes.result.now ≤ c.loop-at.at = c.loop-at-test.false in
    none_left c.args.size.after (cell_in c.args.families.now) c.nodes-nodes.result.now c.loop-at.at _ _ le (search rules) c.loop-at.invariant.begun

pub settle_along_in-returns-then-is_empty-2-clause-tags : goal.settle_along_in-returns-then-is_empty-2-clause-tags
settle_along_in-returns-then-is_empty-2-clause-tags t c =
    let le : length c.nodes-nodes.result.now ≤ c.loop-at.at = c.loop-at-test.false in
    tags_end c.args.size.after (cell_in c.args.families.now) c.nodes-nodes.result.now c.loop-at.at _ _ le c.loop-at.invariant.tags

pub settle_along_in-returns-in_ok-of-clause-forest : goal.settle_along_in-returns-in_ok-of-clause-forest
settle_along_in-returns-in_ok-of-clause-forest t c =
    let le : length c.nodes-nodes.result.now ≤ c.loop-at.at = c.loop-at-test.false in
    c.in_ok-of.ensures
    ∙ ap forest_at (sym (is_begun c.loop-at.all.items (take c.loop-at.at c.nodes-nodes.result.now) (search rules)))
    ∙ settled-end c.args.size.after (cell_in c.args.families.now) c.nodes-nodes.result.now c.loop-at.at _ _ le c.loop-at.invariant.settled

pub settle_along_in-returns-in_ok-of-clause-tags : goal.settle_along_in-returns-in_ok-of-clause-tags
settle_along_in-returns-in_ok-of-clause-tags t c =
    let le : length c.nodes-nodes.result.now ≤ c.loop-at.at = c.loop-at-test.false in
    tags_end c.args.size.after (cell_in c.args.families.now) c.nodes-nodes.result.now c.loop-at.at _ _ le c.loop-at.invariant.tags
