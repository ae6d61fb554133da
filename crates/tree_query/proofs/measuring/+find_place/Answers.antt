use Rattle.std.proofs.Common.{◌≡◌, ap, ◌∙◌, arith}
use Rattle.shadow_node.specs.Forest.{PlainNode}
use Rattle.shadow_node.specs.Fields.{SettledFields}
use Rattle.shadow_node.proofs.Depths.{children_lt_left}
use Rattle.tree_query.specs.Found.{begin_inside}
use Rattle.tree_query.proofs.Rooms.{frames_left, levels_left, room_in_left, room_left}
use Rattle.tree_query.proofs.measuring.+find_place.Goals as goal

pub returns-then-tag-clause-room : goal.returns-then-tag-clause-room
returns-then-tag-clause-room t c =
    room_left c.nodes-node-items.result.now c.loop-node.node-index c.node-item.result c.loop-node-test.true c.node-item.is c.args.begin c.loop-node.invariant.room

pub begin_inside-inside-requires-clause-room : goal.begin_inside-inside-requires-clause-room
begin_inside-inside-requires-clause-room t c =
    room_left c.nodes-node-items.result.now c.loop-node.node-index c.node-item.result c.loop-node-test.true c.node-item.is c.args.begin c.loop-node.invariant.room

pub find_place-requires : goal.find_place-requires
find_place-requires t c =
    let nodes = c.nodes-node-items.result.now in
    let i = c.loop-node.node-index in
    let d = c.node-item.result in
    let kept = c.loop-node.invariant in
    let children : c.children-children.result.now ≡ d.value.children =
    c.children-children.ensures ∙ ap (λ (tree : PlainNode SettledFields). tree.children) c.deref-in-loop-node.ensures in
    let inside : c.begin_inside-inside.result ≡ begin_inside c.args.against c.args.begin d.value.fields =
    c.begin_inside-inside.ensures ∙ ap (λ (tree : PlainNode SettledFields). begin_inside c.args.against c.args.begin tree.fields) c.deref-in-loop-node-2.ensures in
    let fewer = children_lt_left nodes i d c.loop-node-test.true c.node-item.is in (
      rw children (omega (arith, fewer, kept.within)),
      (
        rw children (frames_left nodes i d c.loop-node-test.true c.node-item.is kept.frames).1,
        (
          rw children (levels_left nodes i d c.loop-node-test.true c.node-item.is 48 kept.levels),
          rw (children, inside) (room_in_left nodes i d c.loop-node-test.true c.node-item.is c.args.against c.args.begin kept.levels kept.frames kept.room),
        ),
      ),
    )
