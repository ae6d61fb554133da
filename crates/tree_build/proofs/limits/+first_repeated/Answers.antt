use Rattle.std.proofs.Common.{rules, arith, ◌≡◌, ◌<◌, ◌+◌, true, length, ap, ◌∙◌}
use Rattle.std.specs.BTreeSet.{btree_set_len}
use Rattle.shadow_node.specs.Forest.{node_count}
use Rattle.shadow_node.proofs.Trees.{forest_at-drop}
use Rattle.tree_build.proofs.Repeats.{left_repeats, left_goes_on}
use Rattle.tree_build.proofs.limits.+first_repeated.Goals as goal

pub returns-then-not-branch-clause-repeated : goal.returns-then-not-branch-clause-repeated
returns-then-not-branch-clause-repeated t c = λ rest.
    let lt : c.loop-node.node-index < length c.nodes-node-items.result.now = search rules in
    let step = left_repeats c.nodes-node-items.result.now c.loop-node.node-index c.node-item.result c.loop-node.seen.keys rest c.in_ok-insert.field-0 lt c.node-item.is (search rules) (search rules) in
    c.loop-node.invariant.left rest ∙ step ∙ (search rules)

pub returns-in-Some-clause-repeated : goal.returns-in-Some-clause-repeated
returns-in-Some-clause-repeated t c = λ rest.
    let lt : c.loop-node.node-index < length c.nodes-node-items.result.now = search rules in
    let step = left_goes_on c.nodes-node-items.result.now c.loop-node.node-index c.node-item.result c.loop-node.seen.keys c.insert.new.self.keys c.first_repeated.new.seen.keys rest c.in_ok-insert.field-0 c.children.result.now c.in_ok-tag.field-0 lt c.node-item.is (search rules) (search rules) (search rules) (search rules) c.in_ok-tag.ensures.repeated in
    c.loop-node.invariant.left rest ∙ rw c.in-Some.is at step

pub loop-node-preserved : goal.loop-node-preserved
loop-node-preserved t c =
    let lt : c.loop-node.node-index < length c.nodes-node-items.result.now = search rules in
    let left = ap node_count (forest_at-drop c.nodes-node-items.result.now c.loop-node.node-index c.node-item.result lt c.node-item.is) in
    record {
      whole = search rules;
      left = λ rest.
          let step = left_goes_on c.nodes-node-items.result.now c.loop-node.node-index c.node-item.result c.loop-node.seen.keys c.insert.new.self.keys c.first_repeated.new.seen.keys rest c.in_ok-insert.field-0 c.children.result.now c.in_ok-tag.field-0 lt c.node-item.is (search rules) (search rules) (search rules) (search rules) c.in_ok-tag.ensures.repeated in
          c.loop-node.invariant.left rest ∙ rw c.in_default.is at step;
      counted =
          let added : c.in_ok-insert.field-0 ≡ true = search rules in
          let one : btree_set_len c.insert.new.self ≡ btree_set_len c.loop-node.seen + 1 = rw added at c.in_ok-insert.ensures.len in
          let same : node_count c.children.result.now ≡ node_count c.node-item.result.value.children = ap node_count (search rules) in
          omega (arith, left, one, same, c.in_ok-tag.ensures.counted c.in_default.is, c.loop-node.invariant.counted);
      within = omega (arith, left, c.loop-node.invariant.within);
    }
