use Rattle.std.proofs.Common.{arith}
use Rattle.std.proofs.lemmas.Grind.{common_steps}
use Rattle.shadow_node.specs.Fields.{contents_of}
use Rattle.shadow_node.specs.Limits.{IsForestWithin}
use Rattle.shadow_node.proofs.Depths.{children_lt_left}
use Rattle.shadow_node.proofs.Trees.{forest_at-drop}
use Rattle.clone_path.specs.Changed.{forest_edited_at}
use Rattle.clone_path.proofs.Along.{led_below, led_here, led_past, way_not_empty}
use Rattle.clone_path.proofs.OneNode.{changed_here, changed_below, changed_past}
use Rattle.clone_path.proofs.Trees.{differ_at, with_tree, tree_passed}
use Rattle.clone_path.proofs.Limits.{changed_within, fits_leaf, if_ok_is}
use Rattle.clone_path.proofs.+replace_along.Goals as goal

pub returns-in_default-clause-forest : goal.returns-in_default-clause-forest
returns-in_default-clause-forest t c = grind (arith, common_steps, way_not_empty)

pub returns-then-tag-clause-forest : goal.returns-then-tag-clause-forest
returns-then-tag-clause-forest t c = grind (arith, common_steps, forest_at-drop, with_tree, changed_here)

pub returns-then-tag-clause-within : goal.returns-then-tag-clause-within
returns-then-tag-clause-within t c =
    if_ok_is (λ changed. IsForestWithin (contents_of c.args.forest.now) → IsForestWithin (contents_of changed)) c.forest_with.result (forest_edited_at c.args.tag c.args.change.now c.args.forest.now) (returns-then-tag-clause-forest t c) (changed_within c.args.tag c.args.change.now c.args.forest.now)

pub replace_along-requires : goal.replace_along-requires
replace_along-requires t c = (grind (arith, common_steps, children_lt_left), (grind (arith, common_steps, differ_at), (grind (arith, common_steps, forest_at-drop, led_below), c.requires.change)))

pub returns-then-tag-first-clause-forest : goal.returns-then-tag-first-clause-forest
returns-then-tag-first-clause-forest t c = grind (arith, common_steps, forest_at-drop, with_tree, changed_below, led_below)

pub returns-then-tag-first-clause-within : goal.returns-then-tag-first-clause-within
returns-then-tag-first-clause-within t c =
    if_ok_is (λ changed. IsForestWithin (contents_of c.args.forest.now) → IsForestWithin (contents_of changed)) c.forest_with-then-tag-first.result (forest_edited_at c.args.tag c.args.change.now c.args.forest.now) (returns-then-tag-first-clause-forest t c) (changed_within c.args.tag c.args.change.now c.args.forest.now)

pub loop-at-preserved : goal.loop-at-preserved
loop-at-preserved t c = record {
  left = grind (arith, common_steps, forest_at-drop, tree_passed, changed_past, led_past);
  apart = grind (arith, common_steps, differ_at);
  way = grind (arith, common_steps, forest_at-drop, led_past);
  within = grind (arith, common_steps, forest_at-drop);
  made = c.loop-at.invariant.made;
}
