use Rattle.std.proofs.Common.{arith}
use Rattle.std.proofs.lemmas.Grind.{common_steps}
use Rattle.shadow_node.proofs.Depths.{children_lt_left}
use Rattle.shadow_node.proofs.Trees.{forest_at-drop}
use Rattle.clone_path.proofs.Along.{found_below, found_beyond, led_below, led_past, way_not_empty}
use Rattle.clone_path.proofs.Trees.{differ_at}
use Rattle.clone_path.proofs.+find_along.Goals as goal

pub returns-in_err-first : goal.returns-in_err-first
returns-in_err-first t c = grind (arith, common_steps, way_not_empty)

pub find_along-requires : goal.find_along-requires
find_along-requires t c = (grind (arith, common_steps, children_lt_left), (grind (arith, common_steps, differ_at), grind (arith, common_steps, forest_at-drop, led_below)))

pub returns-then-tag-first : goal.returns-then-tag-first
returns-then-tag-first t c = grind (arith, common_steps, forest_at-drop, found_below, led_below)

pub loop-node-preserved : goal.loop-node-preserved
loop-node-preserved t c = record {
  whole = grind (arith, common_steps);
  apart = grind (arith, common_steps, differ_at);
  way = grind (arith, common_steps, forest_at-drop, led_past);
  found = grind (arith, common_steps, forest_at-drop, found_beyond, led_past);
  within = grind (arith, common_steps, forest_at-drop);
}
