use Rattle.std.proofs.Common.{◌≡◌, length, drop}
use Rattle.shadow_node.specs.Falls.{forest_at}
use Rattle.tree_revision.specs.Unchanged.{top_tags}
use Rattle.tree_revision.proofs.stamping.have_same_tags.Given as goal

abbrev pub invariant-loop-at : goal.invariant-loop-at
invariant-loop-at l = record {
  long : length l.olds ≡ length l.news;
  rest : top_tags (forest_at (drop l.at l.olds)) ≡ top_tags (forest_at (drop l.at l.news)) → top_tags (forest_at l.olds) ≡ top_tags (forest_at l.news);
  back : top_tags (forest_at l.olds) ≡ top_tags (forest_at l.news) → top_tags (forest_at (drop l.at l.olds)) ≡ top_tags (forest_at (drop l.at l.news));
}
