use Rattle.std.proofs.Common.{◌≡◌}
use Rattle.tree_query.specs.Search.{HasSearched}
use Rattle.tree_query.proofs.Near.{AreLinesWithin}
use Rattle.tree_query.proofs.Searches.{seen_before}
use Rattle.tree_query.proofs.hitting.hit.Given as goal

abbrev pub invariant-loop-placed : goal.invariant-loop-placed
invariant-loop-placed l = record {
  at : l.search.at ≡ l.fn.at;
  searched : HasSearched l.search (seen_before l.views l.placed-index);
  within : AreLinesWithin l.placed-index (seen_before l.views l.placed-index);
}
