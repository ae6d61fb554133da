use Rattle.std.proofs.Common.{◌≡◌, ◌++◌, drop}
use Rattle.view_mutation.proofs.Index.{indexed_from}
use Rattle.view_mutation.proofs.tags.index_of.Given as goal

abbrev pub invariant-loop-at : goal.invariant-loop-at
invariant-loop-at l = record { left : l.pairs.items ++ indexed_from l.at (drop l.at l.places) ≡ indexed_from 0 l.places }
