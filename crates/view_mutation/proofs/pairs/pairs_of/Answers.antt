use Rattle.std.proofs.Common.{leb, ltb, rules}
use Rattle.std.proofs.lemmas.List.Sorted.{IsPartitionPoint-from_clause, IsPartitionedBy-leb, IsPartitionedBy-ltb}
use Rattle.view_flatten.proofs.Ranges.{start_le_end, those_between}
use Rattle.view_mutation.proofs.pairs.pairs_of.Goals as goal

pub slice_bounds-result-count : goal.slice_bounds-result-count
slice_bounds-result-count g c =
    let first = IsPartitionPoint-from_clause (λ e. ltb e.0 c.args.number) _ _ c.partition_point-start.ensures.partitioned (IsPartitionedBy-ltb (λ e. e.0) _ c.args.number c.requires) (λ a r q k. search rules) in
    let last = IsPartitionPoint-from_clause (λ e. leb e.0 c.args.number) _ _ c.partition_point-end.ensures.partitioned (IsPartitionedBy-leb (λ e. e.0) _ c.args.number c.requires) (λ a r q k. search rules) in
    start_le_end (λ e. e.0) c.args.number c.args.pairs.now _ _ c.partition_point-start.ensures.bound first last

pub slice_bounds-result-start : goal.slice_bounds-result-start
slice_bounds-result-start g c = slice_bounds-result-count g c

pub returns : goal.returns
returns g c =
    let first = IsPartitionPoint-from_clause (λ e. ltb e.0 c.args.number) _ _ c.partition_point-start.ensures.partitioned (IsPartitionedBy-ltb (λ e. e.0) _ c.args.number c.requires) (λ a r q k. search rules) in
    let last = IsPartitionPoint-from_clause (λ e. leb e.0 c.args.number) _ _ c.partition_point-end.ensures.partitioned (IsPartitionedBy-leb (λ e. e.0) _ c.args.number c.requires) (λ a r q k. search rules) in
    let ordered = start_le_end (λ e. e.0) c.args.number c.args.pairs.now _ _ c.partition_point-start.ensures.bound first last in
    those_between (λ e. e.0) c.args.number c.args.pairs.now _ _ ordered first last
