use Rattle.std.proofs.Common.{ltb, rules}
use Rattle.std.proofs.lemmas.List.Sorted.{IsPartitionPoint-from_clause, IsPartitionedBy-ltb}
use Rattle.page_map.proofs.Rising.{place_below, place_rest}
use Rattle.view_mutation.proofs.pairs.start_of.Goals as goal

pub returns-clause-below : goal.returns-clause-below
returns-clause-below g c =
    let parted = IsPartitionPoint-from_clause (λ e. ltb e.0 c.args.number) c.args.pairs.now c.partition_point.result c.partition_point.ensures.partitioned (IsPartitionedBy-ltb (λ e. e.0) c.args.pairs.now c.args.number c.requires) (λ a r f called. search rules) in
    place_below c.args.number c.args.pairs.now c.partition_point.result parted.0

pub returns-clause-rest : goal.returns-clause-rest
returns-clause-rest g c =
    let parted = IsPartitionPoint-from_clause (λ e. ltb e.0 c.args.number) c.args.pairs.now c.partition_point.result c.partition_point.ensures.partitioned (IsPartitionedBy-ltb (λ e. e.0) c.args.pairs.now c.args.number c.requires) (λ a r f called. search rules) in
    place_rest c.args.number c.args.pairs.now c.partition_point.result parted.1
