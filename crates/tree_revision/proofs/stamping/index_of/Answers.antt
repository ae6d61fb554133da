use Rattle.std.proofs.Common.{ltb, rules}
use Rattle.std.proofs.lemmas.List.Sorted.{IsPartitionPoint-from_clause, IsPartitionedBy-ltb}
use Rattle.page_map.proofs.Rising.{place_below, place_rest}
use Rattle.tree_revision.proofs.stamping.index_of.Goals as goal

pub returns-clause-below : goal.returns-clause-below
returns-clause-below c =
    let parted = IsPartitionPoint-from_clause (λ e. ltb e.0 c.args.tag) c.args.places.now c.partition_point.result c.partition_point.ensures.partitioned (IsPartitionedBy-ltb (λ e. e.0) c.args.places.now c.args.tag c.requires) (λ a r f called. search rules) in
    place_below c.args.tag c.args.places.now c.partition_point.result parted.0

pub returns-clause-rest : goal.returns-clause-rest
returns-clause-rest c =
    let parted = IsPartitionPoint-from_clause (λ e. ltb e.0 c.args.tag) c.args.places.now c.partition_point.result c.partition_point.ensures.partitioned (IsPartitionedBy-ltb (λ e. e.0) c.args.places.now c.args.tag c.requires) (λ a r f called. search rules) in
    place_rest c.args.tag c.args.places.now c.partition_point.result parted.1
