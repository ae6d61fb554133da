use Rattle.std.proofs.Common.{ltb, rules}
use Rattle.std.proofs.lemmas.List.Sorted.{IsPartitionPoint-from_clause, IsPartitionedBy-ltb}
use Rattle.page_map.proofs.Rising.{rising_in_order, place_below, place_rest}
use Rattle.page_map.proofs.page.place_of.Goals as goal

pub returns-clause-below : goal.returns-clause-below
returns-clause-below g c =
    let parted = IsPartitionPoint-from_clause (λ e. ltb e.0 c.args.tag) c.args.entries.now c.partition_point.result c.partition_point.ensures.partitioned (IsPartitionedBy-ltb (λ e. e.0) c.args.entries.now c.args.tag (rising_in_order c.args.entries.now c.requires)) (λ a r f called. search rules) in
    place_below c.args.tag c.args.entries.now c.partition_point.result parted.0

pub returns-clause-rest : goal.returns-clause-rest
returns-clause-rest g c =
    let parted = IsPartitionPoint-from_clause (λ e. ltb e.0 c.args.tag) c.args.entries.now c.partition_point.result c.partition_point.ensures.partitioned (IsPartitionedBy-ltb (λ e. e.0) c.args.entries.now c.args.tag (rising_in_order c.args.entries.now c.requires)) (λ a r f called. search rules) in
    place_rest c.args.tag c.args.entries.now c.partition_point.result parted.1
