use Rattle.std.proofs.Common.{rules, arith}
use Rattle.std.proofs.lemmas.List.Sorted.{IsPartitionPoint-from_clause, IsPartitionedBy-leb}
use Rattle.page_map.specs.Pages.{first_tag}
use Rattle.page_map.proofs.Joined.{starts_by, pages_in_order}
use Rattle.page_map.proofs.Put.{page_parted}
use Rattle.page_map.proofs.owned.page_place.Goals as goal

pub returns-clause-parted : goal.returns-clause-parted
returns-clause-parted g c =
    let pages = c.args.pages.now in
    let i = c.partition_point.result in
    let split = IsPartitionPoint-from_clause (starts_by c.args.tag) pages i c.partition_point.ensures.partitioned (IsPartitionedBy-leb (λ page. first_tag page.value) pages c.args.tag (pages_in_order pages c.requires.pages c.requires.rises)) (λ a r f called. search rules) in
    page_parted c.args.tag pages i c.saturating_sub.result c.requires.pages c.requires.rises split c.requires.some (omega arith) (omega arith)
