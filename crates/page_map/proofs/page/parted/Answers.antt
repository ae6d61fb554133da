use Rattle.std.proofs.Common.{rules}
use Rattle.std.proofs.lemmas.List.Sorted.{IsPartitionPoint-from_clause, IsPartitionedBy-leb}
use Rattle.page_map.specs.Pages.{first_tag}
use Rattle.page_map.proofs.Joined.{starts_by, pages_in_order, parted_last, parted_first}
use Rattle.page_map.proofs.page.parted.Goals as goal

pub returns-in-Some : goal.returns-in-Some
returns-in-Some g c =
    let pages = c.args.pages.now in
    let i = c.partition_point.result in
    let split = IsPartitionPoint-from_clause (starts_by c.args.tag) pages i c.partition_point.ensures.partitioned (IsPartitionedBy-leb (λ page. first_tag page.value) pages c.args.tag (pages_in_order pages c.requires.pages c.requires.rises)) (λ a r f called. search rules) in
    rw (c.entries.ensures.entries, c.deref.ensures) (parted_last c.args.tag pages i _ _ c.requires.pages c.requires.rises split c.split_at.ensures.front c.split_at.ensures.back c.in-Some.below.now c.in-Some.page.now c.in-Some.ensures.cases.0)

pub returns-in-Some-split_first : goal.returns-in-Some-split_first
returns-in-Some-split_first g c =
    let pages = c.args.pages.now in
    let i = c.partition_point.result in
    let split = IsPartitionPoint-from_clause (starts_by c.args.tag) pages i c.partition_point.ensures.partitioned (IsPartitionedBy-leb (λ page. first_tag page.value) pages c.args.tag (pages_in_order pages c.requires.pages c.requires.rises)) (λ a r f called. search rules) in
    rw (c.entries-in-Some-split_first.ensures.entries, c.deref-in-Some-split_first.ensures) (parted_first c.args.tag pages i _ _ c.requires.pages c.requires.rises split c.split_at.ensures.front c.split_at.ensures.back c.in-Some-split_first.page.now c.in-Some-split_first.above.now c.in-None.ensures.cases c.in-Some-split_first.ensures.cases.0)
