use Rattle.std.proofs.Common.{leb, ltb, nat_eq, rules, sym, ap, ◌∙◌}
use Rattle.std.proofs.lemmas.List.Sorted.{IsPartitionPoint-from_clause, IsPartitionedBy-leb, IsPartitionedBy-ltb}
use Rattle.view_flatten.specs.declared.sites.Site.{Site}
use Rattle.view_flatten.specs.Sites.{plain_site, plain_sites}
use Rattle.view_flatten.proofs.ByZ.{filter_map}
use Rattle.view_flatten.proofs.Ranges.{start_le_end, those_between}
use Rattle.view_flatten.proofs.placing.children_of.Goals as goal

pub slice_bounds-result-count : goal.slice_bounds-result-count
slice_bounds-result-count c =
    let first = IsPartitionPoint-from_clause (λ (site : Site). ltb site.parent c.args.parent) _ _ c.partition_point-start.ensures.partitioned (IsPartitionedBy-ltb (λ site. site.parent) _ c.args.parent c.requires) (λ a r q k. search rules) in
    let last = IsPartitionPoint-from_clause (λ (site : Site). leb site.parent c.args.parent) _ _ c.partition_point-end.ensures.partitioned (IsPartitionedBy-leb (λ site. site.parent) _ c.args.parent c.requires) (λ a r q k. search rules) in
    start_le_end (λ (site : Site). site.parent) c.args.parent c.args.sites.now _ _ c.partition_point-start.ensures.bound first last

pub slice_bounds-result-start : goal.slice_bounds-result-start
slice_bounds-result-start c = slice_bounds-result-count c

pub returns-clause-children : goal.returns-clause-children
returns-clause-children c =
    let first = IsPartitionPoint-from_clause (λ (site : Site). ltb site.parent c.args.parent) _ _ c.partition_point-start.ensures.partitioned (IsPartitionedBy-ltb (λ site. site.parent) _ c.args.parent c.requires) (λ a r q k. search rules) in
    let last = IsPartitionPoint-from_clause (λ (site : Site). leb site.parent c.args.parent) _ _ c.partition_point-end.ensures.partitioned (IsPartitionedBy-leb (λ site. site.parent) _ c.args.parent c.requires) (λ a r q k. search rules) in
    let ordered = start_le_end (λ (site : Site). site.parent) c.args.parent c.args.sites.now _ _ c.partition_point-start.ensures.bound first last in
    ap plain_sites (those_between (λ (site : Site). site.parent) c.args.parent c.args.sites.now _ _ ordered first last)
    ∙ sym (filter_map plain_site (λ site. nat_eq site.parent c.args.parent) c.args.sites.now)
