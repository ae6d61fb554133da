use Rattle.std.proofs.Common.{rules}
use Rattle.std.proofs.lemmas.List.Sorted.{answers_always}
use Rattle.view_flatten.specs.declared.sites.Site.{Site}
use Rattle.view_flatten.proofs.ByZ.{plain_by_z}
use Rattle.view_flatten.proofs.Stable.{first_from_sort, ordered_as_sorted, sorted_from_adjacent}
use Rattle.view_flatten.proofs.placing.are_in_order.Goals as goal

pub returns-clause-by_z : goal.returns-clause-by_z
returns-clause-by_z c =
    let cases = c.is_sorted_by_key.ensures.cases (λ (site : Site). (site.parent, site.z)) (answers_always _ _ _ (λ f a r g h. search rules)) in
    let sites = c.args.sites.now in
    λ h. plain_by_z sites sites (ordered_as_sorted (λ (site : Site). site.parent) (λ site. site.z) sites (sorted_from_adjacent (λ (site : Site). site.parent) (λ site. site.z) sites c.is_sorted_by_key.result cases h))

pub returns-clause-by_parent : goal.returns-clause-by_parent
returns-clause-by_parent c =
    let cases = c.is_sorted_by_key.ensures.cases (λ (site : Site). (site.parent, site.z)) (answers_always _ _ _ (λ f a r g h. search rules)) in
    let sites = c.args.sites.now in
    λ h. first_from_sort (λ (site : Site). site.parent) (λ site. site.z) sites (sorted_from_adjacent (λ (site : Site). site.parent) (λ site. site.z) sites c.is_sorted_by_key.result cases h)
