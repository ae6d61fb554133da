use Rattle.std.proofs.Common.{rules}
use Rattle.std.proofs.lemmas.List.Sorted.{answers_always}
use Rattle.view_flatten.specs.declared.sites.Site.{Site}
use Rattle.view_flatten.proofs.ByZ.{plain_by_z}
use Rattle.view_flatten.proofs.Stable.{ordered_from_sort, first_from_sort}
use Rattle.view_flatten.proofs.placing.put_in_order.Goals as goal

pub returns-in_ok-sort_by_key-clause-by_z : goal.returns-in_ok-sort_by_key-clause-by_z
returns-in_ok-sort_by_key-clause-by_z c =
    let sorted = c.in_ok-sort_by_key.ensures.sorted (λ site. (site.parent, site.z)) (answers_always _ _ _ (λ f a r g h. search rules)) in
    let stable = c.sort_by_key.ensures.stable (λ site. (site.parent, site.z)) (answers_always _ _ _ (λ f a r g h. search rules)) in
    plain_by_z _ _ (ordered_from_sort (λ (site : Site). site.parent) (λ site. site.z) _ _ sorted stable)

pub returns-in_ok-sort_by_key-clause-by_parent : goal.returns-in_ok-sort_by_key-clause-by_parent
returns-in_ok-sort_by_key-clause-by_parent c =
    first_from_sort (λ (site : Site). site.parent) (λ site. site.z) _ (c.in_ok-sort_by_key.ensures.sorted (λ site. (site.parent, site.z)) (answers_always _ _ _ (λ f a r g h. search rules)))
