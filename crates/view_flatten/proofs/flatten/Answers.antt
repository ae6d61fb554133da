use Rattle.std.proofs.Common.{◌≡◌, ◌≤◌, length, arith, ap, ◌∙◌}
use Rattle.std.proofs.lemmas.List.{length-map}
use Rattle.std.proofs.lemmas.Result.{IfOk-weaker}
use Rattle.host_views.specs.declared.HostTree.{HostTree}
use Rattle.host_views.specs.Plain.{plain_placed, plain_tree}
use Rattle.view_flatten.specs.HostTree.{host_tree_of}
use Rattle.view_flatten.specs.Placed.{plain_place, plain_places}
use Rattle.view_flatten.specs.Walks.{PlainWalk}
use Rattle.view_flatten.proofs.Whole.{pruned_nothing}
use Rattle.view_flatten.proofs.flatten.Goals as goal

pub returns-clause-tree : goal.returns-clause-tree
returns-clause-tree c =
    let forest : c.over-walk.result.forest ≡ c.args.forest.now = ap (λ (walk : PlainWalk). walk.forest) c.over-walk.ensures in
    IfOk-weaker c.views_at.result (λ (tree : HostTree). plain_tree tree ≡ plain_places c.deref.result.now) (λ (tree : HostTree). plain_tree tree ≡ host_tree_of c.args.forest.now)
    (λ tree made. made ∙ ap plain_places c.deref.ensures.value ∙ c.in_ok-found.ensures.tree ∙ ap host_tree_of (pruned_nothing c.over-walk.result.forest ∙ forest)) c.views_at.ensures

pub returns-clause-count : goal.returns-clause-count
returns-clause-count c =
    let count : length c.deref.result.now ≤ 2000 = omega (arith, c.in_ok-found.ensures.count, c.deref.ensures.len) in
    IfOk-weaker c.views_at.result (λ (tree : HostTree). plain_tree tree ≡ plain_places c.deref.result.now) (λ (tree : HostTree). length tree.views ≤ 2000)
    (λ tree made. omega (arith, count, ap length made, length-map tree.views plain_placed, length-map c.deref.result.now plain_place)) c.views_at.ensures
