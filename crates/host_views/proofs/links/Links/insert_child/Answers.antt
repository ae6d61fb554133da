use Rattle.std.proofs.Common.{ap, ◌∙◌}
use Rattle.std.proofs.lemmas.Result.{on_err_weaker}
use Rattle.std.specs.FinMap.{insert}
use Rattle.host_views.proofs.AtOneTag.{put_again}
use Rattle.host_views.proofs.links.Links.insert_child.Goals as goal

pub returns-in-Some-clause-err : goal.returns-in-Some-clause-err
returns-in-Some-clause-err c =
    let views = c.self.inside.views in
    let linked = c.in-Some.linked.now in
    on_err_weaker c.insert_child.result
    (λ same. (λ i. record {
      root = c.self.inside.root.items;
      views = (ap (insert views c.args.parent) same ∙ put_again views c.args.parent linked c.in-Some.ensures.value) i;
    }) ∙ c.self.view_is) c.insert_child.ensures.err
