use Rattle.std.proofs.Common.{◌≡◌, ◌∷◌, [], ◌++◌, ap, sym, subst, ◌∙◌}
use Rattle.tree_query.specs.Rebuilt.{IsRebuildOf}
use Rattle.tree_query.proofs.Rebuilds.{begun}
use Rattle.tree_query.proofs.rebuild.Rebuild.start.Goals as goal

pub invariant_of-result : goal.invariant_of-result
invariant_of-result c =
    let items : c.push.new.self.items ≡ c.in_ok-first.first ∷ [] = c.in_ok-push.ensures.items ∙ ap (λ list. list ++ c.in_ok-first.first ∷ []) c.new-revisions.ensures.items in
    record {
      first = c.args.size;
      entries = [];
      stands = subst (λ list. IsRebuildOf c.args.size list []) (sym items) (begun c.args.size c.in_ok-first.first c.in_ok-first.ensures.stands);
    }
