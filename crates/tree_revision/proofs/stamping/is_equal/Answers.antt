use Rattle.std.proofs.Common.{◌≡◌, true, Decides, sym, subst, ◌∙◌}
use Rattle.std.proofs.lemmas.Bool.{false≢true}
use Rattle.tree_revision.specs.Unchanged.{DoTreesStandIn, top_tags}
use Rattle.tree_revision.proofs.Alike.{same_nodes, same_fields}
use Rattle.tree_revision.proofs.stamping.is_equal.Goals as goal
use Rattle.tree_revision.proofs.stamping.is_equal.Goals.{then-below, else-below}

pub returns-then-have_same_tags : goal.returns-then-have_same_tags
returns-then-have_same_tags c = λ old stand below_is.
    let was = c.args.was.now in
    let node = c.args.node.now in
    elim c.if-below.branch [
      | then-below w ↦
          let below : Decides true (DoTreesStandIn old node.children) = subst (λ b. Decides b (DoTreesStandIn old node.children)) w.if-below.true below_is in
          let tags : Decides w.have_same_tags.result (top_tags was.children ≡ top_tags node.children) =
          subst (λ forest. Decides w.have_same_tags.result (top_tags forest ≡ top_tags node.children)) w.children.ensures
          (subst (λ forest. Decides w.have_same_tags.result (top_tags w.children.result.now ≡ top_tags forest)) w.children-then-below.ensures w.have_same_tags.ensures) in
          let yes : Decides true (top_tags was.children ≡ top_tags node.children) = subst (λ b. Decides b (top_tags was.children ≡ top_tags node.children)) (sym w.value-is ∙ c.if-have_same_tags.true) tags in
          let fields : Decides c.has_same_fields.result (was.fields ≡ node.fields) = subst (λ b. Decides b (was.fields ≡ node.fields)) (sym c.has_same_fields.ensures) (same_fields was.fields node.fields) in
          same_nodes old was node true true c.has_same_fields.result stand below yes fields
      | else-below w ↦ absurd (false≢true (sym w.if-below.false ∙ sym w.value-is ∙ c.if-have_same_tags.true))
    ]
