use Rattle.std.proofs.Common.{[], ◌∷◌, ap, subst, ◌∙◌, arith}
use Rattle.std.proofs.lemmas.Result.{err_from_is_err_and}
use Rattle.shadow_node.specs.Forest.{node_count, preorder}
use Rattle.shadow_node.specs.Fields.{contents_of}
use Rattle.shadow_node.proofs.Trees.{forest_at-drop}
use Rattle.tree_revision.specs.Prepared.{other_kind}
use Rattle.tree_revision.specs.Steps.{AreGathered, IsFor}
use Rattle.tree_revision.proofs.Gathered.{left_from, left_later, refused_below}
use Rattle.tree_revision.proofs.family_changes.+add_all.Goals as goal

pub returns-in_err-add_all-clause-cancelled : goal.returns-in_err-add_all-clause-cancelled
returns-in_err-add_all-clause-cancelled t c =
    let families = c.args.families.now in
    let refusal = c.in_err-add_all.field-0.0 in
    let left = left_from families c.nodes-node-items.result.now c.loop-node.node-index c.node-item.result _ _ _ c.loop-node-test.true c.node-item.is c.loop-node.invariant.left in
    let one = subst (λ node. AreGathered families (node.fields.fields ∷ []) c.loop-node.added.items c.add_one.new.added.items) c.deref.ensures c.in_ok-add_one.ensures.gathered in
    let below = subst (λ forest. IsFor (other_kind families (preorder (contents_of forest))) refusal) (c.children.ensures ∙ ap (λ node. node.children) c.deref-in-loop-node.ensures) c.in_err-add_all.ensures.cancelled in
    let p = err_from_is_err_and c.from_residual-in_err-add_all.result c.from_residual-in_err-add_all.ensures.1 in
    rw (p.1, p.2) (refused_below families _ _ _ _ _ _ _ refusal left one below)

pub loop-node-preserved : goal.loop-node-preserved
loop-node-preserved t c =
    let families = c.args.families.now in
    let nodes = c.nodes-node-items.result.now in
    let i = c.loop-node.node-index in
    let drop = forest_at-drop nodes i c.node-item.result c.loop-node-test.true c.node-item.is in
    let left = left_from families nodes i c.node-item.result _ _ _ c.loop-node-test.true c.node-item.is c.loop-node.invariant.left in
    let one = subst (λ node. AreGathered families (node.fields.fields ∷ []) c.loop-node.added.items c.add_one.new.added.items) c.deref.ensures c.in_ok-add_one.ensures.gathered in
    let below = subst (λ forest. AreGathered families (preorder (contents_of forest)) c.add_one.new.added.items c.add_all.new.added.items) (c.children.ensures ∙ ap (λ node. node.children) c.deref-in-loop-node.ensures) c.in_ok-add_all.ensures.gathered in
    record {
      whole = c.loop-node.invariant.whole;
      within = omega (arith, ap node_count drop, c.loop-node.invariant.within);
      left = left_later families _ _ _ _ _ _ _ _ left one below;
    }
