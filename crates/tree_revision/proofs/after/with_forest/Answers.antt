use Rattle.std.proofs.Common.{◌≡◌, ◌+◌, ◌-◌, ◌*◌, sym, ap, subst, ◌∙◌, arith}
use Rattle.std.specs.Option.{option_and_then}
use Rattle.std.specs.FinMap.{len}
use Rattle.std.proofs.lemmas.Result.{err_from_is_err_and}
use Rattle.shadow_node.specs.Forest.{preorder}
use Rattle.shadow_node.specs.Fields.{contents_of}
use Rattle.tree_build.specs.Script.{script_forest}
use Rattle.tree_build.specs.Resolved.{resolved}
use Rattle.tree_build.specs.Refusals.{build_refusal_of}
use Rattle.tree_build.specs.Built.{built}
use Rattle.native_state.specs.Families.{cell_in}
use Rattle.tree_settle.specs.Changes.{changes_in}
use Rattle.counts.specs.Raised.{raised}
use Rattle.tree_revision.specs.Cancels.{cancel_for}
use Rattle.tree_revision.specs.Prepared.{families_grown, new_nodes}
use Rattle.tree_revision.specs.Steps.{AreCountsWithin, IsFor, growth_cause, settled_next}
use Rattle.tree_revision.proofs.Refused.{refused_built, refused_later}
use Rattle.tree_revision.proofs.Within.{counts_more, counts_grown}
use Rattle.tree_revision.proofs.after.with_forest.Goals as goal

pub returns-in_err-forest-clause-cancelled : goal.returns-in_err-forest-clause-cancelled
returns-in_err-forest-clause-cancelled c =
    let nodes = script_forest c.args.nodes.now in
    let held = c.args.held.now in
    let refusal = c.in_err-forest.field-0.0 in
    let p = err_from_is_err_and c.from_residual.result c.from_residual.ensures.1 in
    rw (p.1, p.2) (refused_built (build_refusal_of (contents_of held.forest) nodes) refusal _ (λ known. ap (λ r. build_refusal_of (contents_of r.forest) nodes) (sym c.held.view_is) ∙ c.in_err-forest.ensures.refused known))

pub returns-in_err-families-clause-cancelled : goal.returns-in_err-families-clause-cancelled
returns-in_err-families-clause-cancelled c =
    let nodes = script_forest c.args.nodes.now in
    let contents = c.in_ok-forest.ensures.contents in
    let refusal = c.in_err-families.field-0.0 in
    let unrefused = ap (λ r. option_and_then cancel_for (build_refusal_of (contents_of r.forest) nodes)) (sym c.held.view_is) ∙ ap (option_and_then cancel_for) c.in_ok-forest.ensures.unrefused in
    let cause = (λ i. growth_cause (c.front.view_is i).families (preorder (contents i))) ∙ ap (λ r. growth_cause c.args.front.now.families (preorder (resolved (contents_of r.forest) nodes))) c.held.view_is in
    let p = err_from_is_err_and c.from_residual-in_err-families.result c.from_residual-in_err-families.ensures.1 in
    rw (p.1, p.2) (refused_later _ _ refusal unrefused (subst (λ why. IsFor why refusal) cause c.in_err-families.ensures.cancelled))

pub settled-requires-clause-counts : goal.settled-requires-clause-counts
settled-requires-clause-counts c =
    let nodes = preorder (contents_of c.in_ok-forest.forest) in
    let number = c.args.front.now.number in
    let families = c.args.front.now.families in
    let is = c.in_ok-families.ensures.families ∙ ap (λ r. families_grown r.families nodes) c.front.view_is in
    let counts = subst (λ r. AreCountsWithin r.number r.families) c.front.view_is c.front.invariant.counts in
    subst (AreCountsWithin (number + 1)) (sym is) (counts_more number (number + 1) (families_grown families nodes) (omega arith) (counts_grown number families (new_nodes families nodes) counts))

pub returns-clause-next : goal.returns-clause-next
returns-clause-next c =
    let nodes = script_forest c.args.nodes.now in
    let front = c.args.front.now in
    let contents = c.in_ok-forest.ensures.contents ∙ ap (λ r. resolved (contents_of r.forest) nodes) c.held.view_is in
    let forest = c.in_ok-forest.ensures.forest ∙ ap (λ r. built r.forest nodes) c.held.view_is in
    let families = c.in_ok-families.ensures.families ∙ (λ i. families_grown (c.front.view_is i).families (preorder (contents i))) in
    c.in_ok-settled.ensures.content ∙ (λ i. settled_next front (c.front.view_is i).size (families i) (forest i) c.in_ok-settled.field-0.stamps)

pub returns-clause-made : goal.returns-clause-made
returns-clause-made c =
    let nodes = script_forest c.args.nodes.now in
    let next = c.in_ok-settled.field-0 in
    let forest = c.in_ok-forest.ensures.forest ∙ ap (λ r. built r.forest nodes) c.held.view_is in
    let grown = c.in_ok-families.ensures.made in
    let settled = c.in_ok-settled.ensures.made in
    let first = ap (λ m. m.nodes) c.in_ok-forest.ensures.made in
    let families : next.families ≡ c.in_ok-families.families = ap (λ r. r.families) c.in_ok-settled.ensures.content in
    let most : 65 * (len c.in_ok-families.families - len c.front.inside.families) ≡ 65 * (len next.families - len c.args.front.now.families) =
    λ i. 65 * (len (sym families i) - len (c.front.view_is i).families) in
    record {
      nodes = ap (λ m. m.nodes) settled ∙ (λ i. raised ((grown.nodes ∙ first) i) (changes_in next.size (cell_in next.families) (forest i)));
      families = omega (arith, grown.never_falls, ap (λ m. m.families) settled, ap (λ m. m.families) c.in_ok-forest.ensures.made);
      families_most = omega (arith, grown.at_most, ap (λ m. m.families) settled, ap (λ m. m.families) c.in_ok-forest.ensures.made, most);
    }
