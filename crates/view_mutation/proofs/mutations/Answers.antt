use Rattle.std.proofs.Common.{◌≡◌, ◌∙◌, ap, false, map, subst, sym, IfOk}
use Rattle.host_views.specs.Plain.{plain_mutation}
use Rattle.view_flatten.specs.HostTree.{host_tree_of}
use Rattle.view_flatten.specs.Placed.{AreMarked, plain_places}
use Rattle.view_flatten.proofs.Whole.{pruned_nothing}
use Rattle.view_mutation.specs.Mutations.{mutations_between}
use Rattle.view_mutation.proofs.SameSkipped.{none_skipped}
use Rattle.view_mutation.proofs.mutations.Goals as goal

pub mutations_of-requires-clause-alike : goal.mutations_of-requires-clause-alike
mutations_of-requires-clause-alike c =
    none_skipped c.deref.result.now c.deref-2.result.now (subst (AreMarked (λ settled. false)) (sym c.deref-2.ensures.value) c.in_ok-new.ensures.marked)

pub returns : goal.returns
returns c =
    let old : plain_places c.deref.result.now ≡ host_tree_of c.args.old.now =
    ap plain_places c.deref.ensures.value ∙ c.in_ok-old.ensures.tree ∙ ap host_tree_of (pruned_nothing c.over.result.forest ∙ ap (λ w. w.forest) c.over.ensures) in
    let new : plain_places c.deref-2.result.now ≡ host_tree_of c.args.new.now =
    ap plain_places c.deref-2.ensures.value ∙ c.in_ok-new.ensures.tree ∙ ap host_tree_of (pruned_nothing c.over-2.result.forest ∙ ap (λ w. w.forest) c.over-2.ensures) in
    subst (λ mutations. IfOk c.mutations_of.result (λ list. map plain_mutation list ≡ mutations)) (λ i. mutations_between (old i) (new i)) c.mutations_of.ensures
