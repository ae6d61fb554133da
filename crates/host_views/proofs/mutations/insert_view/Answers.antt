use Rattle.std.proofs.Common.{Some, ◌≤◌, List, ℕ, length, ap, sym, subst, ◌∙◌}
use Rattle.std.specs.List as list
use Rattle.std.proofs.lemmas.Result.{on_ok_weaker}
use Rattle.host_views.specs.Links.{KeepsParents, registry_in, with_parent}
use Rattle.host_views.proofs.Steps.{insert_kept, moved_shown, of_shown_children}
use Rattle.host_views.proofs.mutations.insert_view.Goals as goal

pub insert_child-requires : goal.insert_child-requires
insert_child-requires c =
    of_shown_children (λ children. c.args.index ≤ length children) c.args.links.now c.args.parent c.requires.fits.0

pub returns-clause-kept : goal.returns-clause-kept
returns-clause-kept c =
    let child = ap (with_parent c.args.tag (Some c.args.parent)) c.in_ok-insert_child.ensures.ok in
    on_ok_weaker c.set_parent.result
    (λ set. subst KeepsParents (sym (set ∙ child)) (insert_kept c.args.links.now c.args.parent c.args.tag c.args.index c.requires.kept c.requires.fits)) c.set_parent.ensures.ok

pub returns-clause-shown : goal.returns-clause-shown
returns-clause-shown c =
    let change : List ℕ → List ℕ = λ children. list.insert children c.args.index c.args.tag in
    let child = ap (with_parent c.args.tag (Some c.args.parent)) c.in_ok-insert_child.ensures.ok in
    on_ok_weaker c.set_parent.result
    (λ set. ap registry_in (set ∙ child) ∙ moved_shown c.args.links.now c.args.parent c.args.tag change (Some c.args.parent)) c.set_parent.ensures.ok
