use Rattle.std.proofs.Common.{◌≡◌, Some, None, ◌<◌, List, ℕ, Option, length, IsSomeAnd, ap, sym, subst, ◌∙◌}
use Rattle.std.specs.Prelude.{slice_get}
use Rattle.std.specs.List as list
use Rattle.std.proofs.lemmas.Option.{slice_get_within}
use Rattle.std.proofs.lemmas.Result.{on_ok_weaker}
use Rattle.host_views.specs.Links.{KeepsParents, linked_children, registry_in, with_parent}
use Rattle.host_views.proofs.Steps.{remove_kept, moved_shown, of_shown_children}
use Rattle.host_views.proofs.mutations.remove_view.Goals as goal

within : (o : Option (List ℕ)) (index tag : ℕ) → IsSomeAnd o (λ children. slice_get children index ≡ Some tag) → IsSomeAnd o (λ children. index < length children)
within None index tag h = h
within (Some children) index tag h = slice_get_within children index tag h

pub remove_child-requires : goal.remove_child-requires
remove_child-requires c =
    within (linked_children c.args.links.now c.args.parent) c.args.index c.args.tag
    (of_shown_children (λ children. slice_get children c.args.index ≡ Some c.args.tag) c.args.links.now c.args.parent c.requires.fits)

pub returns-clause-kept : goal.returns-clause-kept
returns-clause-kept c =
    let child = ap (with_parent c.args.tag None) c.in_ok-remove_child.ensures.ok in
    on_ok_weaker c.set_parent.result
    (λ set. subst KeepsParents (sym (set ∙ child)) (remove_kept c.args.links.now c.args.parent c.args.tag c.args.index c.requires.kept c.requires.fits)) c.set_parent.ensures.ok

pub returns-clause-shown : goal.returns-clause-shown
returns-clause-shown c =
    let change : List ℕ → List ℕ = λ children. list.remove children c.args.index in
    let child = ap (with_parent c.args.tag None) c.in_ok-remove_child.ensures.ok in
    on_ok_weaker c.set_parent.result
    (λ set. ap registry_in (set ∙ child) ∙ moved_shown c.args.links.now c.args.parent c.args.tag change None) c.set_parent.ensures.ok
