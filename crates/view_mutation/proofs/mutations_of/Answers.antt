use Rattle.view_mutation.specs.Lookups.{view_by}
use Rattle.view_mutation.specs.Children.{children_by}
use Rattle.view_mutation.proofs.Index.{few_children, indexed_views}
use Rattle.view_mutation.proofs.Five.{all_listed}
use Rattle.std.proofs.Common.{get_or, subst, sym}
use Rattle.view_flatten.specs.Placed.{plain_place}
use Rattle.view_mutation.specs.SameSkipped.{IsSameAsBefore}
use Rattle.view_mutation.proofs.mutations_of.Goals as goal

pub add_updates-requires : goal.add_updates-requires
add_updates-requires c =
    λ k d l. subst (λ o. IsSameAsBefore o (get_or c.args.new.now k d)) (sym (c.in_ok-old_index.ensures (plain_place (get_or c.args.new.now k d)).tag)) (c.requires.alike k d l)

pub add_removes-requires : goal.add_removes-requires
add_removes-requires c = few_children (children_by c.in_ok-old_children.old_children) c.args.old.now c.requires.old_count c.in_ok-old_children.ensures

pub add_inserts-requires : goal.add_inserts-requires
add_inserts-requires c = few_children (children_by c.in_ok-new_children.new_children) c.args.new.now c.requires.new_count c.in_ok-new_children.ensures

pub returns : goal.returns
returns c =
    all_listed c.args.old.now c.args.new.now (children_by c.in_ok-old_children.old_children) (children_by c.in_ok-new_children.new_children)
    (view_by c.in_ok-old_index.old_index c.args.old.now) (view_by c.in_ok-new_index.new_index c.args.new.now) _ _ _ _ _ _
    c.in_ok-old_children.ensures c.in_ok-new_children.ensures (indexed_views c.in_ok-old_index.old_index c.args.old.now c.in_ok-old_index.ensures) (indexed_views c.in_ok-new_index.new_index c.args.new.now c.in_ok-new_index.ensures) c.new-list.ensures
    c.in_ok-add_removes.ensures c.in_ok-add_deletes.ensures c.in_ok-add_creates.ensures c.in_ok-add_updates.ensures c.in_ok-add_inserts.ensures
