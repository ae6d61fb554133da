use Rattle.std.proofs.Common.{◌≡◌, ◌++◌, map, subst, ap, sym, ◌∙◌}
use Rattle.host_views.specs.Plain.{plain_mutation}
use Rattle.shadow_node.specs.Forest.{depth_of}
use Rattle.shadow_node.specs.Pruned.{pruned}
use Rattle.shadow_node.specs.Stamps.{stamp_in}
use Rattle.view_flatten.specs.declared.sites.Host.{Host}
use Rattle.view_flatten.specs.HostTree.{host_tree_of}
use Rattle.view_flatten.specs.Sites.{HasRoomFor, root, sites_from}
use Rattle.view_flatten.specs.Walks.{PlainSpots, PlainWalk}
use Rattle.view_flatten.proofs.Whole.{room_at_root}
use Rattle.view_mutation.specs.Mutations.{mutations_between}
use Rattle.view_mutation.specs.Together.{ArePaired, AreCompared, kept_by, unchanged_by}
use Rattle.view_mutation.proofs.Paired.{paired_since}
use Rattle.view_mutation.proofs.ComparedMutations.{compared_since}
use Rattle.view_mutation.proofs.together.updates_together.Goals as goal

pub compare_forest-requires-clause-pairs : goal.compare_forest-requires-clause-pairs
compare_forest-requires-clause-pairs c =
    let old = c.args.old.now in
    let new = c.args.new.now in
    let k = kept_by new c.args.base in
    let u = unchanged_by new c.args.base in
    let were : c.top-were.result.forest ≡ old.forest =
    ap (λ (spots : PlainSpots). spots.forest) c.top-were.ensures ∙ ap (λ (walk : PlainWalk). walk.forest) c.again-one.ensures in
    let are : c.top-are.result.forest ≡ new.forest =
    ap (λ (spots : PlainSpots). spots.forest) c.top-are.ensures ∙ ap (λ (walk : PlainWalk). walk.forest) c.again-other.ensures in
    subst (λ walk. ArePaired (kept_by walk c.args.base) (unchanged_by walk c.args.base) c.top-were.result.forest c.top-are.result.forest) (sym c.again-other.ensures)
    (subst (λ forest. ArePaired k u forest c.top-are.result.forest) (sym were)
    (subst (λ forest. ArePaired k u old.forest forest) (sym are)
    (paired_since (stamp_in new.stamps) c.args.base old.forest new.forest c.requires.old.within.differ c.requires.new.within.differ c.requires.old_tags c.requires.new_tags c.requires.alike)))

pub compare_forest-requires-clause-old_room : goal.compare_forest-requires-clause-old_room
compare_forest-requires-clause-old_room c =
    let were : c.top-were.result.forest ≡ c.args.old.now.forest =
    ap (λ (spots : PlainSpots). spots.forest) c.top-were.ensures ∙ ap (λ (walk : PlainWalk). walk.forest) c.again-one.ensures in
    subst (λ (host : Host). HasRoomFor (depth_of c.top-were.result.forest) host.begin) (sym c.root.ensures)
    (subst (λ forest. HasRoomFor (depth_of forest) root.begin) (sym were) (room_at_root c.args.old.now.forest c.requires.old))

pub compare_forest-requires-clause-new_room : goal.compare_forest-requires-clause-new_room
compare_forest-requires-clause-new_room c =
    let are : c.top-are.result.forest ≡ c.args.new.now.forest =
    ap (λ (spots : PlainSpots). spots.forest) c.top-are.ensures ∙ ap (λ (walk : PlainWalk). walk.forest) c.again-other.ensures in
    subst (λ (host : Host). HasRoomFor (depth_of c.top-are.result.forest) host.begin) (sym c.root-2.ensures)
    (subst (λ forest. HasRoomFor (depth_of forest) root.begin) (sym are) (room_at_root c.args.new.now.forest c.requires.new))

pub returns-clause-list : goal.returns-clause-list
returns-clause-list c =
    let old = c.args.old.now in
    let new = c.args.new.now in
    let base = c.args.base in
    let before = c.new-list.result in
    let after = c.compare_forest.new.list in
    let were : c.top-were.result.forest ≡ old.forest =
    ap (λ (spots : PlainSpots). spots.forest) c.top-were.ensures ∙ ap (λ (walk : PlainWalk). walk.forest) c.again-one.ensures in
    let are : c.top-are.result.forest ≡ new.forest =
    ap (λ (spots : PlainSpots). spots.forest) c.top-are.ensures ∙ ap (λ (walk : PlainWalk). walk.forest) c.again-other.ensures in
    compared_since (stamp_in new.stamps) base old.forest new.forest c.requires.old.within.differ c.requires.new.within.differ c.requires.old_tags c.requires.new_tags c.requires.alike before after
    (subst (λ sites. AreCompared sites (sites_from root (pruned (unchanged_by new base) new.forest)) before after)
    (λ i. sites_from (c.root.ensures i) (pruned (kept_by (c.again-other.ensures i) base) (were i)))
    (subst (λ sites. AreCompared (sites_from c.root.result (pruned (kept_by c.again-other.result base) c.top-were.result.forest)) sites before after)
    (λ i. sites_from (c.root-2.ensures i) (pruned (unchanged_by (c.again-other.ensures i) base) (are i)))
    (c.in_ok-compare_forest.ensures.compared c.if-not-branch.false)))
    ∙ ap (λ list. map plain_mutation list ++ mutations_between (host_tree_of old.forest) (host_tree_of new.forest)) c.new-list.ensures
