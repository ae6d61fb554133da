use Rattle.std.proofs.Common.{◌≡◌, ◌+◌, ◌≤◌, ◌++◌, [], ◌∷◌, max, true, false, Ok, Err, rules, arith, refl, subst, ap, sym, ◌∙◌}
use Rattle.std.proofs.lemmas.Result.{on_ok_weaker}
use Rattle.std.specs.Option.{option_map}
use Rattle.std.specs.Prelude.{Result, OnOk}
use Rattle.shadow_node.specs.Entered.{count_outside}
use Rattle.shadow_node.specs.Forest.{none, node, node_count, depth_of}
use Rattle.tree_settle.specs.Limits.{AreFramesInBounds}
use Rattle.view_flatten.specs.declared.sites.Found.{Found}
use Rattle.view_flatten.specs.Sites.{HasFound, HasRoomBelow, IsAdded, host_inside, shown_host, shown_site}
use Rattle.view_flatten.specs.Skips.{skips}
use Rattle.view_flatten.specs.Walks.{PlainSpots, entered_more}
use Rattle.view_flatten.proofs.Added.{found_both, found_entered, found_none, found_skipped, entered_both, entered_not, entered_own, room_at_node, room_below_node, room_for_less, room_shown}
use Rattle.view_flatten.proofs.sites.+walk.Goals as goal

-- what follows from two clauses on a call that is returned as it is
on_ok_both : {T E P Q R : Type 0} (r : Result T E) → (P → Q → R) → OnOk r P → OnOk r Q → OnOk r R
on_ok_both (Ok x) f p q = f p q
on_ok_both (Err e) f p q = tt

pub add_forest-loop-spot-preserved : goal.add_forest-loop-spot-preserved
add_forest-loop-spot-preserved t c =
    let kept = c.loop-spot.invariant in
    let gives = c.in-Some.ensures.steps in
    let tree = c.in-Some.spot.tree in
    let left = c.next.new.self.forest in
    let test = skips c.args.skip.now c.args.spots.stamps in
    let stamps : c.in-Some.spot.stamps ≡ c.args.spots.stamps = gives.spot ∙ kept.stamps in
    let added : HasFound test c.args.host (node tree.fields tree.children none) c.loop-spot.found c.add_tree.new.found =
    subst (λ stamps. HasFound (skips c.args.skip.now stamps) c.args.host (node tree.fields tree.children none) c.loop-spot.found c.add_tree.new.found) stamps c.in_ok-add_tree.ensures.found in
    let counts : node_count c.loop-spot.spot-iterator.forest ≡ node_count tree.children + node_count left + 1 = ap node_count gives.first in
    let depths : depth_of c.loop-spot.spot-iterator.forest ≡ max (depth_of tree.children + 1) (depth_of left) = ap depth_of gives.first in
    let frames = subst AreFramesInBounds gives.first kept.frames in
    record {
      can_next = tt;
      is_finite = search rules;
      stamps = gives.stamps ∙ kept.stamps;
      found = λ new h. kept.found new (subst (λ forest. HasFound test c.args.host forest c.loop-spot.found new) (sym gives.first) (found_both test c.args.host tree left c.loop-spot.found c.add_tree.new.found new added h));
      entered =
          entered_both test tree left c.loop-spot.walk c.add_tree.new.walk
          (subst (λ stamps. c.add_tree.new.walk ≡ entered_more c.loop-spot.walk (count_outside (skips c.args.skip.now stamps) (node tree.fields tree.children none))) stamps c.in_ok-add_tree.ensures.entered)
          ∙ ap (λ forest. entered_more c.loop-spot.walk (count_outside test forest)) (sym gives.first) ∙ kept.entered;
      same = record { forest = c.in_ok-add_tree.ensures.same.forest ∙ kept.same.forest; stamps = c.in_ok-add_tree.ensures.same.stamps ∙ kept.same.stamps };
      within = omega (arith, counts, kept.within);
      room = room_for_less (depth_of left) (depth_of c.loop-spot.spot-iterator.forest) c.args.host (omega (arith, depths)) kept.room;
      frames = frames.2;
    }

pub add_forest-returns-clause-found : goal.add_forest-returns-clause-found
add_forest-returns-clause-found t c =
    let test = skips c.args.skip.now c.args.spots.stamps in
    c.loop-spot.invariant.found c.loop-spot.found
    (subst (λ forest. HasFound test c.args.host forest c.loop-spot.found c.loop-spot.found) (sym c.in-None.ensures.steps.first) (found_none test c.args.host c.loop-spot.found))

pub add_tree-add_site-requires-clause-place : goal.add_tree-add_site-requires-clause-place
add_tree-add_site-requires-clause-place t c =
    let fields = c.args.spot.now.tree.fields in
    subst (HasRoomBelow 1) (sym c.shown_host-host.ensures) (room_at_node (depth_of c.args.spot.now.tree.children) c.args.host fields c.requires.room)

pub add_tree-host_below-host_below-requires-clause-place :
    goal.add_tree-host_below-host_below-requires-clause-place
add_tree-host_below-host_below-requires-clause-place t c =
    let fields = c.args.spot.now.tree.fields in
    subst (HasRoomBelow 1) (sym c.shown_host-host.ensures) (room_at_node (depth_of c.args.spot.now.tree.children) c.args.host fields c.requires.room)

pub add_tree-add_site-requires-2-clause-place : goal.add_tree-add_site-requires-2-clause-place
add_tree-add_site-requires-2-clause-place t c =
    let fields = c.args.spot.now.tree.fields in
    subst (HasRoomBelow 1) (sym c.shown_host-host.ensures) (room_at_node (depth_of c.args.spot.now.tree.children) c.args.host fields c.requires.room)

pub add_tree-returns-then-skips-clause-found : goal.add_tree-returns-then-skips-clause-found
add_tree-returns-then-skips-clause-found t c =
    let tree = c.args.spot.now.tree in
    let test = skips c.args.skip.now c.args.spot.now.stamps in
    let new : Found = record { sites = c.add_site.new.sites; skipped = c.push.new.self } in
    let is : test tree.fields ≡ true = sym c.skips.ensures.skips ∙ c.if-skips.true in
    let low : 1 ≤ tree.fields.fields.tag = subst (λ tag. 1 ≤ tag) c.tag.ensures.tag c.tag.ensures.low in
    let skipped : c.push.new.self.items ≡ c.args.found.now.skipped.items ++ tree.fields.fields.tag ∷ [] =
    c.in_ok-push.ensures.items ∙ ap (λ tag. c.args.found.now.skipped.items ++ tag ∷ []) c.tag.ensures.tag in
    on_ok_both c.add_site.result
    (λ sites marked. found_skipped test c.args.host tree c.args.found.now new is low (subst (λ host. IsAdded c.args.found.now.sites.items (shown_site host tree.fields) new.sites.items) c.shown_host-host.ensures sites) (marked test (sym is)) skipped)
    c.add_site.ensures.sites c.add_site.ensures.marked

pub add_tree-returns-then-skips-clause-entered : goal.add_tree-returns-then-skips-clause-entered
add_tree-returns-then-skips-clause-entered t c =
    let test = skips c.args.skip.now c.args.spot.now.stamps in
    on_ok_weaker c.add_site.result (λ sites. c.skips.ensures.same ∙ entered_not test c.args.spot.now.tree c.args.walk.now (sym c.skips.ensures.skips ∙ c.if-skips.true)) c.add_site.ensures.sites

pub add_tree-add_forest-requires : goal.add_tree-add_forest-requires
add_tree-add_forest-requires t c =
    let tree = c.args.spot.now.tree in
    let children : c.enter-below.result.forest ≡ tree.children = ap (λ (spots : PlainSpots). spots.forest) c.enter-below.ensures.children in
    let room = room_below_node (depth_of tree.children) (shown_host c.args.host tree.fields) tree.fields (room_shown (depth_of tree.children + 1) c.args.host tree.fields c.requires.room) c.requires.frame in
    let below : c.host_below-host_below.result ≡ option_map (λ host. host_inside host tree.fields) (shown_host c.args.host tree.fields) =
    c.host_below-host_below.ensures ∙ ap (option_map (λ host. host_inside host tree.fields)) c.shown_host-host.ensures in (
      rw children (omega arith),
      (c.requires.rise, (rw children c.requires.frames, rw (children, below) room)),
    )

pub add_tree-returns-clause-found : goal.add_tree-returns-clause-found
add_tree-returns-clause-found t c =
    let tree = c.args.spot.now.tree in
    let test = skips c.args.skip.now c.args.spot.now.stamps in
    let between : Found = record { sites = c.add_site-2.new.sites; skipped = c.args.found.now.skipped } in
    let isnt : test tree.fields ≡ false = sym c.skips.ensures.skips ∙ c.if-skips.false in
    let low : 1 ≤ tree.fields.fields.tag = subst (λ tag. 1 ≤ tag) c.tag-tag.ensures.tag c.tag-tag.ensures.low in
    let below : c.host_below-host_below.result ≡ option_map (λ host. host_inside host tree.fields) (shown_host c.args.host tree.fields) =
    c.host_below-host_below.ensures ∙ ap (option_map (λ host. host_inside host tree.fields)) c.shown_host-host.ensures in
    let sites = subst (λ host. IsAdded c.args.found.now.sites.items (shown_site host tree.fields) between.sites.items) c.shown_host-host.ensures c.in_ok-add_site.ensures.sites in
    on_ok_weaker c.add_forest.result
    (λ found. found_entered test c.args.host c.host_below-host_below.result tree c.args.found.now between c.add_forest.new.found isnt low below sites (c.in_ok-add_site.ensures.marked test (sym isnt)) refl
    (subst (λ (spots : PlainSpots). HasFound (skips c.args.skip.now spots.stamps) c.host_below-host_below.result spots.forest between c.add_forest.new.found) c.enter-below.ensures.children found))
    c.add_forest.ensures.found

pub add_tree-returns-clause-entered : goal.add_tree-returns-clause-entered
add_tree-returns-clause-entered t c =
    let tree = c.args.spot.now.tree in
    let test = skips c.args.skip.now c.args.spot.now.stamps in
    on_ok_weaker c.add_forest.result
    (λ entered. entered_own test tree c.args.walk.now c.enter-below.new.self c.add_forest.new.walk (sym c.skips.ensures.skips ∙ c.if-skips.false) (c.enter-below.ensures.counted ∙ ap (λ walk. entered_more walk 1) c.skips.ensures.same)
    (subst (λ (spots : PlainSpots). c.add_forest.new.walk ≡ entered_more c.enter-below.new.self (count_outside (skips c.args.skip.now spots.stamps) spots.forest)) c.enter-below.ensures.children entered))
    c.add_forest.ensures.entered
