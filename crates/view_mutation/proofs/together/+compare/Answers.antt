use Rattle.std.proofs.Common.{◌≡◌, ◌+◌, [], ◌∷◌, max, Bool, true, false, Ok, Err, rules, arith, refl, subst, ap, sym, ◌∙◌}
use Rattle.std.specs.Option.{option_map}
use Rattle.std.specs.Prelude.{Option, Result, IfOk, IsTrue}
use Rattle.shadow_node.specs.Entered.{count_outside}
use Rattle.shadow_node.specs.Forest.{PlainNode, none, node, node_count, depth_of, forest_of}
use Rattle.shadow_node.specs.Fields.{SettledFields}
use Rattle.shadow_node.specs.Pruned.{pruned}
use Rattle.tree_settle.specs.Limits.{AreFramesInBounds}
use Rattle.view_flatten.specs.declared.sites.Host.{Host}
use Rattle.view_flatten.specs.Placed.{IsSameWalk}
use Rattle.view_flatten.specs.Sites.{HasRoomBelow, host_inside, shown_host, shown_site, shown_sites}
use Rattle.view_flatten.specs.Walks.{PlainSpots, PlainWalk, entered_more}
use Rattle.view_flatten.proofs.Added.{entered_both, entered_not, entered_own, room_at_node, room_below_node, room_for_less, room_shown}
use Rattle.view_mutation.specs.Together.{AreOneParent, ArePaired, AreCompared, StandAlike, kept_by, unchanged_by}
use Rattle.view_mutation.proofs.Compared.{one_parent_inside, one_shown_parent}
use Rattle.view_mutation.proofs.ComparedTrees.{AreComparedBelow, by_same_walk, for_same_walk, paired_below, paired_first, paired_here, paired_later, compared_at_end, compared_entered, compared_kept, compared_trees}
use Rattle.view_mutation.proofs.together.+compare.Goals as goal

-- what follows from a clause on a call that is returned as it is, where it answers true
if_all : {E P Q : Type 0} (r : Result Bool E) → (P → Q) → IfOk r (λ all. IsTrue all → P) → IfOk r (λ all. IsTrue all → Q)
if_all (Ok all) f h = λ is. f (h is)
if_all (Err e) f h = tt

-- what holds whatever it answers
if_any : {E P : Type 0} (r : Result Bool E) → P → IfOk r (λ all. IsTrue all → P)
if_any (Ok all) p = λ is. p
if_any (Err e) p = tt

-- room for a tree alone is room for the node and what lies below it
own_room : (tree : PlainNode SettledFields) (host : Option Host) → HasRoomBelow (depth_of (forest_of (tree ∷ []))) host → HasRoomBelow (depth_of tree.children + 1) host
own_room tree host = room_for_less (depth_of tree.children + 1) (depth_of (forest_of (tree ∷ []))) host (omega arith)

pub compare_forest-loop-is-init : goal.compare_forest-loop-is-init
compare_forest-loop-is-init t c =
    let k = kept_by c.args.new.now c.args.base in
    let u = unchanged_by c.args.new.now c.args.base in
    let same : c.into_iter-is-iterator.result ≡ c.args.are = c.into_iter-is-iterator.ensures.into_iter_gives in
    let forest : c.into_iter-is-iterator.result.forest ≡ c.args.are.forest = ap (λ (spots : PlainSpots). spots.forest) same in
    let counts : node_count c.into_iter-is-iterator.result.forest ≡ node_count c.args.are.forest = ap node_count forest in
    record {
      can_next = tt;
      is_finite = search rules;
      stamps = ap (λ (spots : PlainSpots). spots.stamps) same ∙ c.requires.stamps;
      compared = λ list h. subst (λ are. AreComparedBelow k u c.args.hosts.was c.args.hosts.is c.args.were.forest are c.args.list.now list) forest h;
      pairs = subst (λ are. ArePaired k u c.args.were.forest are) (sym forest) c.requires.pairs;
      old_entered = refl;
      new_entered = ap (λ are. entered_more c.args.new.now (count_outside u are)) forest;
      old_same = record { forest = refl; stamps = refl };
      new_same = record { forest = refl; stamps = refl };
      within = omega (arith, counts);
      old_room = c.requires.old_room;
      new_room = subst (λ are. HasRoomBelow (depth_of are) c.args.hosts.is) (sym forest) c.requires.new_room;
      old_frames = c.requires.old_frames;
      new_frames = subst AreFramesInBounds (sym forest) c.requires.new_frames;
    }

pub compare_forest-compare_tree-requires : goal.compare_forest-compare_tree-requires
compare_forest-compare_tree-requires t c =
    let invariant = c.loop-is.invariant in
    let olds = c.in-Some-next.ensures.steps in
    let news = c.in-Some.ensures.steps in
    let was = c.in-Some-next.was.tree in
    let is = c.in-Some.is'.tree in
    let were = c.next-in-loop-is.new.self.forest in
    let are = c.next.new.self.forest in
    let k = kept_by c.args.new.now c.args.base in
    let u = unchanged_by c.args.new.now c.args.base in
    let pairs : ArePaired k u (node was.fields was.children were) (node is.fields is.children are) =
    subst (λ old. ArePaired k u old (node is.fields is.children are)) olds.first (subst (λ new. ArePaired k u c.loop-is.were.forest new) news.first invariant.pairs) in
    let counts : node_count c.loop-is.is-iterator.forest ≡ node_count is.children + node_count are + 1 = ap node_count news.first in
    let old_depths : depth_of c.loop-is.were.forest ≡ max (depth_of was.children + 1) (depth_of were) = ap depth_of olds.first in
    let new_depths : depth_of c.loop-is.is-iterator.forest ≡ max (depth_of is.children + 1) (depth_of are) = ap depth_of news.first in
    let old_frames = subst AreFramesInBounds olds.first invariant.old_frames in
    let new_frames = subst AreFramesInBounds news.first invariant.new_frames in (
      omega (arith, counts, invariant.within),
      (
        news.spot ∙ invariant.stamps ∙ sym invariant.new_same.stamps,
        (
          for_same_walk c.args.new.now c.loop-is.new c.args.base invariant.new_same (λ k u. ArePaired k u (forest_of (was ∷ [])) (forest_of (is ∷ [])))
              (paired_first k u was is were are pairs),
          (
            c.requires.parent,
            (
              (old_frames.0, old_frames.1, tt),
              (
                (new_frames.0, new_frames.1, tt),
                (
                  room_for_less (depth_of (forest_of (was ∷ []))) (depth_of c.loop-is.were.forest) c.args.hosts.was (omega (arith, old_depths)) invariant.old_room,
                  room_for_less (depth_of (forest_of (is ∷ []))) (depth_of c.loop-is.is-iterator.forest) c.args.hosts.is (omega (arith, new_depths)) invariant.new_room,
                ),
              ),
            ),
          ),
        ),
      ),
    )

pub compare_forest-loop-is-preserved : goal.compare_forest-loop-is-preserved
compare_forest-loop-is-preserved t c =
    let invariant = c.loop-is.invariant in
    let olds = c.in-Some-next.ensures.steps in
    let news = c.in-Some.ensures.steps in
    let was = c.in-Some-next.was.tree in
    let is = c.in-Some.is'.tree in
    let were = c.next-in-loop-is.new.self.forest in
    let are = c.next.new.self.forest in
    let was_in = c.args.hosts.was in
    let is_in = c.args.hosts.is in
    let k = kept_by c.args.new.now c.args.base in
    let u = unchanged_by c.args.new.now c.args.base in
    let all : IsTrue c.in_ok-compare_tree.field-0 = c.if-not-branch.false in
    let said = c.in_ok-compare_tree.ensures in
    let pairs : ArePaired k u (node was.fields was.children were) (node is.fields is.children are) =
    subst (λ old. ArePaired k u old (node is.fields is.children are)) olds.first (subst (λ new. ArePaired k u c.loop-is.were.forest new) news.first invariant.pairs) in
    let counts : node_count c.loop-is.is-iterator.forest ≡ node_count is.children + node_count are + 1 = ap node_count news.first in
    let old_depths : depth_of c.loop-is.were.forest ≡ max (depth_of was.children + 1) (depth_of were) = ap depth_of olds.first in
    let new_depths : depth_of c.loop-is.is-iterator.forest ≡ max (depth_of is.children + 1) (depth_of are) = ap depth_of news.first in
    let old_frames = subst AreFramesInBounds olds.first invariant.old_frames in
    let new_frames = subst AreFramesInBounds news.first invariant.new_frames in
    let here : AreComparedBelow k u was_in is_in (forest_of (was ∷ [])) (forest_of (is ∷ [])) c.loop-is.list c.compare_tree.new.list =
    by_same_walk c.args.new.now c.loop-is.new c.args.base invariant.new_same
    (λ k u. AreComparedBelow k u was_in is_in (forest_of (was ∷ [])) (forest_of (is ∷ [])) c.loop-is.list c.compare_tree.new.list) (said.compared all) in
    let old_here : c.compare_tree.new.old ≡ entered_more c.loop-is.old (count_outside k (forest_of (was ∷ []))) =
    by_same_walk c.args.new.now c.loop-is.new c.args.base invariant.new_same
    (λ k u. c.compare_tree.new.old ≡ entered_more c.loop-is.old (count_outside k (forest_of (was ∷ [])))) (said.old_entered all) in
    let new_here : c.compare_tree.new.new ≡ entered_more c.loop-is.new (count_outside u (forest_of (is ∷ []))) =
    by_same_walk c.args.new.now c.loop-is.new c.args.base invariant.new_same
    (λ k u. c.compare_tree.new.new ≡ entered_more c.loop-is.new (count_outside u (forest_of (is ∷ [])))) (said.new_entered all) in
    record {
      can_next = tt;
      is_finite = search rules;
      stamps = news.stamps ∙ invariant.stamps;
      compared = λ list h.
          invariant.compared list
          (subst (λ old. AreComparedBelow k u was_in is_in old c.loop-is.is-iterator.forest c.loop-is.list list) (sym olds.first)
          (subst (λ new. AreComparedBelow k u was_in is_in (node was.fields was.children were) new c.loop-is.list list) (sym news.first)
          (compared_trees k u was_in is_in was is were are c.loop-is.list c.compare_tree.new.list list here h)));
      pairs = paired_later k u was is were are pairs;
      old_entered =
          entered_both k was were c.loop-is.old c.compare_tree.new.old old_here
          ∙ ap (λ forest. entered_more c.loop-is.old (count_outside k forest)) (sym olds.first) ∙ invariant.old_entered;
      new_entered =
          entered_both u is are c.loop-is.new c.compare_tree.new.new new_here
          ∙ ap (λ forest. entered_more c.loop-is.new (count_outside u forest)) (sym news.first) ∙ invariant.new_entered;
      old_same = record { forest = said.old_same.forest ∙ invariant.old_same.forest; stamps = said.old_same.stamps ∙ invariant.old_same.stamps };
      new_same = record { forest = said.new_same.forest ∙ invariant.new_same.forest; stamps = said.new_same.stamps ∙ invariant.new_same.stamps };
      within = omega (arith, counts, invariant.within);
      old_room = room_for_less (depth_of were) (depth_of c.loop-is.were.forest) was_in (omega (arith, old_depths)) invariant.old_room;
      new_room = room_for_less (depth_of are) (depth_of c.loop-is.is-iterator.forest) is_in (omega (arith, new_depths)) invariant.new_room;
      old_frames = old_frames.2;
      new_frames = new_frames.2;
    }

pub compare_forest-returns-in-None-next-clause-compared : goal.compare_forest-returns-in-None-next-clause-compared
compare_forest-returns-in-None-next-clause-compared t c =
    let k = kept_by c.args.new.now c.args.base in
    let u = unchanged_by c.args.new.now c.args.base in
    let was_in = c.args.hosts.was in
    let is_in = c.args.hosts.is in
    let list = c.loop-is.list in
    λ _.
    c.loop-is.invariant.compared list
    (subst (λ old. AreComparedBelow k u was_in is_in old c.loop-is.is-iterator.forest list list) (sym c.in-None-next.ensures.steps.first)
    (subst (λ new. AreComparedBelow k u was_in is_in none new list list) (sym c.in-None.ensures.steps.first) (compared_at_end k u was_in is_in list)))

pub compare_tree-compare_kept-requires-clause-same : goal.compare_tree-compare_kept-requires-clause-same
compare_tree-compare_kept-requires-clause-same t c =
    let tags : c.tag.result ≡ c.tag-2.result = search rules in
    (paired_here (kept_by c.args.new.now c.args.base) (unchanged_by c.args.new.now c.args.base) c.args.was.now.tree c.args.is.now.tree none none c.requires.pairs
    (sym c.tag.ensures.tag ∙ tags ∙ c.tag-2.ensures.tag)).same (sym c.is_unchanged.ensures.unchanged ∙ c.if-is_unchanged.true)

pub compare_tree-returns-then-is_unchanged-clause-compared : goal.compare_tree-returns-then-is_unchanged-clause-compared
compare_tree-returns-then-is_unchanged-clause-compared t c =
    let k = kept_by c.args.new.now c.args.base in
    let u = unchanged_by c.args.new.now c.args.base in
    let was = c.args.was.now.tree in
    let is = c.args.is.now.tree in
    let tags : c.tag.result ≡ c.tag-2.result = search rules in
    let pair = paired_here k u was is none none c.requires.pairs (sym c.tag.ensures.tag ∙ tags ∙ c.tag-2.ensures.tag) in
    let unchanged : u is.fields ≡ true = sym c.is_unchanged.ensures.unchanged ∙ c.if-is_unchanged.true in
    if_all c.compare_kept.result
    (compared_kept k u c.args.hosts.was c.args.hosts.is was is c.args.list.now c.compare_kept.new.list (pair.skipped ∙ unchanged) unchanged) c.compare_kept.ensures

pub compare_tree-returns-then-is_unchanged-clause-old_entered : goal.compare_tree-returns-then-is_unchanged-clause-old_entered
compare_tree-returns-then-is_unchanged-clause-old_entered t c =
    let k = kept_by c.args.new.now c.args.base in
    let u = unchanged_by c.args.new.now c.args.base in
    let was = c.args.was.now.tree in
    let is = c.args.is.now.tree in
    let tags : c.tag.result ≡ c.tag-2.result = search rules in
    let pair = paired_here k u was is none none c.requires.pairs (sym c.tag.ensures.tag ∙ tags ∙ c.tag-2.ensures.tag) in
    if_any c.compare_kept.result
    (entered_not k was c.args.old.now (pair.skipped ∙ sym c.is_unchanged.ensures.unchanged ∙ c.if-is_unchanged.true))

pub compare_tree-returns-then-is_unchanged-clause-new_entered : goal.compare_tree-returns-then-is_unchanged-clause-new_entered
compare_tree-returns-then-is_unchanged-clause-new_entered t c =
    let u = unchanged_by c.args.new.now c.args.base in
    if_any c.compare_kept.result
    (c.is_unchanged.ensures.same ∙ entered_not u c.args.is.now.tree c.args.new.now (sym c.is_unchanged.ensures.unchanged ∙ c.if-is_unchanged.true))

pub compare_tree-add_own-requires-clause-old_place : goal.compare_tree-add_own-requires-clause-old_place
compare_tree-add_own-requires-clause-old_place t c =
    let tree = c.args.was.now.tree in
    subst (HasRoomBelow 1) (sym c.shown-hosts.ensures.old)
    (room_at_node (depth_of tree.children) c.args.hosts.was tree.fields (own_room tree c.args.hosts.was c.requires.old_room))

pub compare_tree-add_own-requires-clause-new_place : goal.compare_tree-add_own-requires-clause-new_place
compare_tree-add_own-requires-clause-new_place t c =
    let tree = c.args.is.now.tree in
    subst (HasRoomBelow 1) (sym c.shown-hosts.ensures.new)
    (room_at_node (depth_of tree.children) c.args.hosts.is tree.fields (own_room tree c.args.hosts.is c.requires.new_room))

pub compare_tree-host_below-requires-clause-place : goal.compare_tree-host_below-requires-clause-place
compare_tree-host_below-requires-clause-place t c =
    let tree = c.args.was.now.tree in
    subst (HasRoomBelow 1) (sym c.shown-hosts.ensures.old)
    (room_at_node (depth_of tree.children) c.args.hosts.was tree.fields (own_room tree c.args.hosts.was c.requires.old_room))

pub compare_tree-host_below-requires-2-clause-place : goal.compare_tree-host_below-requires-2-clause-place
compare_tree-host_below-requires-2-clause-place t c =
    let tree = c.args.is.now.tree in
    subst (HasRoomBelow 1) (sym c.shown-hosts.ensures.new)
    (room_at_node (depth_of tree.children) c.args.hosts.is tree.fields (own_room tree c.args.hosts.is c.requires.new_room))

pub compare_tree-compare_forest-requires : goal.compare_tree-compare_forest-requires
compare_tree-compare_forest-requires t c =
    let k = kept_by c.args.new.now c.args.base in
    let u = unchanged_by c.args.new.now c.args.base in
    let was = c.args.was.now.tree in
    let is = c.args.is.now.tree in
    let was_in = shown_host c.args.hosts.was was.fields in
    let is_in = shown_host c.args.hosts.is is.fields in
    let alike : StandAlike was.fields is.fields = c.stand_alike.ensures c.if-not-stand_alike.false in
    let entered : c.enter-are.new.self ≡ entered_more c.args.new.now 1 = c.enter-are.ensures.counted ∙ ap (λ walk. entered_more walk 1) c.is_unchanged.ensures.same in
    let same : IsSameWalk c.args.new.now c.enter-are.new.self = record { forest = ap (λ (walk : PlainWalk). walk.forest) entered; stamps = ap (λ (walk : PlainWalk). walk.stamps) entered } in
    let were : c.enter-were.result.forest ≡ was.children = ap (λ (spots : PlainSpots). spots.forest) c.enter-were.ensures.children in
    let are : c.enter-are.result.forest ≡ is.children = ap (λ (spots : PlainSpots). spots.forest) c.enter-are.ensures.children in
    let old_in : c.host_below.result ≡ option_map (λ host. host_inside host was.fields) was_in =
    c.host_below.ensures ∙ ap (option_map (λ host. host_inside host was.fields)) c.shown-hosts.ensures.old in
    let new_in : c.host_below-2.result ≡ option_map (λ host. host_inside host is.fields) is_in =
    c.host_below-2.ensures ∙ ap (option_map (λ host. host_inside host is.fields)) c.shown-hosts.ensures.new in
    let old_room = room_below_node (depth_of was.children) was_in was.fields
    (room_shown (depth_of was.children + 1) c.args.hosts.was was.fields (own_room was c.args.hosts.was c.requires.old_room)) c.requires.old_frames.0 in
    let new_room = room_below_node (depth_of is.children) is_in is.fields
    (room_shown (depth_of is.children + 1) c.args.hosts.is is.fields (own_room is c.args.hosts.is c.requires.new_room)) c.requires.new_frames.0 in (
      rw are (omega arith),
      (
        ap (λ (spots : PlainSpots). spots.stamps) c.enter-are.ensures.children ∙ c.requires.stamps ∙ sym same.stamps,
        (
          for_same_walk c.args.new.now c.enter-are.new.self c.args.base same (λ k u. ArePaired k u c.enter-were.result.forest c.enter-are.result.forest)
              (subst (λ old. ArePaired k u old c.enter-are.result.forest) (sym were)
              (subst (λ new. ArePaired k u was.children new) (sym are) (paired_below k u was is none none c.requires.pairs))),
          (
            subst (λ host. AreOneParent host c.host_below-2.result) (sym old_in)
                (subst (λ host. AreOneParent (option_map (λ host. host_inside host was.fields) was_in) host) (sym new_in)
                (one_parent_inside was.fields is.fields alike was_in is_in (one_shown_parent was.fields is.fields alike c.args.hosts.was c.args.hosts.is c.requires.parent))),
            (
              rw were c.requires.old_frames.1,
              (rw are c.requires.new_frames.1, (rw (were, old_in) old_room, rw (are, new_in) new_room)),
            ),
          ),
        ),
      ),
    )

pub compare_tree-returns-clause-compared : goal.compare_tree-returns-clause-compared
compare_tree-returns-clause-compared t c =
    let k = kept_by c.args.new.now c.args.base in
    let u = unchanged_by c.args.new.now c.args.base in
    let was = c.args.was.now.tree in
    let is = c.args.is.now.tree in
    let was_in = shown_host c.args.hosts.was was.fields in
    let is_in = shown_host c.args.hosts.is is.fields in
    let middle = c.add_own.new.list in
    let after = c.compare_forest.new.list in
    let tags : c.tag.result ≡ c.tag-2.result = search rules in
    let pair = paired_here k u was is none none c.requires.pairs (sym c.tag.ensures.tag ∙ tags ∙ c.tag-2.ensures.tag) in
    let changed : u is.fields ≡ false = sym c.is_unchanged.ensures.unchanged ∙ c.if-is_unchanged.false in
    let entered : c.enter-are.new.self ≡ entered_more c.args.new.now 1 = c.enter-are.ensures.counted ∙ ap (λ walk. entered_more walk 1) c.is_unchanged.ensures.same in
    let same : IsSameWalk c.args.new.now c.enter-are.new.self = record { forest = ap (λ (walk : PlainWalk). walk.forest) entered; stamps = ap (λ (walk : PlainWalk). walk.stamps) entered } in
    let were : c.enter-were.result.forest ≡ was.children = ap (λ (spots : PlainSpots). spots.forest) c.enter-were.ensures.children in
    let are : c.enter-are.result.forest ≡ is.children = ap (λ (spots : PlainSpots). spots.forest) c.enter-are.ensures.children in
    let old_in : c.host_below.result ≡ option_map (λ host. host_inside host was.fields) was_in =
    c.host_below.ensures ∙ ap (option_map (λ host. host_inside host was.fields)) c.shown-hosts.ensures.old in
    let new_in : c.host_below-2.result ≡ option_map (λ host. host_inside host is.fields) is_in =
    c.host_below-2.ensures ∙ ap (option_map (λ host. host_inside host is.fields)) c.shown-hosts.ensures.new in
    let own : AreCompared (shown_site was_in was.fields) (shown_site is_in is.fields) c.args.list.now middle =
    subst (λ host. AreCompared (shown_site host was.fields) (shown_site is_in is.fields) c.args.list.now middle) c.shown-hosts.ensures.old
    (subst (λ host. AreCompared (shown_site c.shown-hosts.result.was was.fields) (shown_site host is.fields) c.args.list.now middle) c.shown-hosts.ensures.new c.in_ok-add_own.ensures) in
    if_all c.compare_forest.result
    (λ below.
    compared_entered k u c.args.hosts.was c.args.hosts.is was is c.args.list.now middle after (pair.skipped ∙ changed) changed own
    (subst (λ sites. AreCompared sites (shown_sites (option_map (λ host. host_inside host is.fields) is_in) (pruned u is.children)) middle after) (λ i. shown_sites (old_in i) (pruned k (were i)))
    (subst (λ sites. AreCompared (shown_sites c.host_below.result (pruned k c.enter-were.result.forest)) sites middle after) (λ i. shown_sites (new_in i) (pruned u (are i)))
    (by_same_walk c.args.new.now c.enter-are.new.self c.args.base same
    (λ k u. AreCompared (shown_sites c.host_below.result (pruned k c.enter-were.result.forest)) (shown_sites c.host_below-2.result (pruned u c.enter-are.result.forest)) middle after) below))))
    c.compare_forest.ensures.compared

pub compare_tree-returns-clause-old_entered : goal.compare_tree-returns-clause-old_entered
compare_tree-returns-clause-old_entered t c =
    let k = kept_by c.args.new.now c.args.base in
    let u = unchanged_by c.args.new.now c.args.base in
    let was = c.args.was.now.tree in
    let is = c.args.is.now.tree in
    let tags : c.tag.result ≡ c.tag-2.result = search rules in
    let pair = paired_here k u was is none none c.requires.pairs (sym c.tag.ensures.tag ∙ tags ∙ c.tag-2.ensures.tag) in
    let changed : u is.fields ≡ false = sym c.is_unchanged.ensures.unchanged ∙ c.if-is_unchanged.false in
    let entered : c.enter-are.new.self ≡ entered_more c.args.new.now 1 = c.enter-are.ensures.counted ∙ ap (λ walk. entered_more walk 1) c.is_unchanged.ensures.same in
    let same : IsSameWalk c.args.new.now c.enter-are.new.self = record { forest = ap (λ (walk : PlainWalk). walk.forest) entered; stamps = ap (λ (walk : PlainWalk). walk.stamps) entered } in
    let were : c.enter-were.result.forest ≡ was.children = ap (λ (spots : PlainSpots). spots.forest) c.enter-were.ensures.children in
    if_all c.compare_forest.result
    (λ below.
    entered_own k was c.args.old.now c.enter-were.new.self c.compare_forest.new.old (pair.skipped ∙ changed) c.enter-were.ensures.counted
    (subst (λ forest. c.compare_forest.new.old ≡ entered_more c.enter-were.new.self (count_outside k forest)) were
    (by_same_walk c.args.new.now c.enter-are.new.self c.args.base same
    (λ k u. c.compare_forest.new.old ≡ entered_more c.enter-were.new.self (count_outside k c.enter-were.result.forest)) below)))
    c.compare_forest.ensures.old_entered

pub compare_tree-returns-clause-new_entered : goal.compare_tree-returns-clause-new_entered
compare_tree-returns-clause-new_entered t c =
    let u = unchanged_by c.args.new.now c.args.base in
    let is = c.args.is.now.tree in
    let changed : u is.fields ≡ false = sym c.is_unchanged.ensures.unchanged ∙ c.if-is_unchanged.false in
    let entered : c.enter-are.new.self ≡ entered_more c.args.new.now 1 = c.enter-are.ensures.counted ∙ ap (λ walk. entered_more walk 1) c.is_unchanged.ensures.same in
    let same : IsSameWalk c.args.new.now c.enter-are.new.self = record { forest = ap (λ (walk : PlainWalk). walk.forest) entered; stamps = ap (λ (walk : PlainWalk). walk.stamps) entered } in
    let are : c.enter-are.result.forest ≡ is.children = ap (λ (spots : PlainSpots). spots.forest) c.enter-are.ensures.children in
    if_all c.compare_forest.result
    (λ below.
    entered_own u is c.args.new.now c.enter-are.new.self c.compare_forest.new.new changed entered
    (subst (λ forest. c.compare_forest.new.new ≡ entered_more c.enter-are.new.self (count_outside u forest)) are
    (by_same_walk c.args.new.now c.enter-are.new.self c.args.base same
    (λ k u. c.compare_forest.new.new ≡ entered_more c.enter-are.new.self (count_outside u c.enter-are.result.forest)) below)))
    c.compare_forest.ensures.new_entered
