use Rattle.std.proofs.Common.{◌+◌, ◌≤◌, map, ap, sym, subst, ◌∙◌, arith}
use Rattle.std.proofs.lemmas.List.{length-map}
use Rattle.host_views.specs.Plain.{plain_placed}
use Rattle.tree_query.specs.Bounds.{IsPlaceNear}
use Rattle.tree_query.specs.Flattening.{IsFlattening}
use Rattle.tree_query.specs.Search.{HasSearched}
use Rattle.tree_query.specs.declared.hitting.Inside.{Inside}
use Rattle.tree_query.proofs.Near.{AreLinesWithin, lines_more, lines_near, view_within, within_more}
use Rattle.tree_query.proofs.Searches.{seen_before, seen_more}
use Rattle.tree_query.proofs.hitting.hit.Goals as goal

pub add-requires-clause-near : goal.add-requires-clause-near
add-requires-clause-near c = λ tag.
    let views = c.as_slice-views.result.now in
    let kept = c.loop-placed.invariant in
    let k = c.loop-placed.placed-index in
    let flat : IsFlattening (map plain_placed views) = subst (λ list. IsFlattening (map plain_placed list)) (sym c.as_slice-views.ensures) c.requires.tree in
    let few : k ≤ 2000 = omega (arith, c.loop-placed-test.true, flat.count, length-map views plain_placed) in
    subst IsPlaceNear (sym (ap (λ (inside : Inside). inside.begin) (kept.searched.insides tag))) (lines_near k (seen_before views k) few kept.within tag)

pub add-requires-clause-origin : goal.add-requires-clause-origin
add-requires-clause-origin c =
    let views = c.as_slice-views.result.now in
    let flat : IsFlattening (map plain_placed views) = subst (λ list. IsFlattening (map plain_placed list)) (sym c.as_slice-views.ensures) c.requires.tree in
    within_more 5040000000 1152921504606846976 c.placed-item.result.view.value.frame.origin (omega arith)
    (view_within views c.loop-placed.placed-index c.placed-item.result flat c.loop-placed-test.true c.placed-item.is)

pub loop-placed-preserved : goal.loop-placed-preserved
loop-placed-preserved c =
    let views = c.as_slice-views.result.now in
    let k = c.loop-placed.placed-index in
    let d = c.placed-item.result in
    let kept = c.loop-placed.invariant in
    let earlier = seen_before views k in
    let flat : IsFlattening (map plain_placed views) = subst (λ list. IsFlattening (map plain_placed list)) (sym c.as_slice-views.ensures) c.requires.tree in
    let more = seen_more views k d c.loop-placed-test.true c.placed-item.is in
    let near = view_within views k d flat c.loop-placed-test.true c.placed-item.is in
    record {
      at = c.add.ensures.at ∙ kept.at;
      searched = subst (HasSearched c.add.new.self) (sym more) (c.in_ok-add.ensures.searched earlier kept.searched);
      within = subst (AreLinesWithin (k + 1)) (sym more) (lines_more k (plain_placed d) earlier near kept.within);
    }
