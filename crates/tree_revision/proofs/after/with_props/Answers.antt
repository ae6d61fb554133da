use Rattle.std.proofs.Common.{◌≡◌, ◌+◌, ◌++◌, ◌∙◌, Some, None, cond, is_some, sym, ap, subst, arith}
use Rattle.std.specs.Option.{option_map}
use Rattle.native_state.specs.Families.{cell_in}
use Rattle.shadow_node.specs.Fields.{SettledFields, contents_of}
use Rattle.shadow_node.specs.Find.{first_settled, way_to}
use Rattle.shadow_node.specs.Frames.{settled_forest}
use Rattle.shadow_node.proofs.Maps.{depth_of-forest_map}
use Rattle.clone_path.specs.Changed.{forest_edited_at}
use Rattle.tree_settle.specs.Along.{changed_tags}
use Rattle.tree_settle.specs.Limits.{AreFramesInBounds}
use Rattle.tree_revision.specs.Steps.{AreCountsWithin}
use Rattle.tree_revision.specs.ForestStamps.{AreStampsAfter}
use Rattle.tree_revision.specs.Unchanged.{IsChangeAt}
use Rattle.tree_revision.specs.declared.record.Cancel.TheVariants.{NotMounted}
use Rattle.tree_revision.proofs.Along.{path_found}
use Rattle.tree_revision.proofs.EditedStamps.{change_at}
use Rattle.tree_revision.proofs.EditedWay.{but_edited, frames_edited, way_edited}
use Rattle.tree_revision.proofs.Refused.{props_mounted}
use Rattle.tree_revision.proofs.Unsettled.{settled_again, settled_surface}
use Rattle.tree_revision.proofs.Within.{counts_more}
use Rattle.tree_revision.proofs.after.with_props.Goals as goal

pub returns-in_default-clause-cancelled : goal.returns-in_default-clause-cancelled
returns-in_default-clause-cancelled c =
    let tag = c.args.tag in
    let found = c.in_ok-way.field-0 in
    props_mounted tag c.args.front.now.forest (is_some found) (path_found (λ way. way.items) found tag c.front.inside.forest c.in_ok-way.ensures ∙ ap (λ r. is_some (first_settled tag r.forest)) c.front.view_is)
    ∙ ap (λ found. cond (is_some found) None (Some (NotMounted tag))) c.in_default.is

pub returns-clause-uncancelled : goal.returns-clause-uncancelled
returns-clause-uncancelled c =
    let tag = c.args.tag in
    let found = c.in_ok-way.field-0 in
    props_mounted tag c.args.front.now.forest (is_some found) (path_found (λ way. way.items) found tag c.front.inside.forest c.in_ok-way.ensures ∙ ap (λ r. is_some (first_settled tag r.forest)) c.front.view_is)
    ∙ ap (λ found. cond (is_some found) None (Some (NotMounted tag))) c.in-Some.is

pub settle_along-requires-clause-depth : goal.settle_along-requires-clause-depth
settle_along-requires-clause-depth c =
    let within = c.in_ok-edited.ensures.within c.front.invariant.forest.within in
    let depth = depth_of-forest_map (λ (settled : SettledFields). settled.fields) c.in_ok-edited.edited in
    omega (arith, depth, within.depth)

pub settle_along-requires-clause-frames : goal.settle_along-requires-clause-frames
settle_along-requires-clause-frames c =
    subst AreFramesInBounds (sym c.in_ok-edited.ensures.forest) (frames_edited c.args.tag c.args.change.now c.front.inside.forest c.front.invariant.forest.frames)

pub settle_along-requires-clause-but : goal.settle_along-requires-clause-but
settle_along-requires-clause-but c =
    let front = c.front.inside in
    let tag = c.args.tag in
    let way = c.deref-3.result.now in
    let leads : way_to tag front.forest ≡ Some way =
    sym c.in_ok-way.ensures ∙ ap (option_map (λ way. way.items)) c.in-Some.is ∙ ap Some (sym c.deref-3.ensures.value) in
    let settled = settled_surface front.size (cell_in front.families) front.forest c.front.invariant.settled in
    let but = but_edited tag c.args.change.now front.size (cell_in front.families) way front.forest c.front.invariant.forest.within.differ settled leads in
    rw (c.in_ok-edited.ensures.forest, c.in_ok-families.ensures) but

pub stamps_after_edit-requires-clause-new_way : goal.stamps_after_edit-requires-clause-new_way
stamps_after_edit-requires-clause-new_way c =
    let front = c.front.inside in
    let tag = c.args.tag in
    ap (way_to tag) c.in_ok-edited.ensures.forest ∙ way_edited tag c.args.change.now front.forest
    ∙ sym c.in_ok-way.ensures ∙ ap (option_map (λ way. way.items)) c.in-Some.is ∙ ap Some (sym c.deref-4.ensures.value)

pub stamps_after_edit-requires-clause-change : goal.stamps_after_edit-requires-clause-change
stamps_after_edit-requires-clause-change c =
    let front = c.front.inside in
    let tag = c.args.tag in
    let way = c.deref-3.result.now in
    let newest = cell_in front.families in
    let is : c.in_ok-edited.edited ≡ forest_edited_at tag c.args.change.now front.forest = c.in_ok-edited.ensures.forest in
    let leads : way_to tag front.forest ≡ Some way =
    sym c.in_ok-way.ensures ∙ ap (option_map (λ way. way.items)) c.in-Some.is ∙ ap Some (sym c.deref-3.ensures.value) in
    let settled : c.in_ok-forest.forest ≡ settled_forest front.size newest (contents_of c.in_ok-edited.edited) = rw c.in_ok-families.ensures at c.in_ok-forest.ensures.forest in
    let listed : c.in_ok-tags.tags.items ≡ way = c.in_ok-tags.ensures.items ∙ c.deref-2.ensures.value ∙ sym c.deref-3.ensures.value in
    let tags : c.deref-5.result.now ≡ way ++ changed_tags front.size newest c.in_ok-edited.edited =
    c.deref-5.ensures.value ∙ c.in_ok-forest.ensures.changed
    ∙ (λ i. listed i ++ changed_tags front.size (cell_in (c.in_ok-families.ensures i)) c.in_ok-edited.edited) in
    subst (λ r. IsChangeAt tag r.forest c.in_ok-edited.edited c.in_ok-forest.forest r.stamps (r.number + 1) c.deref-5.result.now) c.front.view_is
    (change_at front.size newest tag c.args.change.now way front.forest c.front.invariant.forest.within.differ leads
    c.in_ok-forest.forest front.stamps (front.number + 1) c.deref-5.result.now c.front.invariant.stamps c.front.invariant.settled c.in_ok-edited.edited is settled tags)

pub invariant_of-result : goal.invariant_of-result
invariant_of-result c =
    let front = c.front.inside in
    let within = c.in_ok-edited.ensures.within c.front.invariant.forest.within in
    let stamps = subst (λ r. AreStampsAfter r.forest c.in_ok-forest.forest r.stamps (r.number + 1) c.in_ok-stamps.stamps) (sym c.front.view_is) c.in_ok-stamps.ensures in
    record {
      size = c.front.invariant.size;
      forest = c.in_ok-forest.ensures.limits within;
      settled = settled_again front.size (cell_in c.in_ok-families.families) (contents_of c.in_ok-edited.edited) c.in_ok-forest.forest c.in_ok-forest.ensures.forest;
      counts = subst (AreCountsWithin (front.number + 1)) (sym c.in_ok-families.ensures) (counts_more front.number (front.number + 1) front.families (omega arith) c.front.invariant.counts);
      stamps = stamps.mounted;
      first = λ zero. let never : ⊥ = omega arith in absurd never;
    }
