use Rattle.std.proofs.Common.{true, ◌++◌, map, nat_eq, sym, ap, subst, ◌∙◌}
use Rattle.std.specs.List.{IsDistinct}
use Rattle.std.specs.FinMap.{from_entries}
use Rattle.std.proofs.lemmas.Result.{IfOk-weaker}
use Rattle.shadow_node.specs.Stamps.{DoTagsDiffer}
use Rattle.tree_revision.specs.ForestStamps.{AreStampsAfter}
use Rattle.tree_revision.specs.Unchanged.{AreSeenIn, AreStampsIn, tags_upward}
use Rattle.tree_revision.proofs.Seen.{all_seen}
use Rattle.tree_revision.proofs.Upward.{upward_differ, pairs_differ, stamps_made}
use Rattle.tree_revision.proofs.stamping.stamps_after.Goals as goal

pub stamp_all-requires-clause-old : goal.stamp_all-requires-clause-old
stamp_all-requires-clause-old c =
    subst (λ old. AreSeenIn old true old) (ap (λ change. change.old) (sym c.in_ok-stamping.ensures)) (all_seen c.args.old.now c.requires.old)

pub stamp_all-requires-clause-new : goal.stamp_all-requires-clause-new
stamp_all-requires-clause-new c =
    subst (λ new. AreSeenIn new true c.args.new.now) (ap (λ change. change.new) (sym c.in_ok-stamping.ensures)) (all_seen c.args.new.now c.requires.new)

pub of-requires : goal.of-requires
of-requires c =
    let tags = c.in_ok-stamp_all.ensures.tags ∙ (λ i. map (λ pair. pair.0) (c.new-pairs.ensures.items i) ++ tags_upward c.args.new.now) in
    subst DoTagsDiffer (sym c.deref.ensures.value) (pairs_differ _ (subst (IsDistinct nat_eq) (sym tags) (upward_differ c.args.new.now c.requires.new)))

pub returns : goal.returns
returns c =
    let change = c.in_ok-stamping.stamping in
    let tags = c.in_ok-stamp_all.ensures.tags ∙ (λ i. map (λ pair. pair.0) (c.new-pairs.ensures.items i) ++ tags_upward (sym (ap (λ change. change.new) c.in_ok-stamping.ensures) i)) in
    let all = c.in_ok-stamp_all.ensures.stamps (subst (AreStampsIn change) (sym c.new-pairs.ensures.items) tt) in
    let made = subst (λ change. AreStampsAfter change.old change.new change.before change.number (from_entries c.stamp_all.new.pairs.items)) c.in_ok-stamping.ensures (stamps_made change _ tags all) in
    let listed = subst (λ pairs. AreStampsAfter c.args.old.now c.args.new.now c.args.before.now c.args.number (from_entries pairs)) (sym c.deref.ensures.value) made in
    IfOk-weaker c.of.result _ _ (λ stamps is. subst (AreStampsAfter c.args.old.now c.args.new.now c.args.before.now c.args.number) (sym is) listed) c.of.ensures
