use Rattle.std.proofs.Common.{◌≡◌, true, Decides, Some, None, sym, ap, subst, ◌∙◌}
use Rattle.std.specs.Prelude.{unwrap_or}
use Rattle.std.specs.Option.{option_map}
use Rattle.std.specs.FinMap.{get}
use Rattle.std.proofs.lemmas.Bool.{false≢true}
use Rattle.shadow_node.specs.Find.{first_settled}
use Rattle.tree_revision.specs.Unchanged.{seen_below, seen_place, DoTreesStandIn, IsStampIn}
use Rattle.tree_revision.proofs.Alike.{below_stand}
use Rattle.tree_revision.proofs.Kept.{found_place, same_flags, other_flags, decides_first, decides_none, stamp_stays, stamp_begins, stamp_renews}
use Rattle.tree_revision.proofs.stamping.Stamping.stamped.Goals as goal
use Rattle.tree_revision.proofs.stamping.Stamping.stamped.Goals.{else-same-via-then-same+else-was-shown, else-same-via-else-same}

pub returns-in_default-clause-same : goal.returns-in_default-clause-same
returns-in_default-clause-same c =
    let old = c.args.self.now.old in
    let tag = c.args.node.now.fields.fields.tag in
    let gone : seen_below true tag old ≡ None = ap (λ t. seen_below true t old) (sym c.tag-tag.ensures.tag) ∙ sym c.find.ensures ∙ ap (option_map seen_place) c.in_default.is in
    decides_none tag old c.args.node.now gone

pub returns-in_default-clause-stamp : goal.returns-in_default-clause-stamp
returns-in_default-clause-stamp c =
    let change = c.args.self.now in
    let tag = c.args.node.now.fields.fields.tag in
    let gone : seen_below true tag change.old ≡ None = ap (λ t. seen_below true t change.old) (sym c.tag-tag.ensures.tag) ∙ sym c.find.ensures ∙ ap (option_map seen_place) c.in_default.is in
    subst (λ n. IsStampIn change (tag, n)) (sym c.number.ensures) (stamp_begins change.old change.new change.before change.number tag _ gone c.requires.new)

pub returns-then-was-shown-clause-same : goal.returns-then-was-shown-clause-same
returns-then-was-shown-clause-same c =
    let change = c.args.self.now in
    let node = c.args.node.now in
    let tag = node.fields.fields.tag in
    let was = seen_place c.in-Some.was in
    let found = found_place tag c.tag-tag.result change.old c.find.result c.in-Some.was c.tag-tag.ensures.tag c.find.ensures c.in-Some.is in
    let stand = below_stand change.old true tag change.old was c.requires.old found in
    let same : Decides c.is_equal-same.result (was.tree ≡ node) =
    subst (λ tree. DoTreesStandIn change.old tree.children → Decides c.args.below (DoTreesStandIn change.old node.children) → Decides c.is_equal-same.result (tree ≡ node))
    c.deref.ensures (c.is_equal-same.ensures change.old) stand c.requires.below in
    subst (λ b. Decides b (first_settled tag change.old ≡ Some node)) c.if-same.true (decides_first tag change.old was node c.is_equal-same.result found same)

pub returns-then-was-shown-clause-stamp : goal.returns-then-was-shown-clause-stamp
returns-then-was-shown-clause-stamp c =
    let change = c.args.self.now in
    let node = c.args.node.now in
    let tag = node.fields.fields.tag in
    let was = seen_place c.in-Some.was in
    let found = found_place tag c.tag-tag.result change.old c.find.result c.in-Some.was c.tag-tag.ensures.tag c.find.ensures c.in-Some.is in
    let stand = below_stand change.old true tag change.old was c.requires.old found in
    let same : Decides c.is_equal-same.result (was.tree ≡ node) =
    subst (λ tree. DoTreesStandIn change.old tree.children → Decides c.args.below (DoTreesStandIn change.old node.children) → Decides c.is_equal-same.result (tree ≡ node))
    c.deref.ensures (c.is_equal-same.ensures change.old) stand c.requires.below in
    let tree : was.tree ≡ node = same.0 c.if-same.true in
    let shown : was.shown ≡ c.args.shown = same_flags was.shown c.args.shown c.if-was-shown.true in
    let now : seen_below true tag change.new ≡ Some was = c.requires.new ∙ (λ i. Some (record { tree = sym tree i; shown = sym shown i })) in
    let is : c.stamp_before.result ≡ unwrap_or (get change.before tag) change.number = c.stamp_before.ensures ∙ ap (λ t. unwrap_or (get change.before t) change.number) c.tag-tag.ensures.tag in
    subst (λ n. IsStampIn change (tag, n)) (sym is) (stamp_stays change.old change.new change.before change.number tag was c.requires.before found now)

pub returns-else-same-clause-same : goal.returns-else-same-clause-same
returns-else-same-clause-same c =
    let change = c.args.self.now in
    let node = c.args.node.now in
    let tag = node.fields.fields.tag in
    let was = seen_place c.in-Some.was in
    let found = found_place tag c.tag-tag.result change.old c.find.result c.in-Some.was c.tag-tag.ensures.tag c.find.ensures c.in-Some.is in
    let stand = below_stand change.old true tag change.old was c.requires.old found in
    let same : Decides c.is_equal-same.result (was.tree ≡ node) =
    subst (λ tree. DoTreesStandIn change.old tree.children → Decides c.args.below (DoTreesStandIn change.old node.children) → Decides c.is_equal-same.result (tree ≡ node))
    c.deref.ensures (c.is_equal-same.ensures change.old) stand c.requires.below in
    decides_first tag change.old was node c.is_equal-same.result found same

pub returns-else-same-clause-stamp : goal.returns-else-same-clause-stamp
returns-else-same-clause-stamp c =
    let change = c.args.self.now in
    let node = c.args.node.now in
    let tag = node.fields.fields.tag in
    let was = seen_place c.in-Some.was in
    let found = found_place tag c.tag-tag.result change.old c.find.result c.in-Some.was c.tag-tag.ensures.tag c.find.ensures c.in-Some.is in
    let stand = below_stand change.old true tag change.old was c.requires.old found in
    let same : Decides c.is_equal-same.result (was.tree ≡ node) =
    subst (λ tree. DoTreesStandIn change.old tree.children → Decides c.args.below (DoTreesStandIn change.old node.children) → Decides c.is_equal-same.result (tree ≡ node))
    c.deref.ensures (c.is_equal-same.ensures change.old) stand c.requires.below in
    let renewed = λ (differ : was.tree ≡ node → was.shown ≡ c.args.shown → ⊥).
    subst (λ n. IsStampIn change (tag, n)) (sym c.number-else-same.ensures)
    (stamp_renews change.old change.new change.before change.number tag was (record { tree = node; shown = c.args.shown }) found c.requires.new differ) in
    elim c.else-same.branch [
      | else-same-via-then-same+else-was-shown w ↦ renewed (λ tree shown. other_flags was.shown c.args.shown w.if-was-shown.false shown)
      | else-same-via-else-same w ↦ renewed (λ tree shown. false≢true (sym w.if-same.false ∙ same.1 tree))
    ]
