use Rattle.std.proofs.Common.{◌≡◌, ◌≢◌, ◌+◌, ◌∙◌, Some, sym, ap, subst}
use Rattle.std.proofs.lemmas.Bool.{false≢true}
use Rattle.shadow_kinds.specs.Traits.{is_hidden_of}
use Rattle.shadow_node.specs.Find.{first_settled}
use Rattle.shadow_node.specs.Stamps.{all_stamped}
use Rattle.clone_path.proofs.Limits.{if_ok_is}
use Rattle.tree_revision.specs.ForestStamps.{HasTagsOf, AreStampsAfter}
use Rattle.tree_revision.specs.Unchanged.{is_same_fields}
use Rattle.tree_revision.proofs.Alike.{same_fields}
use Rattle.tree_revision.proofs.EditedStamps.{stamps_stay}
use Rattle.tree_revision.proofs.Kept.{same_flags}
use Rattle.tree_revision.proofs.after.stamps_after_edit.Goals as goal

pub returns-then-has_same_fields : goal.returns-then-has_same_fields
returns-then-has_same_fields c =
    let front = c.args.front.now in
    let was = c.in-Some-Some.was.now.value in
    let now = c.in-Some-Some.now.now.value in
    let in_old : first_settled c.args.tag front.forest ≡ Some was = sym (c.in-Some-Some.ensures ∙ ap (λ r. first_settled c.args.tag r.forest) c.front.view_is) in
    let in_new : first_settled c.args.tag c.args.edited.now ≡ Some now = sym c.in-Some-Some.ensures' in
    let test : c.has_same_fields.result ≡ is_same_fields was.fields now.fields = rw (c.deref.ensures, c.deref-in-Some-Some.ensures) at c.has_same_fields.ensures in
    let same = c.requires.change.same was now in_old in_new ((same_fields was.fields now.fields).0 (sym test ∙ c.if-has_same_fields.true)) in
    let mounted = subst (λ r. HasTagsOf r.stamps r.forest) c.front.view_is c.front.invariant.stamps in
    if_ok_is (AreStampsAfter front.forest c.args.forest.now front.stamps (front.number + 1)) c.share.result c.front.inside.stamps c.share.ensures
    (subst (λ r. AreStampsAfter front.forest c.args.forest.now front.stamps (front.number + 1) r.stamps) (sym c.front.view_is)
    (stamps_stay front.forest c.args.forest.now front.stamps (front.number + 1) mounted same))

pub returns-then-is_hidden : goal.returns-then-is_hidden
returns-then-is_hidden c =
    let front = c.args.front.now in
    let was = c.in-Some-Some.was.now.value in
    let now = c.in-Some-Some.now.now.value in
    let in_old : first_settled c.args.tag front.forest ≡ Some was = sym (c.in-Some-Some.ensures ∙ ap (λ r. first_settled c.args.tag r.forest) c.front.view_is) in
    let in_new : first_settled c.args.tag c.args.edited.now ≡ Some now = sym c.in-Some-Some.ensures' in
    let test : c.has_same_fields.result ≡ is_same_fields was.fields now.fields = rw (c.deref.ensures, c.deref-in-Some-Some.ensures) at c.has_same_fields.ensures in
    let differs : was.fields ≢ now.fields = λ e. false≢true (sym (sym test ∙ c.if-has_same_fields.false) ∙ (same_fields was.fields now.fields).1 e) in
    let was_hidden = c.is_hidden.ensures ∙ ap is_hidden_of (c.props.ensures.props ∙ ap (λ tree. tree.fields.fields.props) c.deref-in-Some-Some-2.ensures) in
    let now_hidden = c.is_hidden-in-Some-Some.ensures ∙ ap is_hidden_of (c.props-in-Some-Some.ensures.props ∙ ap (λ tree. tree.fields.fields.props) c.deref-in-Some-Some-3.ensures) in
    let hidden = sym was_hidden ∙ same_flags _ _ c.if-is_hidden.true ∙ now_hidden in
    if_ok_is (AreStampsAfter front.forest c.args.forest.now front.stamps (front.number + 1)) c.with_each.result (all_stamped c.front.inside.stamps (c.front.inside.number + 1) c.args.tags.now) c.with_each.ensures
    (subst (λ r. AreStampsAfter front.forest c.args.forest.now front.stamps (front.number + 1) (all_stamped r.stamps (r.number + 1) c.args.tags.now)) (sym c.front.view_is)
    (c.requires.change.other was now in_old in_new differs hidden))
