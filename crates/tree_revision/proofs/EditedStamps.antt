-- The stamps after a change of the node of one tag.
use Rattle.std.proofs.Common.{◌≡◌, ◌≢◌, ℕ, List, [], ◌++◌, Bool, true, false, cond, not, ◌||◌, Decides, Some, is_some, nat_eq, inl, inr, refl, ap, sym, ◌∙◌, subst}
use Rattle.std.specs.Prelude.{Result, Ok, Err, IfOk}
use Rattle.std.specs.declared.alloc.AllocError.{AllocError}
use Rattle.std.specs.List.{IsDistinct}
use Rattle.std.specs.Option.{option_map}
use Rattle.std.specs.FinMap.{get}
use Rattle.std.proofs.lemmas.Bool.{false≢true}
use Rattle.std.proofs.lemmas.List.Folds.{list_any-append}
use Rattle.shadow_frame.specs.declared.Size.{Size}
use Rattle.native_state.specs.declared.StateCell.{StateCell}
use Rattle.shadow_kinds.specs.Traits.{is_hidden_of}
use Rattle.shadow_node.specs.declared.NodeEdit.{NodeEdit}
use Rattle.shadow_node.specs.Edit.{edited_settled}
use Rattle.shadow_node.specs.Forest.{PlainForest, PlainNode}
use Rattle.shadow_node.specs.Fields.{SettledFields, contents_of, tags_of}
use Rattle.shadow_node.specs.Find.{first_settled, first_with, way_to}
use Rattle.shadow_node.specs.Frames.{settled_forest}
use Rattle.shadow_node.specs.Seen.{Sight, sight_of}
use Rattle.shadow_node.specs.Stamps.{StampMap, all_stamped}
use Rattle.shadow_node.proofs.Found.{contents_of_node, first_with-contents}
use Rattle.clone_path.specs.Changed.{forest_edited_at}
use Rattle.clone_path.proofs.Tags.{all_tags}
use Rattle.tree_settle.specs.Along.{changed_tags}
use Rattle.tree_settle.proofs.Settled.{contents_of-settled, settled_below-in}
use Rattle.tree_revision.specs.ForestStamps.{HasTagsOf, IsStampAfter, AreStampsAfter}
use Rattle.tree_revision.specs.Unchanged.{IsChangeAt}
use Rattle.tree_revision.proofs.Built.{contents_of-forest_edited_at}
use Rattle.tree_revision.proofs.EditedWay.{edited_found, edited_same, edited_tree, first_within, found_edited, found_through, on_way-found, seen_edited, way_edited, way_settled}
use Rattle.tree_revision.proofs.Forests.{tags_edited}
use Rattle.tree_revision.proofs.Renewed.{is_among, changed_found, found_alike, get-all_stamped, same_once_settled}
use Rattle.tree_revision.proofs.Seen.{same_sights}

-- stamps stay where the forest does
pub stamps_stay : (old new : PlainForest SettledFields) (stamps : StampMap) (number : ℕ) → HasTagsOf stamps old → new ≡ old → AreStampsAfter old new stamps number stamps
stamps_stay old new stamps number mounted same =
    subst (λ new. AreStampsAfter old new stamps number stamps) (sym same) (record { mounted = mounted; each = λ tag stamp found. inl (refl, found) })

-- a change of a node keeps the tags
all_tags-edited : (tag : ℕ) (change : NodeEdit) (forest : PlainForest SettledFields) → all_tags (forest_edited_at tag change forest) ≡ all_tags forest
all_tags-edited tag change forest = ap tags_of (contents_of-forest_edited_at tag change forest) ∙ tags_edited tag change (contents_of forest)

module _ (size : Size) (newest : ℕ → StateCell) (tag : ℕ) (change : NodeEdit) (way : List ℕ) (old : PlainForest SettledFields) (differ : IsDistinct nat_eq (all_tags old)) (leads : way_to tag old ≡ Some way) where
  abbrev next : PlainForest SettledFields
  next = forest_edited_at tag change old

  abbrev new : PlainForest SettledFields
  new = settled_forest size newest (contents_of next)

  next_differ : IsDistinct nat_eq (all_tags next)
  next_differ = subst (IsDistinct nat_eq) (sym (all_tags-edited tag change old)) differ

  new_differ : IsDistinct nat_eq (all_tags new)
  new_differ = subst (λ contents. IsDistinct nat_eq (tags_of contents)) (sym (contents_of-settled size newest [] (contents_of next))) next_differ

  new_leads : way_to tag new ≡ Some way
  new_leads = ap (way_to tag) (settled_below-in size newest [] (contents_of next)) ∙ way_settled tag size newest next ∙ way_edited tag change old ∙ leads

  -- the node of the tag, once the forest is settled, is the changed one but for its state and its frame
  new_node : option_map contents_of_node (first_settled tag new) ≡ option_map contents_of_node (option_map (edited_tree tag change) (first_settled tag old))
  new_node =
      first_with-contents tag new
      ∙ ap (first_with tag) (contents_of-settled size newest [] (contents_of next))
      ∙ sym (first_with-contents tag next)
      ∙ ap (option_map contents_of_node) (edited_found tag change way old differ leads)

  -- a mount sees another node on the way where the change makes the node of the tag another one
  way_differs : (tree : PlainNode SettledFields) → first_settled tag old ≡ Some tree → tree.fields ≢ edited_settled change tree.fields
      → (looked : ℕ) → is_among looked way ≡ true → sight_of old looked ≢ sight_of new looked
  way_differs tree found other looked among = λ same.
      let nodes : first_settled tag old ≡ first_settled tag new =
      sym (found_through tag looked way old differ leads among)
      ∙ ap (λ (s : Sight). first_within tag s.tree) same
      ∙ found_through tag looked way new new_differ new_leads among in
      let contents : Some (contents_of_node tree) ≡ Some (contents_of_node (edited_tree tag change tree)) =
      ap (option_map contents_of_node) (sym found ∙ nodes) ∙ new_node ∙ ap (λ f. option_map contents_of_node (option_map (edited_tree tag change) f)) found in
      let one : contents_of_node tree ≡ contents_of_node (edited_tree tag change tree) = cc in
      other (λ i. record { fields = (one i).fields; state = tree.fields.state; frame = tree.fields.frame })

  module _ (before : StampMap) (number : ℕ) (mounted : HasTagsOf before old) (tree : PlainNode SettledFields) (found : first_settled tag old ≡ Some tree) (other : tree.fields ≢ edited_settled change tree.fields) (hidden : is_hidden_of (edited_settled change tree.fields).fields.props ≡ is_hidden_of tree.fields.fields.props) where
    abbrev changed : List ℕ
    changed = changed_tags size newest next

    -- off the way the change leaves what a mount sees
    off_way : (looked : ℕ) → is_among looked way ≡ false → sight_of old looked ≡ sight_of next looked
    off_way looked off =
        same_sights looked old next
        (sym (seen_edited tag change true looked way old differ leads off
        (λ t is. let both : Some tree ≡ Some t = sym found ∙ is in let one : tree ≡ t = cc in subst (λ (t : PlainNode SettledFields). is_hidden_of (edited_settled change t.fields).fields.props ≡ is_hidden_of t.fields.fields.props) one hidden)))

    is_there : (looked : ℕ) (on_way moved : Bool) → is_among looked way ≡ on_way → is_among looked changed ≡ moved
        → is_some (cond (on_way || moved) (Some number) (get before looked)) ≡ is_some (first_settled looked next)
    is_there looked true moved on m = sym (found_edited tag change looked old ∙ on_way-found tag looked way old differ leads on)
    is_there looked false true on m = sym (changed_found newest looked size next m)
    is_there looked false false on m = mounted looked ∙ sym (found_edited tag change looked old)

    is_stamp : (looked stamp : ℕ) (on_way moved : Bool) → is_among looked way ≡ on_way → is_among looked changed ≡ moved
        → Decides (not moved) (sight_of next looked ≡ sight_of new looked) → cond (on_way || moved) (Some number) (get before looked) ≡ Some stamp
        → IsStampAfter old new before number looked stamp
    is_stamp looked stamp true moved on m alike e =
        let is : number ≡ stamp = cc in inr (way_differs tree found other looked on, sym is)
    is_stamp looked stamp false true on m alike e =
        let is : number ≡ stamp = cc in inr (λ same. false≢true (alike.1 (sym (off_way looked on) ∙ same)), sym is)
    is_stamp looked stamp false false on m alike e = inl (off_way looked on ∙ alike.0 refl, e)

    looked_up : (looked : ℕ) → get (all_stamped before number (way ++ changed)) looked ≡ cond (is_among looked way || is_among looked changed) (Some number) (get before looked)
    looked_up looked =
        get-all_stamped before number looked (way ++ changed) ∙ ap (λ b. cond b (Some number) (get before looked)) (list_any-append (λ other. nat_eq other looked) way changed)

    -- the stamps after the change, where the node is another one and is hidden as before
    stamps_edited : AreStampsAfter old new before number (all_stamped before number (way ++ changed))
    stamps_edited = record {
      mounted = λ looked. ap is_some (looked_up looked) ∙ is_there looked _ _ refl refl ∙ sym (found_alike newest looked size next)
          ∙ ap (λ new. is_some (first_settled looked new)) (sym (settled_below-in size newest [] (contents_of next)));
      each = λ looked stamp e. is_stamp looked stamp _ _ refl refl (same_once_settled size newest looked next next_differ) (sym (looked_up looked) ∙ e);
    }

  -- a settled forest with the change, once it is settled again
  pub change_at : (after : PlainForest SettledFields) (before : StampMap) (number : ℕ) (tags : List ℕ) → HasTagsOf before old → old ≡ settled_forest size newest (contents_of old)
      → (edited_to : PlainForest SettledFields) → edited_to ≡ next → after ≡ settled_forest size newest (contents_of edited_to) → tags ≡ way ++ changed_tags size newest edited_to
      → IsChangeAt tag old edited_to after before number tags
  change_at after before number tags mounted settled edited_to is_next is_after are_tags = record {
    same = λ was now in_old in_next fields.
        let node = node_is was now in_old in_next in
        let stays = edited_same tag change way old differ leads
        (λ t is. let both : Some was ≡ Some t = sym in_old ∙ is in let one : was ≡ t = cc in subst (λ (t : PlainNode SettledFields). edited_settled change t.fields ≡ t.fields) one (sym (ap (λ t. t.fields) node) ∙ sym fields)) in
        is_after ∙ ap (λ f. settled_forest size newest (contents_of f)) (is_next ∙ stays) ∙ sym settled;
    other = λ was now in_old in_next fields hidden.
        let node = node_is was now in_old in_next in
        let stamps = stamps_edited before number mounted was in_old (λ e. fields (e ∙ sym (ap (λ t. t.fields) node)))
        (ap (λ t. is_hidden_of t.fields.fields.props) (sym node) ∙ sym hidden) in
        subst (λ (t : PlainForest SettledFields × List ℕ). AreStampsAfter old t.0 before number (all_stamped before number t.1))
        (λ i. (sym (is_after ∙ ap (λ f. settled_forest size newest (contents_of f)) is_next) i, sym (are_tags ∙ ap (λ f. way ++ changed_tags size newest f) is_next) i)) stamps;
  }
    where
      node_is : (was now : PlainNode SettledFields) → first_settled tag old ≡ Some was → first_settled tag edited_to ≡ Some now → now ≡ edited_tree tag change was
      node_is was now in_old in_next =
          let both : Some now ≡ Some (edited_tree tag change was) =
          sym in_next ∙ ap (first_settled tag) is_next ∙ edited_found tag change way old differ leads ∙ ap (option_map (edited_tree tag change)) in_old in
          cc
