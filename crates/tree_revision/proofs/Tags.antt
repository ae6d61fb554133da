-- The tags of each revision of a lawful history.
use Rattle.std.proofs.Common.{◌≡◌, ◌≤◌, inl, inr, ℕ, zero, suc, List, [], ◌∷◌, ◌++◌, length, length-append, take, Option, Some, None, nat_eq, append_assoc, append-nil, take_all, arith, refl, sym, subst}
use Rattle.std.specs.List.{IsDistinct}
use Rattle.std.specs.Option.{option_or}
use Rattle.std.proofs.lemmas.Bool.{cases_lt}
use Rattle.std.proofs.lemmas.List.{take-append-le}
use Rattle.shadow_frame.specs.declared.Size.{Size}
use Rattle.shadow_node.specs.Forest.{preorder}
use Rattle.shadow_node.specs.Fields.{tags_of}
use Rattle.shadow_node.proofs.Maps.{AllFields}
use Rattle.shadow_node.specs.declared.NodeEdit.{NodeEdit}
use Rattle.native_state.specs.declared.StateCell.{StateCell}
use Rattle.tree_build.specs.Script.{ScriptForest}
use Rattle.tree_build.specs.Resolved.{resolved}
use Rattle.tree_revision.specs.Records.{PlainOp, complete, state, props, resize, stop, suspend, resume, PlainRecord}
use Rattle.shadow_node.specs.InRange.{IsTagInRange}
use Rattle.tree_build.specs.InRange.{AreNodesInRange}
use Rattle.tree_revision.specs.InRange.{IsOpInRange}
use Rattle.tree_revision.specs.Revisions.{PlainRevision, kind_of_family, families_with, revision_after, revision_of}
use Rattle.tree_revision.specs.Cancels.{complete_cancel, cancel_at}
use Rattle.tree_revision.specs.Newest.{newest_state}
use Rattle.tree_revision.specs.Lawful.{MayFollow, MayAllFollow, IsLawful}
use Rattle.tree_revision.specs.Tags.{HasSoundTags, KeepsFamilies}
use Rattle.tree_revision.specs.declared.record.Cancel.{Cancel}
use Rattle.tree_revision.proofs.Revisions.{revision_of-push}
use Rattle.tree_revision.proofs.Forests.{in_preorder, from_preorder, of_tags, resolved_in_range, edited_each, tags_edited}
use Rattle.tree_revision.proofs.Families.{families_stay, own_families, distinct_unless_repeated, no_repeat, distinct_none}

-- what holds of each node of a forest
pub record IsSound (revision : PlainRevision) : Type 0 where
  pub differ : IsDistinct nat_eq (tags_of revision.forest)
  pub in_range : AllFields (λ fields. IsTagInRange fields.tag) revision.forest
  pub kinds : AllFields (λ fields. kind_of_family revision.families fields.tag ≡ Some fields.kind) revision.forest

-- no first answer, and no second one
none_of_two : (a b : Option Cancel) → option_or a b ≡ None → (a ≡ None) × (b ≡ None)
none_of_two None b h = (refl, h)
none_of_two (Some x) b h = absurd cc

-- a complete that nothing cancels leads from sound revisions to a sound one
complete_sound : (nodes : ScriptForest) (front held : PlainRevision) → IsSound held → AreNodesInRange nodes → complete_cancel nodes front held ≡ None
    → IsSound (revision_after (complete nodes) front held)
complete_sound nodes front held sound range h =
    let forest = resolved held.forest nodes in
    let built = (none_of_two _ _ h).0 in
    let differ : IsDistinct nat_eq (tags_of forest) = distinct_unless_repeated (tags_of forest) (no_repeat _ _ _ _ built) in
    record {
      differ = differ;
      in_range = resolved_in_range held.forest nodes sound.in_range range;
      kinds = from_preorder (λ fields. kind_of_family (families_with front.families (preorder forest)) fields.tag ≡ Some fields.kind) forest (own_families front.families (preorder forest) differ (none_of_two _ _ (none_of_two _ _ h).1).0);
    }

-- a change of a node's props leads from a sound revision to a sound one
props_sound : (tag : ℕ) (change : NodeEdit) (front held : PlainRevision) → IsSound front → IsSound (revision_after (props tag change) front held)
props_sound tag change front held sound = record {
  differ = subst (IsDistinct nat_eq) (sym (tags_edited tag change front.forest)) sound.differ;
  in_range = edited_each (λ fields. IsTagInRange fields.tag) tag change (λ fields h. h) front.forest sound.in_range;
  kinds = edited_each (λ fields. kind_of_family front.families fields.tag ≡ Some fields.kind) tag change (λ fields h. h) front.forest sound.kinds;
}

-- a change that nothing cancels leads from sound revisions to a sound one
after_sound : (op : PlainOp) (front held : PlainRevision) (newest : ℕ → StateCell) → IsSound front → IsSound held → IsOpInRange op → cancel_at op front held newest ≡ None
    → IsSound (revision_after op front held)
after_sound (complete nodes) front held newest f g range h = complete_sound nodes front held g range h
after_sound (state tag change) front held newest f g range h = f
after_sound (props tag change) front held newest f g range h = props_sound tag change front held f
after_sound (resize size) front held newest f g range h = record { differ = f.differ; in_range = f.in_range; kinds = f.kinds }
after_sound stop front held newest f g range h = record { differ = distinct_none; in_range = tt; kinds = tt }
after_sound suspend front held newest f g range h = f
after_sound resume front held newest f g range h = f

-- a change keeps the families
after_keeps : (op : PlainOp) (front held : PlainRevision) → KeepsFamilies front (revision_after op front held)
after_keeps (complete nodes) front held = families_stay front.families (preorder (resolved held.forest nodes))
after_keeps (state tag change) front held = λ tag kind e. e
after_keeps (props tag change) front held = λ tag kind e. e
after_keeps (resize size) front held = λ tag kind e. e
after_keeps stop front held = λ tag kind e. e
after_keeps suspend front held = λ tag kind e. e
after_keeps resume front held = λ tag kind e. e

-- the revisions of the fronts of a history are sound
abbrev AreFrontsSound : Size → List PlainRecord → Type 0
AreFrontsSound first entries = (n : ℕ) → IsSound (revision_of first (take n entries))

-- the revision of no record is sound
opening_sound : (first : Size) → AreFrontsSound first []
opening_sound first zero = record { differ = distinct_none; in_range = tt; kinds = tt }
opening_sound first (suc n) = record { differ = distinct_none; in_range = tt; kinds = tt }

-- all records are a front
whole_sound : (first : Size) (entries : List PlainRecord) → AreFrontsSound first entries → IsSound (revision_of first entries)
whole_sound first entries h = subst (λ l. IsSound (revision_of first l)) (take_all (length entries) entries (omega arith)) (h (length entries))

-- one more record that may follow leaves the fronts sound
fronts_push : (first : Size) (entries : List PlainRecord) (entry : PlainRecord) → AreFrontsSound first entries → MayFollow first entries entry
    → AreFrontsSound first (entries ++ entry ∷ [])
fronts_push first entries entry h may n =
    elim (cases_lt (length entries) n) as (λ c. IsSound (revision_of first (take n (entries ++ entry ∷ [])))) [
      | inl past ↦
          let all : length (entries ++ entry ∷ []) ≤ n = omega (arith, length-append entries (entry ∷ [])) in
          rw (take_all n (entries ++ entry ∷ []) all, revision_of-push first entries entry)
          (after_sound entry.op (revision_of first entries) (revision_of first (take entry.held entries)) (newest_state entries) (whole_sound first entries h) (h entry.held) may.in_range may.admitted)
      | inr within ↦ rw (take-append-le n entries (entry ∷ []) within) (h n)
    ]

-- more records that may follow leave the fronts sound
fronts_sound : (first : Size) (before entries : List PlainRecord) → AreFrontsSound first before → MayAllFollow first before entries → AreFrontsSound first (before ++ entries)
fronts_sound first before [] h all = subst (AreFrontsSound first) (sym (append-nil before)) h
fronts_sound first before (entry ∷ entries) h all =
    subst (AreFrontsSound first) (append_assoc before (entry ∷ []) entries)
    (fronts_sound first (before ++ entry ∷ []) entries (fronts_push first before entry h all.0) all.1)

-- the tags of the revision of a lawful history
pub lawful_tags : (first : Size) (entries : List PlainRecord) → IsLawful first entries → HasSoundTags (revision_of first entries)
lawful_tags first entries lawful =
    let sound = whole_sound first entries (fronts_sound first [] entries (opening_sound first) lawful) in
    let forest = (revision_of first entries).forest in
    record {
      differ = sound.differ;
      in_range = of_tags IsTagInRange (preorder forest) (in_preorder (λ fields. IsTagInRange fields.tag) forest sound.in_range);
      kinds = in_preorder (λ fields. kind_of_family (revision_of first entries).families fields.tag ≡ Some fields.kind) forest sound.kinds;
    }

-- the families stay as more records follow
families_from : (first : Size) (before entries : List PlainRecord) → MayAllFollow first before entries → KeepsFamilies (revision_of first before) (revision_of first (before ++ entries))
families_from first before [] all = λ tag kind e. subst (λ l. kind_of_family (revision_of first l).families tag ≡ Some kind) (sym (append-nil before)) e
families_from first before (entry ∷ entries) all = λ tag kind e.
    let next : kind_of_family (revision_of first (before ++ entry ∷ [])).families tag ≡ Some kind =
    rw (revision_of-push first before entry)
    (after_keeps entry.op (revision_of first before) (revision_of first (take entry.held before)) tag kind e) in
    subst (λ l. kind_of_family (revision_of first l).families tag ≡ Some kind) (append_assoc before (entry ∷ []) entries)
    (families_from first (before ++ entry ∷ []) entries all.1 tag kind next)

-- the second part of a lawful list may follow the first
follow_front : (first : Size) (before us vs : List PlainRecord) → MayAllFollow first before (us ++ vs) → MayAllFollow first (before ++ us) vs
follow_front first before [] vs all = subst (λ l. MayAllFollow first l vs) (sym (append-nil before)) all
follow_front first before (u ∷ us) vs all = subst (λ l. MayAllFollow first l vs) (append_assoc before (u ∷ []) us) (follow_front first (before ++ u ∷ []) us vs all.1)

-- the families of a lawful history stay as more commits are admitted
pub lawful_families : (first : Size) (entries more : List PlainRecord) → IsLawful first (entries ++ more) → KeepsFamilies (revision_of first entries) (revision_of first (entries ++ more))
lawful_families first entries more lawful = families_from first entries more (follow_front first [] entries more lawful)
