-- The revision after a change stands for one more record.
use Rattle.std.proofs.Common.{◌≡◌, ℕ, ◌+◌, ◌≤◌, ◌<◌, List, [], ◌∷◌, ◌++◌, length, length-append, take, Option, Some, None, arith, refl, ap, sym, ◌∙◌, subst}
use Rattle.std.specs.Prelude.{IfSome, unwrap_or}
use Rattle.std.specs.Option.{option_map}
use Rattle.std.specs.Ordering.{nat_cmp}
use Rattle.std.specs.FinMap as map
use Rattle.shadow_frame.specs.declared.Size.{Size}
use Rattle.native_state.specs.declared.StateCell.{StateCell}
use Rattle.native_state.specs.State.{cell_from}
use Rattle.shadow_node.specs.Forest.{PlainForest, preorder}
use Rattle.shadow_node.specs.Fields.{SettledFields, contents_of}
use Rattle.shadow_node.specs.Frames.{settled_forest}
use Rattle.shadow_node.specs.Stamps.{StampMap}
use Rattle.tree_build.specs.Resolved.{resolved}
use Rattle.tree_settle.specs.Limits.{IsSizeInRange}
use Rattle.tree_revision.specs.Records.{PlainOp, complete, state, props, resize, stop, suspend, resume, PlainRecord}
use Rattle.tree_revision.specs.InRange.{IsOpInRange}
use Rattle.tree_revision.specs.Revisions.{PlainRevision, kind_of_family, families_with, edited_at, revision_after, revision_of}
use Rattle.tree_revision.specs.Newest.{change_of, newest_state}
use Rattle.tree_revision.specs.Cancels.{cancel_at, cancel_of}
use Rattle.tree_revision.specs.Lawful.{MayFollow}
use Rattle.tree_revision.specs.Forests.{settled_of}
use Rattle.tree_revision.specs.ForestStamps.{AreStampsAfter}
use Rattle.tree_revision.specs.Stamps.{IsStamp, AreStampsOf}
use Rattle.tree_revision.specs.Settled.{SettledRevision, KeptRevision, IsWithinLimits, opened}
use Rattle.tree_revision.specs.Stands.{AreFamiliesOf, HasContentOf, StandsFor, family_of}
use Rattle.tree_revision.specs.Prepared.{cause_in, families_grown, families_next, size_next, content_next, mountable_next, AreNextStamps}
use Rattle.tree_revision.specs.Made.{forest_next}
use Rattle.tree_revision.proofs.Histories.{IsLawful-push, newest_state-push}
use Rattle.tree_revision.proofs.Revisions.{revision_of-next}
use Rattle.tree_revision.proofs.Families.{distinct_none}
use Rattle.tree_revision.proofs.Contents.{contents_of-stands}
use Rattle.tree_revision.proofs.Built.{contents_of-built, contents_of-forest_edited_at}
use Rattle.tree_revision.proofs.Cells.{AreFamilies, StartNew, cell_in-families, lawful_start_new}
use Rattle.tree_revision.proofs.Counts.{families_once}
use Rattle.tree_revision.proofs.Causes.{built_tags_differ, cause_in-cancel_at}
use Rattle.tree_revision.proofs.Grown.{first_none, families-changed, families-grown}
use Rattle.tree_revision.proofs.Suspended.{mountable_next-stands}
use Rattle.tree_revision.proofs.Stamped.{stamps_next, no_tags, no_stamp}

-- no stamps are those of no record
no_stamps : (size : Size) → AreStampsOf size map.empty []
no_stamps size = record {
  mounted = no_tags;
  each = no_stamp (IsStamp size []);
}

-- a surface before its first commit has the content of no record
opened_content : (size : Size) → HasContentOf size (opened size) []
opened_content size = record { number = refl; size = refl; forest = refl; families = λ tag. map.get-empty nat_cmp tag; stamps = no_stamps size }

-- a surface before its first commit stands for no record
pub opening_stands : (size : Size) → StandsFor size (record { newest = opened size; mountable = opened size }) []
opening_stands size = record { lawful = tt; newest = opened_content size; mountable = opened_content size }

-- so does any that is one with it, where mounting stands still at no older number
pub none_stands : {A : Type 0} (value : A → SettledRevision) (content : SettledRevision) (still : Option A) → IfSome still (λ older. (value older).number < content.number)
    → (content.number ≡ 0 → content ≡ opened content.size) → content.number ≡ 0
    → StandsFor content.size (record { newest = content; mountable = unwrap_or (option_map value still) content }) []
none_stands value content None older first zero =
    subst (λ r. StandsFor content.size (record { newest = r; mountable = r }) []) (sym (first zero)) (opening_stands content.size)
none_stands value content (Some still) older first zero = let never : ⊥ = omega arith in absurd never

-- and keeps the limits
pub opened_limits : (size : Size) → IsSizeInRange size → IsWithinLimits (opened size)
opened_limits size in_range = record {
  size = in_range;
  forest = record { within = record { differ = distinct_none; depth = omega arith; count = omega arith }; frames = tt };
  settled = refl;
  counts = λ tag family found. let both : None ≡ Some family = sym (map.get-empty nat_cmp tag) ∙ found in absurd cc;
  stamps = no_tags;
  first = λ _. refl;
}

-- the cause of a cancel over kept revisions is that over the records that they stand for
pub causes_agree : (first : Size) (front held : KeptRevision) (entries : List PlainRecord) (number : ℕ) (op : PlainOp) → StandsFor first front entries
    → StandsFor first held (take number entries) → cause_in op front.newest held.newest ≡ cancel_of first op entries number
causes_agree first front held entries number op stands held_stands =
    cause_in-cancel_at op front.newest held.newest (revision_of first entries) (revision_of first (take number entries)) (newest_state entries)
    (contents_of-stands first front.newest entries stands.newest) (contents_of-stands first held.newest (take number entries) held_stands.newest)
    stands.newest.families (families_once first entries) (lawful_start_new first entries stands.lawful)

-- ---- each part of the next revision

-- the size after a change
size_next-after : (op : PlainOp) (front : SettledRevision) (plain_front plain_held : PlainRevision) → front.size ≡ plain_front.size
    → size_next op front ≡ (revision_after op plain_front plain_held).size
size_next-after (complete nodes) front plain_front plain_held is = is
size_next-after (state tag change) front plain_front plain_held is = is
size_next-after (props tag change) front plain_front plain_held is = is
size_next-after (resize size) front plain_front plain_held is = refl
size_next-after stop front plain_front plain_held is = is
size_next-after suspend front plain_front plain_held is = is
size_next-after resume front plain_front plain_held is = is

-- the contents after a change
forest_next-after : (op : PlainOp) (front held : SettledRevision) (plain_front plain_held : PlainRevision) → contents_of front.forest ≡ plain_front.forest
    → contents_of held.forest ≡ plain_held.forest → contents_of (forest_next op front held) ≡ (revision_after op plain_front plain_held).forest
forest_next-after (complete nodes) front held plain_front plain_held is held_is = contents_of-built held.forest nodes ∙ ap (λ forest. resolved forest nodes) held_is
forest_next-after (state tag change) front held plain_front plain_held is held_is = is
forest_next-after (props tag change) front held plain_front plain_held is held_is = contents_of-forest_edited_at tag change front.forest ∙ ap (edited_at tag change) is
forest_next-after (resize size) front held plain_front plain_held is held_is = is
forest_next-after stop front held plain_front plain_held is held_is = refl
forest_next-after suspend front held plain_front plain_held is held_is = is
forest_next-after resume front held plain_front plain_held is held_is = is

-- the families after a change that nothing cancels
families_next-after : (op : PlainOp) (front held : SettledRevision) (plain_front plain_held : PlainRevision) (newest : ℕ → StateCell)
    → contents_of held.forest ≡ plain_held.forest → AreFamilies front.families plain_front.families newest → StartNew plain_front.families newest
    → cancel_at op plain_front plain_held newest ≡ None
    → AreFamilies (families_next op front held) (revision_after op plain_front plain_held).families (λ tag. cell_from (newest tag) (change_of tag op))
families_next-after (complete nodes) front held plain_front plain_held newest held_is are starts admitted =
    let made = preorder (resolved plain_held.forest nodes) in
    let differ = built_tags_differ plain_held.forest nodes (first_none _ _ admitted) in
    subst (λ forest. AreFamilies (families_grown front.families (preorder (resolved forest nodes))) (families_with plain_front.families made) newest) (sym held_is)
    (families-grown front.families plain_front.families newest made differ starts are)
families_next-after (state tag change) front held plain_front plain_held newest held_is are starts admitted = families-changed front.families plain_front.families newest tag change are
families_next-after (props tag change) front held plain_front plain_held newest held_is are starts admitted = are
families_next-after (resize size) front held plain_front plain_held newest held_is are starts admitted = are
families_next-after stop front held plain_front plain_held newest held_is are starts admitted = are
families_next-after suspend front held plain_front plain_held newest held_is are starts admitted = are
families_next-after resume front held plain_front plain_held newest held_is are starts admitted = are

-- stamps after a commit, by what the forests and the number are
next_stamps : {old old_is new new_is : PlainForest SettledFields} {before after : StampMap} {number number_is : ℕ} → old ≡ old_is → new ≡ new_is → number ≡ number_is
    → AreStampsAfter old new before number after → AreStampsAfter old_is new_is before number_is after
next_stamps {before} {after} p q r are = subst (λ (t : PlainForest SettledFields × PlainForest SettledFields × ℕ). AreStampsAfter t.0 t.1 before t.2 after) (λ i. (p i, q i, r i)) are

-- the next revision has the content of one more record that may follow
content_next-stands : (first : Size) (front held : KeptRevision) (stamps : StampMap) (entries : List PlainRecord) (entry : PlainRecord) → StandsFor first front entries
    → StandsFor first held (take entry.held entries) → MayFollow first entries entry → AreNextStamps front.newest (content_next entry.op front.newest held.newest stamps)
    → HasContentOf first (content_next entry.op front.newest held.newest stamps) (entries ++ entry ∷ [])
content_next-stands first front held stamps entries entry stands held_stands may are =
    let all = entries ++ entry ∷ [] in
    let plain_front = revision_of first entries in
    let plain_held = revision_of first (take entry.held entries) in
    let front_is = contents_of-stands first front.newest entries stands.newest in
    let held_is = contents_of-stands first held.newest (take entry.held entries) held_stands.newest in
    let next : revision_of first all ≡ revision_after entry.op plain_front plain_held = revision_of-next first entries entry may.held in
    let families_after = families_next-after entry.op front.newest held.newest plain_front plain_held (newest_state entries) held_is stands.newest.families
    (lawful_start_new first entries stands.lawful) may.admitted in
    let families : AreFamiliesOf first (families_next entry.op front.newest held.newest) all =
    λ tag. families_after tag ∙ (λ i. option_map (family_of (sym (newest_state-push entries entry tag) i)) (kind_of_family (sym next i).families tag)) in
    let size : size_next entry.op front.newest ≡ (revision_of first all).size =
    size_next-after entry.op front.newest plain_front plain_held stands.newest.size ∙ ap (λ revision. revision.size) (sym next) in
    let forest : contents_of (forest_next entry.op front.newest held.newest) ≡ (revision_of first all).forest =
    forest_next-after entry.op front.newest held.newest plain_front plain_held front_is held_is ∙ ap (λ revision. revision.forest) (sym next) in
    let cells = cell_in-families (families_next entry.op front.newest held.newest) (revision_of first all).families (newest_state all) families
    (lawful_start_new first all (IsLawful-push first entries entry stands.lawful may)) in
    let settled : (content_next entry.op front.newest held.newest stamps).forest ≡ settled_of first all = λ i. settled_forest (size i) (λ tag. cells tag i) (forest i) in
    let number : front.newest.number + 1 ≡ length entries + 1 = ap (λ n. n + 1) stands.newest.number in
    record {
      number = number ∙ omega (arith, length-append entries (entry ∷ []));
      size = size;
      forest = settled;
      families = families;
      stamps = stamps_next first entries entry front.newest.stamps stamps stands.newest.stamps (next_stamps stands.newest.forest settled number are);
    }

-- the next revision, with the one that may be mounted
abbrev pub kept_next : PlainOp → (front held : KeptRevision) → StampMap → KeptRevision
kept_next op front held stamps = record {
  newest = content_next op front.newest held.newest stamps;
  mountable = mountable_next op front (content_next op front.newest held.newest stamps);
}

-- the revision after a change that nothing cancels stands for one more record
pub next_stands : (first : Size) (front held : KeptRevision) (stamps : StampMap) (entries : List PlainRecord) (entry : PlainRecord) → IsOpInRange entry.op → StandsFor first front entries
    → entry.held ≤ length entries → StandsFor first held (take entry.held entries) → cause_in entry.op front.newest held.newest ≡ None
    → AreNextStamps front.newest (content_next entry.op front.newest held.newest stamps)
    → StandsFor first (kept_next entry.op front held stamps) (entries ++ entry ∷ [])
next_stands first front held stamps entries entry in_range stands within held_stands admitted are =
    let may : MayFollow first entries entry = record {
      in_range = in_range;
      held = within;
      admitted = sym (causes_agree first front held entries entry.held entry.op stands held_stands) ∙ admitted;
    } in
    let newest = content_next-stands first front held stamps entries entry stands held_stands may are in
    record {
      lawful = IsLawful-push first entries entry stands.lawful may;
      newest = newest;
      mountable = mountable_next-stands first front (content_next entry.op front.newest held.newest stamps) entries entry stands newest;
    }
