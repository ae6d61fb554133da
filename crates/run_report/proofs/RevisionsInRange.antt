-- Each revision of a lawful history keeps the limits of size and forest, and what its nodes say is in range.
use Rattle.std.proofs.Common.{◌≡◌, ◌≤◌, ℕ, zero, suc, inl, inr, List, [], ◌∷◌, ◌++◌, length, length-append, take, take_all, append_assoc, append-nil, nat_lt, if◌then◌else◌, Option, Some, None, unwrap_or, arith, refl, sym, subst}
use Rattle.std.specs.Prelude.{IfSome, option_map}
use Rattle.std.specs.Option.{option_or, option_and_then}
use Rattle.std.proofs.lemmas.Bool.{cases_lt, lt-ltb, le-ltb}
use Rattle.std.proofs.lemmas.List.{take-append-le}
use Rattle.shadow_frame.specs.declared.Size.{Size}
use Rattle.native_state.specs.declared.StateCell.{StateCell}
use Rattle.prop_table.specs.Table.{v2_rules}
use Rattle.prop_table.proofs.Merging.{AreInRows-merged}
use Rattle.shadow_node.specs.declared.NodeEdit.{NodeEdit}
use Rattle.shadow_node.specs.Forest.{PlainForest, PlainNode, none, node, depth_of, node_count}
use Rattle.shadow_node.specs.Fields.{NodeFields}
use Rattle.shadow_node.specs.Find.{first_with}
use Rattle.shadow_node.specs.Edit.{edited}
use Rattle.shadow_node.specs.InRange.{AreFieldsInRange, IsEditInRange}
use Rattle.shadow_node.proofs.Maps.{AllFields}
use Rattle.tree_build.specs.Script.{ScriptForest, no_more, written, kept, kept_with}
use Rattle.tree_build.specs.Resolved.{edited_by, kept_node, kept_node_with, resolved}
use Rattle.tree_build.specs.InRange.{AreNodesInRange}
use Rattle.tree_build.specs.Refusals.{unkept_in, leaf_with_child}
use Rattle.tree_build.specs.declared.builds.BuildRefusal.TheVariants.{Unkept, ChildOfLeaf, TwiceTag, TooDeep, TooManyNodes}
use Rattle.tree_settle.specs.Limits.{IsSizeInRange}
use Rattle.tree_revision.specs.Records.{PlainOp, complete, state, props, resize, stop, suspend, resume, PlainRecord}
use Rattle.tree_revision.specs.InRange.{IsOpInRange}
use Rattle.tree_revision.specs.Revisions.{PlainRevision, edited_at, revision_after, revision_of}
use Rattle.tree_revision.specs.Cancels.{cancel_for, cancel_at}
use Rattle.tree_revision.specs.Newest.{newest_state}
use Rattle.tree_revision.specs.Lawful.{MayFollow, MayAllFollow, IsLawful}
use Rattle.tree_revision.specs.declared.record.Cancel.{Cancel}
use Rattle.tree_revision.proofs.Forests.{OfFound, found_in, edited_each}
use Rattle.tree_revision.proofs.Revisions.{revision_of-push}

-- a revision keeps the limits of size and forest, and what its nodes say is in range
pub record IsKeptInRange (revision : PlainRevision) : Type 0 where
  pub size : IsSizeInRange revision.size
  pub depth : depth_of revision.forest ≤ 48
  pub count : node_count revision.forest ≤ 2000
  pub fields : AllFields AreFieldsInRange revision.forest

-- a label that is kept or given
label_in_range : (label : Option (List ℕ)) (was : List ℕ) → IfSome label (λ label. length label ≤ 256) → length was ≤ 256 → length (unwrap_or label was) ≤ 256
label_in_range None was given old = old
label_in_range (Some label) was given old = given

-- a change in range keeps a node in range
edited_in_range : (change : NodeEdit) (fields : NodeFields) → IsEditInRange change → AreFieldsInRange fields → AreFieldsInRange (edited change fields)
edited_in_range change fields edit h = record {
  tag = h.tag;
  props = AreInRows-merged v2_rules fields.props change.rows h.props edit.rows;
  label = label_in_range change.label fields.label edit.label h.label;
}

-- and so does one that may be given
edited_by_in_range : (change : Option NodeEdit) (fields : NodeFields) → IfSome change IsEditInRange → AreFieldsInRange fields → AreFieldsInRange (edited_by change fields)
edited_by_in_range None fields edit h = h
edited_by_in_range (Some change) fields edit h = edited_in_range change fields edit h

-- a kept node
kept_in_range : (found : Option (PlainNode NodeFields)) (change : Option NodeEdit) (siblings : PlainForest NodeFields) → IfSome change IsEditInRange
    → OfFound AreFieldsInRange found → AllFields AreFieldsInRange siblings → AllFields AreFieldsInRange (kept_node found change siblings)
kept_in_range None change siblings edit h k = k
kept_in_range (Some tree) change siblings edit h k = (edited_by_in_range change tree.fields edit h.0, h.1, k)

-- and one with other children
kept_with_in_range : (found : Option (PlainNode NodeFields)) (change : Option NodeEdit) (children siblings : PlainForest NodeFields) → IfSome change IsEditInRange
    → OfFound AreFieldsInRange found → AllFields AreFieldsInRange children → AllFields AreFieldsInRange siblings
    → AllFields AreFieldsInRange (kept_node_with found change children siblings)
kept_with_in_range None change children siblings edit h c k = k
kept_with_in_range (Some tree) change children siblings edit h c k = (edited_by_in_range change tree.fields edit h.0, c, k)

-- what script nodes in range name over nodes in range is in range
pub resolved_fields : (held : PlainForest NodeFields) (nodes : ScriptForest) → AllFields AreFieldsInRange held → AreNodesInRange nodes
    → AllFields AreFieldsInRange (resolved held nodes)
resolved_fields held no_more h r = tt
resolved_fields held (written fields children siblings) h r = (r.0, resolved_fields held children h r.1, resolved_fields held siblings h r.2)
resolved_fields held (kept tag change siblings) h r =
    kept_in_range (first_with tag held) change (resolved held siblings) r.1 (found_in AreFieldsInRange tag held h) (resolved_fields held siblings h r.2)
resolved_fields held (kept_with tag change children siblings) h r =
    kept_with_in_range (first_with tag held) change (resolved held children) (resolved held siblings) r.1 (found_in AreFieldsInRange tag held h)
    (resolved_fields held children h r.2) (resolved_fields held siblings h r.3)

-- where nothing refuses to build, the depth and the count are within their limits
built_within : (unkept leaf twice : Option ℕ) (depth count : ℕ)
    → option_and_then cancel_for (option_or (option_map (λ tag. Unkept tag) unkept) (option_or (option_map (λ tag. ChildOfLeaf tag) leaf)
    (option_or (option_map (λ tag. TwiceTag tag) twice) (if nat_lt 48 depth then Some TooDeep else (if nat_lt 2000 count then Some TooManyNodes else None))))) ≡ None
    → (depth ≤ 48) × (count ≤ 2000)
built_within (Some a) leaf twice depth count h = absurd cc
built_within None (Some b) twice depth count h = absurd cc
built_within None None (Some c) depth count h = absurd cc
built_within None None None depth count h =
    elim (cases_lt 48 depth) [
      | inl deep ↦ let refused = rw (lt-ltb 48 depth deep) at h in absurd cc
      | inr shallow ↦
          elim (cases_lt 2000 count) [
            | inl many ↦ let refused = rw (le-ltb 48 depth shallow, lt-ltb 2000 count many) at h in absurd cc
            | inr few ↦ (shallow, few)
          ]
    ]

-- no first answer
none_first : (a b : Option Cancel) → option_or a b ≡ None → a ≡ None
none_first None b h = refl
none_first (Some x) b h = absurd cc

-- a change at a tag keeps the depth
edited_depth : (tag : ℕ) (change : NodeEdit) (forest : PlainForest NodeFields) → depth_of (edited_at tag change forest) ≡ depth_of forest
edited_depth tag change none = refl
edited_depth tag change (node fields children siblings) = rw (edited_depth tag change children, edited_depth tag change siblings) refl

-- and the number of nodes
edited_count : (tag : ℕ) (change : NodeEdit) (forest : PlainForest NodeFields) → node_count (edited_at tag change forest) ≡ node_count forest
edited_count tag change none = refl
edited_count tag change (node fields children siblings) = rw (edited_count tag change children, edited_count tag change siblings) refl

-- a change that nothing cancels leads from revisions in range to one in range
after_in_range : (op : PlainOp) (front held : PlainRevision) (newest : ℕ → StateCell) → IsKeptInRange front → IsKeptInRange held → IsOpInRange op
    → cancel_at op front held newest ≡ None → IsKeptInRange (revision_after op front held)
after_in_range (complete nodes) front held newest f g range h =
    let forest = resolved held.forest nodes in
    let within = built_within (unkept_in held.forest nodes) (leaf_with_child held.forest nodes) _ (depth_of forest) (node_count forest) (none_first _ _ h) in
    record { size = f.size; depth = within.0; count = within.1; fields = resolved_fields held.forest nodes g.fields range }
after_in_range (state tag change) front held newest f g range h = f
after_in_range (props tag change) front held newest f g range h = record {
  size = f.size;
  depth = subst (λ n. n ≤ 48) (sym (edited_depth tag change front.forest)) f.depth;
  count = subst (λ n. n ≤ 2000) (sym (edited_count tag change front.forest)) f.count;
  fields = edited_each AreFieldsInRange tag change (λ fields was. edited_in_range change fields range.1 was) front.forest f.fields;
}
after_in_range (resize size) front held newest f g range h = record { size = range; depth = f.depth; count = f.count; fields = f.fields }
after_in_range stop front held newest f g range h = record { size = f.size; depth = omega arith; count = omega arith; fields = tt }
after_in_range suspend front held newest f g range h = f
after_in_range resume front held newest f g range h = f

-- the revisions of the fronts of a history are in range
abbrev AreFrontsInRange : Size → List PlainRecord → Type 0
AreFrontsInRange first entries = (n : ℕ) → IsKeptInRange (revision_of first (take n entries))

-- the revision of no record is in range
opening_in_range : (first : Size) → IsSizeInRange first → AreFrontsInRange first []
opening_in_range first size zero = record { size = size; depth = omega arith; count = omega arith; fields = tt }
opening_in_range first size (suc n) = record { size = size; depth = omega arith; count = omega arith; fields = tt }

-- all records are a front
whole_in_range : (first : Size) (entries : List PlainRecord) → AreFrontsInRange first entries → IsKeptInRange (revision_of first entries)
whole_in_range first entries h = subst (λ l. IsKeptInRange (revision_of first l)) (take_all (length entries) entries (omega arith)) (h (length entries))

-- one more record that may follow leaves the fronts in range
one_more_front : (first : Size) (entries : List PlainRecord) (entry : PlainRecord) → AreFrontsInRange first entries → MayFollow first entries entry
    → AreFrontsInRange first (entries ++ entry ∷ [])
one_more_front first entries entry h may n =
    elim (cases_lt (length entries) n) as (λ c. IsKeptInRange (revision_of first (take n (entries ++ entry ∷ [])))) [
      | inl past ↦
          let all : length (entries ++ entry ∷ []) ≤ n = omega (arith, length-append entries (entry ∷ [])) in
          rw (take_all n (entries ++ entry ∷ []) all, revision_of-push first entries entry)
          (after_in_range entry.op (revision_of first entries) (revision_of first (take entry.held entries)) (newest_state entries) (whole_in_range first entries h) (h entry.held)
          may.in_range may.admitted)
      | inr within ↦ rw (take-append-le n entries (entry ∷ []) within) (h n)
    ]

-- and so do more records that may follow
more_fronts : (first : Size) (before entries : List PlainRecord) → AreFrontsInRange first before → MayAllFollow first before entries → AreFrontsInRange first (before ++ entries)
more_fronts first before [] h all = subst (AreFrontsInRange first) (sym (append-nil before)) h
more_fronts first before (entry ∷ entries) h all =
    subst (AreFrontsInRange first) (append_assoc before (entry ∷ []) entries)
    (more_fronts first (before ++ entry ∷ []) entries (one_more_front first before entry h all.0) all.1)

-- each revision of a lawful history is in range
pub revisions_in_range : (first : Size) (entries : List PlainRecord) → IsSizeInRange first → IsLawful first entries → (number : ℕ)
    → IsKeptInRange (revision_of first (take number entries))
revisions_in_range first entries size lawful number = more_fronts first [] entries (opening_in_range first size) lawful number
