-- That a revision stands for a list of records has one proof at most, so that a struct can keep it.
use Rattle.std.specs.Prelude.{ℕ, ℤ, ◌≤ℤ◌, List, [], ◌∷◌, ◌++◌, Bool, Option, Some, None, IfSome, refl}
use Rattle.std.specs.Coded.{Coded, Coded-set, code_by, coded×, coded_bool, coded_option, coded_ℕ, ×_prop, Unit-prop, le_prop}
use Rattle.std.proofs.Math.Dec.{T_prop}
use Rattle.std.proofs.Math.Bool.{Bool-set}
use Rattle.shadow_frame.specs.declared.Size.{Size}
use Rattle.shadow_frame.specs.contracts.Size as size
use Rattle.native_state.specs.contracts.Family as family
use Rattle.prop_table.specs.Props.{PropList}
use Rattle.prop_table.specs.Table.{RowRule, v2_rules, IsInRow, AreInRows}
use Rattle.prop_table.specs.Edits.{EditList, IsEditInRow, AreEditsInRows}
use Rattle.shadow_node.specs.declared.NodeEdit.{NodeEdit}
use Rattle.shadow_node.specs.Code.{coded_forest, coded_node, coded_settled}
use Rattle.shadow_node.specs.Forest.{PlainNode}
use Rattle.shadow_node.specs.Fields.{NodeFields, SettledFields}
use Rattle.shadow_node.specs.InRange.{IsTagInRange, AreFieldsInRange, IsEditInRange}
use Rattle.shadow_node.specs.Seen.{Sight}
use Rattle.shadow_node.specs.Stamps.{StampMap}
use Rattle.tree_build.specs.Script.{ScriptForest, no_more, written, kept, kept_with}
use Rattle.tree_build.specs.InRange.{AreNodesInRange}
use Rattle.tree_settle.specs.Limits.{IsSizeInRange}
use Rattle.tree_revision.specs.Records.{PlainOp, complete, state, props, resize, stop, suspend, resume, PlainRecord}
use Rattle.tree_revision.specs.InRange.{IsOpInRange}
use Rattle.tree_revision.specs.Lawful.{MayFollow, MayAllFollow}
use Rattle.tree_revision.specs.Settled.{SettledRevision, KeptRevision}
use Rattle.tree_revision.specs.Stamps.{IsUnchangedFrom, IsStamp, AreStampsOf}
use Rattle.tree_revision.specs.Stands.{HasContentOf, StandsFor}
use Rattle.tree_revision.specs.contracts.record.Cancel as cancel

≤ℤ-prop : (a b : ℤ) → IsProp (a ≤ℤ b)
≤ℤ-prop a b x y = λ i. record { le = T_prop _ x.le y.le i }

IfSome-prop : {A : Type 0} (P : A → Type 0) → ((a : A) → IsProp (P a)) → (found : Option A) → IsProp (IfSome found P)
IfSome-prop P prop None = Unit-prop
IfSome-prop P prop (Some a) = prop a

IsTagInRange-prop : (tag : ℕ) → IsProp (IsTagInRange tag)
IsTagInRange-prop tag x y = λ i. record { low = le_prop x.low y.low i; high = le_prop x.high y.high i }

IsInRow-prop : (rule : RowRule) (value : Option ℤ) → IsProp (IsInRow rule value)
IsInRow-prop rule None = Bool-set _ _
IsInRow-prop rule (Some value) = ×_prop (≤ℤ-prop _ _) (≤ℤ-prop _ _)

AreInRows-prop : (rules : List RowRule) (values : PropList) → IsProp (AreInRows rules values)
AreInRows-prop [] [] = Unit-prop
AreInRows-prop [] (value ∷ values) = λ x y. absurd x
AreInRows-prop (rule ∷ rules) [] = λ x y. absurd x
AreInRows-prop (rule ∷ rules) (value ∷ values) = ×_prop (IsInRow-prop rule value) (AreInRows-prop rules values)

IsEditInRow-prop : (rule : RowRule) (named : Option (Option ℤ)) → IsProp (IsEditInRow rule named)
IsEditInRow-prop rule None = Unit-prop
IsEditInRow-prop rule (Some value) = IsInRow-prop rule value

AreEditsInRows-prop : (rules : List RowRule) (edit : EditList) → IsProp (AreEditsInRows rules edit)
AreEditsInRows-prop [] [] = Unit-prop
AreEditsInRows-prop [] (named ∷ edit) = λ x y. absurd x
AreEditsInRows-prop (rule ∷ rules) [] = λ x y. absurd x
AreEditsInRows-prop (rule ∷ rules) (named ∷ edit) = ×_prop (IsEditInRow-prop rule named) (AreEditsInRows-prop rules edit)

AreFieldsInRange-prop : (fields : NodeFields) → IsProp (AreFieldsInRange fields)
AreFieldsInRange-prop fields x y = λ i. record {
  tag = IsTagInRange-prop _ x.tag y.tag i;
  props = AreInRows-prop v2_rules fields.props x.props y.props i;
  label = le_prop x.label y.label i;
}

IsEditInRange-prop : (edit : NodeEdit) → IsProp (IsEditInRange edit)
IsEditInRange-prop edit x y = λ i. record {
  rows = AreEditsInRows-prop v2_rules edit.rows x.rows y.rows i;
  label = IfSome-prop _ (λ label. le_prop) edit.label x.label y.label i;
}

AreNodesInRange-prop : (nodes : ScriptForest) → IsProp (AreNodesInRange nodes)
AreNodesInRange-prop no_more = Unit-prop
AreNodesInRange-prop (written fields children siblings) = λ x y i. (
  AreFieldsInRange-prop fields x.0 y.0 i,
  AreNodesInRange-prop children x.1 y.1 i,
  AreNodesInRange-prop siblings x.2 y.2 i,
)
AreNodesInRange-prop (kept tag change siblings) = λ x y i. (
  IsTagInRange-prop tag x.0 y.0 i,
  IfSome-prop _ IsEditInRange-prop change x.1 y.1 i,
  AreNodesInRange-prop siblings x.2 y.2 i,
)
AreNodesInRange-prop (kept_with tag change children siblings) = λ x y i. (
  IsTagInRange-prop tag x.0 y.0 i,
  IfSome-prop _ IsEditInRange-prop change x.1 y.1 i,
  AreNodesInRange-prop children x.2 y.2 i,
  AreNodesInRange-prop siblings x.3 y.3 i,
)

IsSizeInRange-prop : (size : Size) → IsProp (IsSizeInRange size)
IsSizeInRange-prop size x y = λ i. record {
  width_low = ≤ℤ-prop _ _ x.width_low y.width_low i;
  width_high = ≤ℤ-prop _ _ x.width_high y.width_high i;
  height_low = ≤ℤ-prop _ _ x.height_low y.height_low i;
  height_high = ≤ℤ-prop _ _ x.height_high y.height_high i;
}

IsOpInRange-prop : (op : PlainOp) → IsProp (IsOpInRange op)
IsOpInRange-prop (complete nodes) = AreNodesInRange-prop nodes
IsOpInRange-prop (state tag change) = IsTagInRange-prop tag
IsOpInRange-prop (props tag change) = ×_prop (IsTagInRange-prop tag) (IsEditInRange-prop change)
IsOpInRange-prop (resize size) = IsSizeInRange-prop size
IsOpInRange-prop stop = Unit-prop
IsOpInRange-prop suspend = Unit-prop
IsOpInRange-prop resume = Unit-prop

MayFollow-prop : (first : Size) (entries : List PlainRecord) (entry : PlainRecord) → IsProp (MayFollow first entries entry)
MayFollow-prop first entries entry x y = λ i. record {
  in_range = IsOpInRange-prop entry.op x.in_range y.in_range i;
  held = le_prop x.held y.held i;
  admitted = Coded-set (coded_option (cancel.the_row).coded) _ _ x.admitted y.admitted i;
}

MayAllFollow-prop : (first : Size) (before entries : List PlainRecord) → IsProp (MayAllFollow first before entries)
MayAllFollow-prop first before [] = Unit-prop
MayAllFollow-prop first before (entry ∷ entries) =
    ×_prop (MayFollow-prop first before entry) (MayAllFollow-prop first (before ++ entry ∷ []) entries)

-- the code of what a mount sees of a tag
coded_sight : Coded Sight
coded_sight = code_by (Option (PlainNode SettledFields) × Option Bool)
    (coded× (coded_option (coded_node coded_settled)) (coded_option coded_bool))
    (λ sight. (sight.tree, sight.shown)) (λ p. record { tree = p.0; shown = p.1 }) (λ _. refl)

IsUnchangedFrom-prop : (first : Size) (entries : List PlainRecord) (tag from : ℕ) → IsProp (IsUnchangedFrom first entries tag from)
IsUnchangedFrom-prop first entries tag from x y = λ i number low high. Coded-set coded_sight _ _ (x number low high) (y number low high) i

IsStamp-prop : (first : Size) (entries : List PlainRecord) (tag stamp : ℕ) → IsProp (IsStamp first entries tag stamp)
IsStamp-prop first entries tag stamp x y = λ i. record {
  mounted = Bool-set _ _ x.mounted y.mounted i;
  reached = le_prop x.reached y.reached i;
  unchanged = IsUnchangedFrom-prop first entries tag stamp x.unchanged y.unchanged i;
  least = λ from within unchanged. le_prop (x.least from within unchanged) (y.least from within unchanged) i;
}

AreStampsOf-prop : (first : Size) (stamps : StampMap) (entries : List PlainRecord) → IsProp (AreStampsOf first stamps entries)
AreStampsOf-prop first stamps entries x y = λ i. record {
  mounted = λ tag. Bool-set _ _ (x.mounted tag) (y.mounted tag) i;
  each = λ tag stamp found. IsStamp-prop first entries tag stamp (x.each tag stamp found) (y.each tag stamp found) i;
}

HasContentOf-prop : (first : Size) (revision : SettledRevision) (entries : List PlainRecord) → IsProp (HasContentOf first revision entries)
HasContentOf-prop first revision entries x y = λ i. record {
  number = Coded-set coded_ℕ _ _ x.number y.number i;
  size = Coded-set (size.the_row).coded _ _ x.size y.size i;
  forest = Coded-set (coded_forest coded_settled) _ _ x.forest y.forest i;
  families = λ tag. Coded-set (coded_option (family.the_row).coded) _ _ (x.families tag) (y.families tag) i;
  stamps = AreStampsOf-prop first revision.stamps entries x.stamps y.stamps i;
}

pub StandsFor-prop : (first : Size) (revision : KeptRevision) (entries : List PlainRecord) → IsProp (StandsFor first revision entries)
StandsFor-prop first revision entries x y = λ i. record {
  lawful = MayAllFollow-prop first [] entries x.lawful y.lawful i;
  newest = HasContentOf-prop first revision.newest entries x.newest y.newest i;
  mountable = HasContentOf-prop first revision.mountable _ x.mountable y.mountable i;
}
