-- Settling changes nothing exactly where a forest is settled already.
use Rattle.std.proofs.Common.{◌≡◌, ℕ, zero, suc, ◌+◌, [], true, false, Bool, refl, ap, arith}
use Rattle.shadow_frame.specs.declared.Size.{Size}
use Rattle.native_state.specs.declared.StateCell.{StateCell}
use Rattle.shadow_node.specs.Forest.{PlainForest, none, node, PlainNode}
use Rattle.shadow_node.specs.Fields.{SettledFields, contents_of}
use Rattle.shadow_node.specs.Frames.{frame_in}
use Rattle.tree_settle.specs.Along.{IsSettledBut, changed_tags, changed_tags_of}
use Rattle.tree_settle.specs.Changes.{changes_in, changes_with}
use Rattle.tree_settle.specs.Walk.{changes_of, settled_in, settled_tree}
use Rattle.tree_settle.proofs.Stays.{decides_settled}

-- equal forests have equal first nodes
fields_same : (a b : SettledFields) (below_a below_b after_a after_b : PlainForest SettledFields) → node a below_a after_a ≡ node b below_b after_b → a ≡ b
fields_same a b below_a below_b after_a after_b e = cc

-- and the same below them
below_same : (a b : SettledFields) (below_a below_b after_a after_b : PlainForest SettledFields) → node a below_a after_a ≡ node b below_b after_b → below_a ≡ below_b
below_same a b below_a below_b after_a after_b e = cc

-- and the same after them
after_same : (a b : SettledFields) (below_a below_b after_a after_b : PlainForest SettledFields) → node a below_a after_a ≡ node b below_b after_b → after_a ≡ after_b
after_same a b below_a below_b after_a after_b e = cc

-- a tree of which no node changes is settled at its top, and nothing below it changes
none_with : (is_settled : Bool) (below : ℕ) → changes_with is_settled below ≡ 0 → (is_settled ≡ true) × (below ≡ 0)
none_with true zero e = (refl, refl)
none_with true (suc below) e = absurd (omega (arith, e))
none_with false below e = absurd (omega (arith, e))

-- a sum is nothing where both parts are
both_none : (a b : ℕ) → a + b ≡ 0 → (a ≡ 0) × (b ≡ 0)
both_none a b e = (omega (arith, e), omega (arith, e))

-- a forest that is settled in its parent changes nowhere
pub none_changes-settled : (parent : Size) (newest : ℕ → StateCell) (forest : PlainForest SettledFields) → forest ≡ settled_in parent newest (contents_of forest)
    → changes_in parent newest forest ≡ 0
none_changes-settled parent newest none e = refl
none_changes-settled parent newest (node settled children siblings) e =
    let top = (decides_settled parent newest settled).1 (fields_same _ _ _ _ _ _ e) in
    let below = none_changes-settled (frame_in parent settled.fields).size newest children (below_same _ _ _ _ _ _ e) in
    let after = none_changes-settled parent newest siblings (after_same _ _ _ _ _ _ e) in
    rw (top, below, after) refl

-- a forest that changes nowhere in a parent is settled in it
pub settled-none_changes : (parent : Size) (newest : ℕ → StateCell) (forest : PlainForest SettledFields) → changes_in parent newest forest ≡ 0
    → forest ≡ settled_in parent newest (contents_of forest)
settled-none_changes parent newest none e = refl
settled-none_changes parent newest (node settled children siblings) e =
    let each = both_none _ _ e in
    let tree = none_with _ _ each.0 in
    let top = (decides_settled parent newest settled).0 tree.0 in
    let below = settled-none_changes (frame_in parent settled.fields).size newest children tree.1 in
    let after = settled-none_changes parent newest siblings each.1 in
    λ i. node (top i) (below i) (after i)

-- where no node changes, no tag is listed
pub no_tags-none_changes : (parent : Size) (newest : ℕ → StateCell) (forest : PlainForest SettledFields) → changes_in parent newest forest ≡ 0
    → changed_tags parent newest forest ≡ []
no_tags-none_changes parent newest none e = refl
no_tags-none_changes parent newest (node settled children siblings) e =
    let each = both_none _ _ e in
    let tree = none_with _ _ each.0 in
    rw (no_tags-none_changes (frame_in parent settled.fields).size newest children tree.1, each.0, no_tags-none_changes parent newest siblings each.1) refl

-- a tree that is settled in its parent changes nowhere
pub none_changes-settled_tree : (parent : Size) (newest : ℕ → StateCell) (tree : PlainNode SettledFields) → tree ≡ settled_tree parent newest tree
    → changes_of parent newest tree ≡ 0
none_changes-settled_tree parent newest tree e =
    let top = (decides_settled parent newest tree.fields).1 (ap (λ t. t.fields) e) in
    let below = none_changes-settled (frame_in parent tree.fields.fields).size newest tree.children (ap (λ t. t.children) e) in
    rw (top, below) refl

-- a tree that changes nowhere in a parent is settled in it
pub settled_tree-none_changes : (parent : Size) (newest : ℕ → StateCell) (tree : PlainNode SettledFields) → changes_of parent newest tree ≡ 0
    → tree ≡ settled_tree parent newest tree
settled_tree-none_changes parent newest tree e =
    let both = none_with _ _ e in
    let top = (decides_settled parent newest tree.fields).0 both.0 in
    let below = settled-none_changes (frame_in parent tree.fields.fields).size newest tree.children both.1 in
    λ i. record { fields = top i; children = below i }

-- nor does anything below its top
pub none_below : (parent : Size) (newest : ℕ → StateCell) (tree : PlainNode SettledFields) → changes_of parent newest tree ≡ 0
    → changes_in (frame_in parent tree.fields.fields).size newest tree.children ≡ 0
none_below parent newest tree e = (none_with _ _ e).1

-- where no node of a tree changes, no tag is listed
pub no_tags-none_of : (parent : Size) (newest : ℕ → StateCell) (tree : PlainNode SettledFields) → changes_of parent newest tree ≡ 0
    → changed_tags_of parent newest tree ≡ []
no_tags-none_of parent newest tree e =
    rw (e, no_tags-none_changes (frame_in parent tree.fields.fields).size newest tree.children (none_below parent newest tree e)) refl

-- a forest that is settled in its parent is so with no node left out
pub but_none-settled : (parent : Size) (newest : ℕ → StateCell) (forest : PlainForest SettledFields) → forest ≡ settled_in parent newest (contents_of forest)
    → IsSettledBut parent newest [] forest
but_none-settled parent newest none e = tt
but_none-settled parent newest (node settled children siblings) e =
    let top = fields_same _ _ _ _ _ _ e in
    let below = below_same _ _ _ _ _ _ e in
    (λ leads. absurd cc, λ off i. record { fields = top i; children = below i }, but_none-settled parent newest siblings (after_same _ _ _ _ _ _ e))

-- a forest of which no node is left out is settled
pub settled-but_none : (parent : Size) (newest : ℕ → StateCell) (forest : PlainForest SettledFields) → IsSettledBut parent newest [] forest
    → forest ≡ settled_in parent newest (contents_of forest)
settled-but_none parent newest none but = refl
settled-but_none parent newest (node settled children siblings) but =
    let tree = but.1 refl in
    let after = settled-but_none parent newest siblings but.2 in
    λ i. node (tree i).fields (tree i).children (after i)
