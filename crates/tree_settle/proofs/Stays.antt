-- When a node stays as it is.
use Rattle.std.proofs.Common.{◌≡◌, ℕ, zero, suc, ◌+◌, ◌∙◌, Bool, true, false, not, ◌&&◌, Option, Some, None, is_some, unwrap_or, Decides, refl, ap, sym, arith}
use Rattle.std.specs.Prelude.{nat_lt}
use Rattle.std.specs.Option.{option_eq}
use Rattle.std.proofs.lemmas.Bool.Decides.{Decides-and, nat_tests}
use Rattle.shadow_frame.specs.declared.Rect.{Rect}
use Rattle.shadow_frame.specs.declared.Size.{Size}
use Rattle.shadow_frame.specs.Same.{is_same_frame}
use Rattle.shadow_frame.proofs.Same.{by_parts, same_options, same_frames}
use Rattle.native_state.specs.declared.StateCell.{StateCell}
use Rattle.native_state.specs.Same.{is_same_cell}
use Rattle.native_state.proofs.Same.{same_cells}
use Rattle.shadow_kinds.specs.Traits.{has_state_of}
use Rattle.shadow_node.specs.Forest.{PlainForest, PlainNode}
use Rattle.shadow_node.specs.Fields.{SettledFields, contents_of}
use Rattle.shadow_node.specs.Frames.{frame_in, state_when}
use Rattle.tree_settle.specs.Changes.{is_settled, changes_with, changes_in}
use Rattle.tree_settle.specs.Walk.{fields_in, settled_in, settled_tree, changes_of}

-- a node is settled exactly where it has its state and its frame
pub decides_settled : (parent : Size) (newest : ℕ → StateCell) (settled : SettledFields) → Decides (is_settled parent newest settled) (settled ≡ fields_in parent newest settled.fields)
decides_settled parent newest settled =
    by_parts _
    (Decides-and _ _
    (same_options is_same_cell same_cells (state_when (has_state_of settled.fields.kind) (newest settled.fields.tag)) settled.state)
    (same_frames (frame_in parent settled.fields) settled.frame))
    (λ same i. record { fields = settled.fields; state = sym same.0 i; frame = sym same.1 i })
    (λ e. (sym (ap (λ s. s.state) e), sym (ap (λ s. s.frame) e)))

-- where no other one came, it is the one that was
not_some : {A : Type 0} (new : Option A) (old : A) → is_some new ≡ false → unwrap_or new old ≡ old
not_some None old h = refl
not_some (Some new) old h = cc

-- no other one came, and the node is settled
both_true : (a b : Bool) → (not a && b) ≡ true → (a ≡ false) × (b ≡ true)
both_true false b h = (refl, h)
both_true true b h = cc

-- a settled node below which nothing changes does not change
stays_zero : (settled : Bool) (below : ℕ) (some : Bool) → some ≡ nat_lt 0 below → (not some && settled) ≡ true → changes_with settled below ≡ 0
stays_zero true zero some e h = refl
stays_zero true (suc below) true e h = cc
stays_zero true (suc below) false e h = absurd (grind (arith, nat_tests))
stays_zero false below true e h = cc
stays_zero false below false e h = cc

-- any other node is one more that changes
changes_more : (settled : Bool) (below : ℕ) (some : Bool) → some ≡ nat_lt 0 below → (not some && settled) ≡ false → changes_with settled below ≡ below + 1
changes_more false below some e h = refl
changes_more true (suc below) some e h = refl
changes_more true zero some e h = cc

-- the walk at one node: it has that state and that frame to get, its children may become another forest, and it may stay
module _ (parent : Size) (newest : ℕ → StateCell) (tree : PlainNode SettledFields) (state : Option StateCell) (frame : Rect) (new : Option (PlainForest SettledFields)) (stays : Bool) (is_state : state ≡ state_when (has_state_of tree.fields.fields.kind) (newest tree.fields.fields.tag)) (is_frame : frame ≡ frame_in parent tree.fields.fields) (changed : is_some new ≡ nat_lt 0 (changes_in frame.size newest tree.children)) (told : stays ≡ (not (is_some new) && (option_eq is_same_cell state tree.fields.state && is_same_frame frame tree.fields.frame))) where
  told_settled : stays ≡ (not (is_some new) && is_settled parent newest tree.fields)
  told_settled = rw (is_state, is_frame) at told

  -- where it stays, it is settled with what lies below it
  pub tree_stays : unwrap_or new tree.children ≡ settled_in frame.size newest (contents_of tree.children) → stays ≡ true → tree ≡ settled_tree parent newest tree
  tree_stays below h =
      let both = both_true (is_some new) (is_settled parent newest tree.fields) (sym told_settled ∙ h) in
      let fields = (decides_settled parent newest tree.fields).0 both.1 in
      let children : tree.children ≡ settled_in (frame_in parent tree.fields.fields).size newest (contents_of tree.children) =
      sym (not_some new tree.children both.0) ∙ (rw is_frame at below) in
      λ i. record { fields = fields i; children = children i }

  -- where it stays, none changes
  pub none_changes : stays ≡ true → changes_of parent newest tree ≡ 0
  none_changes h = stays_zero (is_settled parent newest tree.fields) _ (is_some new) (rw is_frame at changed) (sym told_settled ∙ h)

  -- where it does not, it changes as well
  pub one_more_changes : stays ≡ false → changes_of parent newest tree ≡ changes_in frame.size newest tree.children + 1
  one_more_changes h = rw is_frame (changes_more (is_settled parent newest tree.fields) _ (is_some new) (rw is_frame at changed) (sym told_settled ∙ h))
