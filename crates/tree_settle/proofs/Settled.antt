-- What settling keeps, and what a settled forest is.
use Rattle.std.proofs.Common.{◌≡◌, ℕ, List, [], ◌∷◌, ◌∙◌, Bool, true, false, ap, refl}
use Rattle.std.specs.Prelude.{Result, Ok, Err, IfOk}
use Rattle.std.specs.declared.alloc.AllocError.{AllocError}
use Rattle.shadow_frame.specs.declared.Size.{Size}
use Rattle.shadow_frame.specs.declared.Rect.{Rect}
use Rattle.native_state.specs.declared.StateCell.{StateCell}
use Rattle.shadow_node.specs.Forest.{PlainForest, none, node, node_count, depth_of}
use Rattle.shadow_node.specs.Fields.{NodeFields, SettledFields, contents_of}
use Rattle.shadow_node.specs.Frames.{frame_in, frame_of, settled_below}
use Rattle.shadow_node.specs.Sound.{FitsLeaf}
use Rattle.shadow_node.specs.Limits.{IsForestWithin}
use Rattle.tree_settle.specs.Limits.{AreFramesInBounds, IsForestInLimits}
use Rattle.tree_settle.specs.Walk.{settled_in}

-- settling changes no contents
pub contents_of-settled : (size : Size) (newest : ℕ → StateCell) (above : List NodeFields) (forest : PlainForest NodeFields)
    → contents_of (settled_below size newest above forest) ≡ forest
contents_of-settled size newest above none = refl
contents_of-settled size newest above (node fields children siblings) =
    rw (contents_of-settled size newest (fields ∷ above) children, contents_of-settled size newest above siblings) refl

-- settling keeps the number of nodes
pub node_count-settled : (size : Size) (newest : ℕ → StateCell) (above : List NodeFields) (forest : PlainForest NodeFields)
    → node_count (settled_below size newest above forest) ≡ node_count forest
node_count-settled size newest above none = refl
node_count-settled size newest above (node fields children siblings) =
    rw (node_count-settled size newest (fields ∷ above) children, node_count-settled size newest above siblings) refl

-- settling keeps the depth
pub depth_of-settled : (size : Size) (newest : ℕ → StateCell) (above : List NodeFields) (forest : PlainForest NodeFields)
    → depth_of (settled_below size newest above forest) ≡ depth_of forest
depth_of-settled size newest above none = refl
depth_of-settled size newest above (node fields children siblings) =
    rw (depth_of-settled size newest (fields ∷ above) children, depth_of-settled size newest above siblings) refl

-- the size that the nearest ancestor has, or the surface
abbrev pub parent_size : Size → List NodeFields → Size
parent_size size [] = size
parent_size size (parent ∷ above) = (frame_of size above parent).size

-- a node's frame is its frame in its parent's size
frame_of-parent : (size : Size) (above : List NodeFields) (fields : NodeFields) → frame_of size above fields ≡ frame_in (parent_size size above) fields
frame_of-parent size [] fields = refl
frame_of-parent size (parent ∷ above) fields = refl

-- a forest settled below its ancestors is settled in its parent
pub settled_below-in : (size : Size) (newest : ℕ → StateCell) (above : List NodeFields) (forest : PlainForest NodeFields)
    → settled_below size newest above forest ≡ settled_in (parent_size size above) newest forest
settled_below-in size newest above none = refl
settled_below-in size newest above (node fields children siblings) =
    let frame : frame_of size above fields ≡ frame_in (parent_size size above) fields = frame_of-parent size above fields in
    let below : settled_below size newest (fields ∷ above) children ≡ settled_in (frame_in (parent_size size above) fields).size newest children =
    settled_below-in size newest (fields ∷ above) children ∙ ap (λ (r : Rect). settled_in r.size newest children) frame in
    rw (below, settled_below-in size newest above siblings, frame) refl

-- a leaf that is settled still has no children
pub FitsLeaf-settled : (is_leaf : Bool) (parent : Size) (newest : ℕ → StateCell) (forest : PlainForest SettledFields) → FitsLeaf is_leaf forest
    → FitsLeaf is_leaf (settled_in parent newest (contents_of forest))
FitsLeaf-settled true parent newest none fits = tt
FitsLeaf-settled true parent newest (node settled children siblings) fits = absurd fits
FitsLeaf-settled false parent newest forest fits = tt

-- a settled forest has the frames that settling gives
pub settled-frames : (size : Size) (newest : ℕ → StateCell) (forest : PlainForest NodeFields) (answer : Result (PlainForest SettledFields) AllocError)
    → AreFramesInBounds (settled_in size newest forest) → IfOk answer (λ settled. settled ≡ settled_in size newest forest) → IfOk answer AreFramesInBounds
settled-frames size newest forest (Ok settled) frames e = rw e frames
settled-frames size newest forest (Err error) frames e = tt

-- where a forest is within the limits, it is in them once it is settled, with its frames in bounds
pub settled-in_limits : (size : Size) (newest : ℕ → StateCell) (forest : PlainForest NodeFields) (answer : Result (PlainForest SettledFields) AllocError)
    → AreFramesInBounds (settled_in size newest forest) → IfOk answer (λ settled. settled ≡ settled_in size newest forest)
    → IfOk answer (λ settled. IsForestWithin forest → IsForestInLimits settled)
settled-in_limits size newest forest (Ok settled) frames e = λ within.
    let same = settled_below-in size newest [] forest in
    record {
      within = rw (e, ← same, contents_of-settled size newest [] forest) within;
      frames = rw e frames;
    }
settled-in_limits size newest forest (Err error) frames e = tt
