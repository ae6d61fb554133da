-- The limits that a revision keeps.
use Rattle.std.specs.Prelude.{pos, negsuc, ◌≤ℤ◌}
use Rattle.shadow_frame.specs.declared.Rect.{Rect}
use Rattle.shadow_frame.specs.declared.Size.{Size}
use Rattle.shadow_node.specs.Forest.{PlainForest, none, node}
use Rattle.shadow_node.specs.Fields.{SettledFields, contents_of}
use Rattle.shadow_node.specs.Limits.{IsForestWithin}

-- a frame begins at most 105,000,000 points from its parent's, either way
pub record IsFrameInBounds (frame : Rect) : Type 0 where
  pub x_low : negsuc 104999999 ≤ℤ frame.origin.x
  pub x_high : frame.origin.x ≤ℤ pos 105000000
  pub y_low : negsuc 104999999 ≤ℤ frame.origin.y
  pub y_high : frame.origin.y ≤ℤ pos 105000000

-- the same of each node's frame
abbrev pub AreFramesInBounds : PlainForest SettledFields → Type 0
AreFramesInBounds none = Unit {0}
AreFramesInBounds (node settled children siblings) =
    IsFrameInBounds settled.frame × AreFramesInBounds children × AreFramesInBounds siblings

-- a surface's size is from 0 to 1,000,000 points each way
pub record IsSizeInRange (size : Size) : Type 0 where
  pub width_low : pos 0 ≤ℤ size.width
  pub width_high : size.width ≤ℤ pos 1000000
  pub height_low : pos 0 ≤ℤ size.height
  pub height_high : size.height ≤ℤ pos 1000000

-- the forest of a revision: within the limits, and with frames in bounds
pub record IsForestInLimits (forest : PlainForest SettledFields) : Type 0 where
  pub within : IsForestWithin (contents_of forest)
  pub frames : AreFramesInBounds forest
