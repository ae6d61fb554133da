-- What settling gives is settled: settling it once more leaves it as it is.
use Rattle.std.proofs.Common.{◌≡◌, ℕ, ◌∙◌, [], ap, sym}
use Rattle.shadow_frame.specs.declared.Size.{Size}
use Rattle.native_state.specs.declared.StateCell.{StateCell}
use Rattle.shadow_node.specs.Forest.{PlainForest}
use Rattle.shadow_node.specs.Fields.{NodeFields, SettledFields, contents_of}
use Rattle.shadow_node.specs.Frames.{settled_forest}
use Rattle.tree_settle.specs.Walk.{settled_in}
use Rattle.tree_settle.proofs.Settled.{contents_of-settled, settled_below-in}

-- a forest is settled in a parent of that size: settling leaves it as it is
abbrev pub IsSettled : (parent : Size) → (newest : ℕ → StateCell) → PlainForest SettledFields → Type 0
IsSettled parent newest forest = forest ≡ settled_in parent newest (contents_of forest)

-- what settling gives is settled
pub settled_again : (size : Size) (newest : ℕ → StateCell) (contents : PlainForest NodeFields) (forest : PlainForest SettledFields)
    → forest ≡ settled_forest size newest contents → forest ≡ settled_forest size newest (contents_of forest)
settled_again size newest contents forest is =
    is ∙ ap (settled_forest size newest) (sym (ap contents_of is ∙ contents_of-settled size newest [] contents))

-- a surface's forest that is settled is settled in the surface's size
pub settled_surface : (size : Size) (newest : ℕ → StateCell) (forest : PlainForest SettledFields)
    → forest ≡ settled_forest size newest (contents_of forest) → IsSettled size newest forest
settled_surface size newest forest is = is ∙ settled_below-in size newest [] (contents_of forest)
