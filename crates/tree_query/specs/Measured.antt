-- Where a node lies, measured against one of its ancestors or against the surface.
use Rattle.std.specs.Prelude.{ℕ, pos, List, [], ◌∷◌, nat_eq, if◌then◌else◌, Option, Some, None, option_and_then}
use Rattle.std.specs.List.{find}
use Rattle.std.specs.Option.{option_map}
use Rattle.shadow_frame.specs.declared.Point.{Point}
use Rattle.shadow_frame.specs.declared.Rect.{Rect}
use Rattle.shadow_node.specs.Forest.{PlainForest}
use Rattle.shadow_node.specs.Fields.{SettledFields}
use Rattle.shadow_node.specs.Shown.{Descendant, descendants}
use Rattle.view_flatten.specs.HostTree.{moved}

-- of some ancestors, the nearest first, those below the one of a tag: all of them below 0, the surface; nothing where no ancestor has the tag
abbrev pub below_ancestor : ℕ → List SettledFields → Option (List SettledFields)
below_ancestor tag [] = if nat_eq tag 0 then Some [] else None
below_ancestor tag (parent ∷ above) =
    if nat_eq parent.fields.tag tag then Some [] else option_map (λ below. parent ∷ below) (below_ancestor tag above)

-- the sum of the frame origins of some nodes
abbrev pub sum_of_origins : List SettledFields → Point
sum_of_origins [] = record { x = pos 0; y = pos 0 }
sum_of_origins (settled ∷ others) = moved (sum_of_origins others) settled.frame.origin

-- a node measured against the ancestor of a tag, or against the surface by tag 0: it begins at the sum of the frame origins of the node and of its ancestors below that one, and has its frame's size
abbrev pub measured_against : ℕ → Descendant → Option Rect
measured_against tag here =
    option_map (λ below. record { origin = sum_of_origins (here.settled ∷ below); size = here.settled.frame.size }) (below_ancestor tag here.above)

-- the first node of a tag, measured so; nothing where the forest has no such node, or where the node has no such ancestor
abbrev pub measured : PlainForest SettledFields → (tag against : ℕ) → Option Rect
measured forest tag against =
    option_and_then (measured_against against) (find (λ here. nat_eq here.settled.fields.tag tag) (descendants forest))
