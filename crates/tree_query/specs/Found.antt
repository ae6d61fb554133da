-- What a walk to a node finds, as the code goes down to it. Only contracts inside the crate cite it.
use Rattle.std.specs.Prelude.{ℕ, pos, List, nat_eq, if◌then◌else◌, Option, Some, None}
use Rattle.std.specs.Option.{option_map, option_or}
use Rattle.shadow_frame.specs.declared.Point.{Point}
use Rattle.shadow_frame.specs.declared.Rect.{Rect}
use Rattle.shadow_node.specs.Forest.{PlainForest, none, node}
use Rattle.shadow_node.specs.Fields.{SettledFields}
use Rattle.view_flatten.specs.HostTree.{moved}
use Rattle.view_flatten.specs.Sites.{HasRoomFor}
use Rattle.tree_query.specs.Measured.{below_ancestor, sum_of_origins}
use Rattle.tree_query.specs.declared.measuring.Found.{Found}

-- where what lies below some ancestors, the nearest first, begins in the one of a tag
abbrev pub begin_below : (against : ℕ) → List SettledFields → Option Point
begin_below against above = option_map sum_of_origins (below_ancestor against above)

-- where what lies in a node begins in the one of a tag: at its corner where the node is that one, and else moved by the node's frame
abbrev pub begin_inside : (against : ℕ) → Option Point → SettledFields → Option Point
begin_inside against begin settled =
    if nat_eq settled.fields.tag against then Some (record { x = pos 0; y = pos 0 })
    else option_map (λ place. moved place settled.frame.origin) begin

-- the first node of a tag in a forest whose nodes begin there
abbrev pub found_from : (tag against : ℕ) → Option Point → PlainForest SettledFields → Option Found
found_from tag against begin none = None
found_from tag against begin (node settled children siblings) =
    if nat_eq settled.fields.tag tag then Some (record { begin = begin; frame = settled.frame })
    else option_or (found_from tag against (begin_inside against begin settled) children) (found_from tag against begin siblings)

-- the rectangle of a node that was found, where it has the ancestor that is asked for
abbrev pub rectangle_of : Found → Option Rect
rectangle_of found = option_map (λ place. record { origin = moved place found.frame.origin; size = found.frame.size }) found.begin

-- a place, where there is one, from which so many levels do not lead out of bounds
abbrev pub HasRoomFrom : (levels : ℕ) → Option Point → Type 0
HasRoomFrom levels None = Unit {0}
HasRoomFrom levels (Some place) = HasRoomFor levels place
