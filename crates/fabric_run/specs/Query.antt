-- The text of `query`: where the node of a tag is on each surface, and what lies over the middle of it.
use Rattle.std.specs.Prelude.{ℕ, ℤ, pos, ◌+ℤ◌, int_div, List, ◌++◌, codes, decimal, length, map, Option, Some, None}
use Rattle.std.specs.List.{flat_map}
use Rattle.std.specs.Option.{option_map}
use Rattle.shadow_frame.specs.declared.Point.{Point}
use Rattle.shadow_frame.specs.declared.Rect.{Rect}
use Rattle.shadow_node.specs.Forest.{PlainForest}
use Rattle.shadow_node.specs.Fields.{SettledFields}
use Rattle.view_flatten.specs.HostTree.{host_tree_of}
use Rattle.tree_query.specs.Measured.{measured}
use Rattle.tree_query.specs.Topmost.{topmost_at}
use Rattle.tree_revision.specs.Script.{PlainScript}
use Rattle.tree_revision.specs.Stands.{settled_of}
use Rattle.run_report.specs.Text.{number_line, signed_spaced, spaced}
use Rattle.run_report.specs.TextParts.{line_end}
use Rattle.fabric_run.specs.declared.query.Finding.{Finding}
use Rattle.fabric_run.specs.declared.query.Place.{Place}
use Rattle.fabric_run.specs.Surfaces.{RunSurface, surfaces_of_turns}

-- the middle of a side that begins there: half of it, rounded down, after the start; no side is below 0
abbrev pub middle_along : (start side : ℤ) → ℤ
middle_along start side = start +ℤ int_div side (pos 2)

-- the middle of a rectangle
abbrev pub middle_of : Rect → Point
middle_of frame = record { x = middle_along frame.origin.x frame.size.width; y = middle_along frame.origin.y frame.size.height }

-- where the node of a tag is in a forest: its rectangle on the surface, and the topmost view over the middle of it
abbrev pub place_in : (tag : ℕ) → PlainForest SettledFields → Option Place
place_in tag forest = option_map (λ frame. record { frame = frame; hit = topmost_at (host_tree_of forest) (middle_of frame) }) (measured forest tag 0)

-- what a query for a tag finds on a surface after all its commits, whether they may be mounted or not
abbrev pub finding_on : (tag : ℕ) → RunSurface → Finding
finding_on tag (surface, part) = record { id = surface.id; at = length part.records; place = place_in tag (settled_of surface.size part.records) }

-- what a query for a tag finds on each surface after the turns of a script
abbrev pub findings_of : (tag : ℕ) → PlainScript → List Finding
findings_of tag script = map (finding_on tag) (surfaces_of_turns script)

-- an origin and a size, before a text
abbrev pub frame_then : Rect → (rest : List ℕ) → List ℕ
frame_then frame rest =
    signed_spaced frame.origin.x ++ (signed_spaced frame.origin.y ++ (signed_spaced frame.size.width ++ (signed_spaced frame.size.height ++ rest)))

-- the tag of what was hit, if anything was
abbrev pub hit_text : Option ℕ → List ℕ
hit_text None = codes "none"
hit_text (Some tag) = decimal tag

-- where a node is, to the end of the line; it may be nowhere
abbrev pub place_text : Option Place → List ℕ
place_text None = codes " absent\n"
place_text (Some place) = codes " measure" ++ frame_then place.frame (codes " hit " ++ (hit_text place.hit ++ line_end))

-- the line of a surface
abbrev pub finding_line : Finding → List ℕ
finding_line finding = codes "surface" ++ (spaced finding.id ++ (codes " at" ++ (spaced finding.at ++ place_text finding.place)))

-- what was found on all surfaces
abbrev pub findings_text : (tag : ℕ) → List Finding → List ℕ
findings_text tag findings = number_line (codes "query") tag ++ (flat_map finding_line findings ++ codes "end\n")

-- what a query for a tag tells after the turns of a script
abbrev pub query_text : (tag : ℕ) → PlainScript → List ℕ
query_text tag script = findings_text tag (findings_of tag script)
