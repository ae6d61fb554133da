use Rattle.std.proofs.Common.{◌≡◌, map, take}
use Rattle.serde_json.specs.View.{view}
use Rattle.script_read.specs.Plain.{plain_surface}
use Rattle.script_read.specs.Writing.{surface_json}
use Rattle.script_read.proofs.writing.surface_values.Given as goal

abbrev pub invariant-loop-surface : goal.invariant-loop-surface
invariant-loop-surface l = map view l.values.items ≡ map (λ surface. surface_json (plain_surface surface)) (take l.surface-index l.surfaces)
