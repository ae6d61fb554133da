use Rattle.std.proofs.Common.{◌≡◌, take, map}
use Rattle.serde_json.specs.View.{view}
use Rattle.script_read.specs.Plain.{plain_surface}
use Rattle.script_read.specs.Value.{surface_of}
use Rattle.script_read.proofs.build.read_surfaces.Given as goal

abbrev pub invariant-loop-surface : goal.invariant-loop-surface
invariant-loop-surface l = map plain_surface l.surfaces ≡ map surface_of (map view (take l.surface-index l.list))
