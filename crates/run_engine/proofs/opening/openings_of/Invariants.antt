use Rattle.std.proofs.Common.{map, take}
use Rattle.script_read.specs.Plain.{plain_surface}
use Rattle.run_engine.specs.Opening.{AreOpenings}
use Rattle.run_engine.proofs.opening.openings_of.Given as goal

abbrev pub invariant-loop-surface : goal.invariant-loop-surface
invariant-loop-surface l = AreOpenings (map plain_surface (take l.surface-index l.surfaces)) l.first.items
