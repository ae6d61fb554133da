use Rattle.std.proofs.Common.{◌≡◌, ◌++◌, drop, map}
use Rattle.std.specs.Prelude.{zip}
use Rattle.script_read.specs.Plain.{plain_surface}
use Rattle.run_report.specs.Journal.{plain_surface_part}
use Rattle.fabric_run.specs.Frames.{frames_on}
use Rattle.fabric_run.proofs.frames.frames_of.Given as goal

abbrev pub invariant-loop-at : goal.invariant-loop-at
invariant-loop-at l =
    l.list.items ++ map frames_on (zip (map plain_surface (drop l.at l.surfaces)) (map plain_surface_part (drop l.at l.part-items)))
    ≡ map frames_on (zip (map plain_surface l.surfaces) (map plain_surface_part l.part-items))
