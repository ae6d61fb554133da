use Rattle.std.proofs.Common.{◌≡◌, ◌++◌, drop, map}
use Rattle.std.specs.Prelude.{zip}
use Rattle.script_read.specs.Plain.{plain_surface}
use Rattle.run_report.specs.Journal.{plain_surface_part}
use Rattle.fabric_run.specs.Query.{finding_on}
use Rattle.fabric_run.proofs.query.findings_of.Given as goal

abbrev pub invariant-loop-at : goal.invariant-loop-at
invariant-loop-at l =
    l.findings.items ++ map (finding_on l.tag) (zip (map plain_surface (drop l.at l.surfaces)) (map plain_surface_part (drop l.at l.part-items)))
    ≡ map (finding_on l.tag) (zip (map plain_surface l.surfaces) (map plain_surface_part l.part-items))
