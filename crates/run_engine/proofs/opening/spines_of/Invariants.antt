use Rattle.std.proofs.Common.{map, take}
use Rattle.script_read.specs.Plain.{plain_actor}
use Rattle.run_report.specs.Shorthands.{begun}
use Rattle.run_engine.specs.Opening.{AreHistories}
use Rattle.run_engine.proofs.opening.spines_of.Given as goal

abbrev pub invariant-loop-opening : goal.invariant-loop-opening
invariant-loop-opening l = AreHistories (map begun (map plain_actor l.fn.actors)) (take l.opening-index l.first) l.spines.items
