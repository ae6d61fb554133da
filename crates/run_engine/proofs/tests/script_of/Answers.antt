use Rattle.script_read.specs.Plain.{plain_script}
use Rattle.run_engine.proofs.Counts.{counts_within}
use Rattle.run_engine.proofs.tests.script_of.Goals as goal

pub returns-in-Ok-clause-numbers : goal.returns-in-Ok-clause-numbers
returns-in-Ok-clause-numbers c = counts_within (plain_script c.in-Ok.script) c.in-Ok.ensures.counts
