use Rattle.script_read.specs.Plain.{plain_script}
use Rattle.run_engine.proofs.SpinesOpened.{may_work}
use Rattle.run_engine.proofs.gate_tests.a_worker_is_overtaken.Goals as goal

pub run_workers-requires-clause-passes : goal.run_workers-requires-clause-passes
run_workers-requires-clause-passes g c lives = may_work (plain_script c.in_ok-script.script) c.in_ok-spines.spines.entries c.in_ok-spines.passes.entries c.in_ok-spines.ensures
