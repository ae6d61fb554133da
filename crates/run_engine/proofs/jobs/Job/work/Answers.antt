use Rattle.std.proofs.Common.{sym, ◌∙◌}
use Rattle.run_engine.specs.Jobs.{HasRunJob}
use Rattle.run_engine.proofs.Places.{of_ok}
use Rattle.run_engine.proofs.jobs.Job.work.Goals as goal

pub returns : goal.returns
returns g c e =
    let run = of_ok c.run.result (HasRunJob c.args.spines.now.entries c.args.self.now c.run.new.self) (sym c.is_err-self.ensures.value ∙ e) c.run.ensures in
    record { run = run.run; passes = run.passes; mounts = run.mounts; each = run.each }
