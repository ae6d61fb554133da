use Rattle.std.proofs.Common.{sym, subst}
use Rattle.std.specs.Prelude.{nat_eq}
use Rattle.std.specs.List.{IsDistinct}
use Rattle.script_read.specs.Plain.{plain_script}
use Rattle.run_engine.proofs.SpinesOpened.{may_work}
use Rattle.run_engine.proofs.SpinesClosed.{may_close}
use Rattle.run_engine.proofs.ThreadsLegal.{answer_legal, answer_names}
use Rattle.run_engine.proofs.thread_run.run_threads.Goals as goal

pub run_workers-requires-clause-passes : goal.run_workers-requires-clause-passes
run_workers-requires-clause-passes g c κs lives = may_work (plain_script c.args.script.now) c.in_ok-spines.spines.entries c.in_ok-spines.passes.entries c.in_ok-spines.ensures

pub close_run-requires-clause-ids : goal.close_run-requires-clause-ids
close_run-requires-clause-ids g c = subst (IsDistinct nat_eq) (sym c.in_ok-spines.ensures.spine_ids) c.requires.sound.ids_differ

pub close_run-requires-clause-may : goal.close_run-requires-clause-may
close_run-requires-clause-may g c =
    may_close (plain_script c.args.script.now) c.in_ok-spines.spines.entries c.in_ok-spines.passes.entries c.run_workers.new.passes.entries c.in_ok-worked.worked.actors.items
    c.in_ok-worked.worked.mounts.items c.in_ok-spines.ensures c.in_ok-worked.ensures.worked

pub returns-clause-legal : goal.returns-clause-legal
returns-clause-legal g c =
    answer_legal (plain_script c.args.script.now) c.requires.sound c.in_ok-spines.spines.entries c.in_ok-spines.passes.entries c.run_workers.new.passes.entries c.in_ok-worked.worked.actors.items
    c.in_ok-worked.worked.mounts.items c.in_ok-spines.ensures c.in_ok-worked.ensures.worked c.close_run.result c.close_run.ensures

pub returns-clause-names : goal.returns-clause-names
returns-clause-names g c =
    answer_names (plain_script c.args.script.now) c.requires.sound c.in_ok-spines.spines.entries c.in_ok-spines.passes.entries c.run_workers.new.passes.entries c.in_ok-worked.worked.actors.items
    c.in_ok-worked.worked.mounts.items c.in_ok-spines.ensures c.in_ok-worked.ensures.worked c.close_run.result c.close_run.ensures
