use Rattle.std.proofs.Common.{◌∙◌, ap, sym, arith, map, List}
use Rattle.std.specs.Prelude.{count_by}
use Rattle.std.specs.Option.{option_copied_mut}
use Rattle.script_read.specs.Plain.{plain_step}
use Rattle.script_read.specs.declared.script.Step.{Step}
use Rattle.run_actor.specs.Runs.{commits_on}
use Rattle.run_engine.proofs.JobsSplit.{split_next}
use Rattle.run_engine.proofs.jobs.split_passes.Goals as goal

pub loop-place-preserved : goal.loop-place-preserved
loop-place-preserved c =
    split_next (map plain_step c.args.plan.now.steps) c.args.passes.now.entries c.loop-place.passes.entries c.loop-place.own.items c.push.new.self.items c.loop-place.place _
    (c.in-Some-get_index.id.now, c.in-Some-get_index.field-0-1.now) c.in-Some-get_index_mut.pass.now c.split.new.pass c.split.result c.count_commits-permits.result (omega arith)
    c.loop-place.invariant.0 c.loop-place.invariant.1 (sym c.in-Some-get_index.ensures.entry) (sym c.get_index_mut.ensures.value ∙ ap option_copied_mut c.in-Some-get_index_mut.is)
    (c.count_commits-permits.ensures ∙ ap (λ (l : List Step). count_by (commits_on c.in-Some-get_index.id.now) (map plain_step l)) c.as_slice.ensures)
    c.split.ensures.spine c.split.ensures.kept c.split.ensures.off c.in_ok-push.ensures.items
