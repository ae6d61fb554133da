use Rattle.std.proofs.Common.{refl}
use Rattle.script_read.specs.Plain.{plain_script}
use Rattle.run_report.specs.Journal.{plain_journal}
use Rattle.run_report.specs.Text.{report_text}
use Rattle.fabric_run.specs.Commands.{script_reading, IsReportOfRun}
use Rattle.fabric_run.proofs.Counts.{counts_within}
use Rattle.fabric_run.proofs.Outcome.{ends_with_text, text_leaves, scripts_refuse_more}
use Rattle.fabric_run.proofs.threads.answer_run.Goals as goal

pub run_threads-requires-clause-numbers : goal.run_threads-requires-clause-numbers
run_threads-requires-clause-numbers g c _ _ = counts_within (plain_script c.in-Ok.script) c.in-Ok.ensures.counts

pub returns : goal.returns
returns g c =
    let script = plain_script c.in-Ok.script in
    let journal = plain_journal c.in-Ok-run_threads.journal in
    let holds : IsReportOfRun script (report_text journal) = record { journal = journal; legal = c.in-Ok-run_threads.ensures.legal; tells = refl } in
    ends_with_text script_reading scripts_refuse_more IsReportOfRun _ _ _ _ c.write_text.result script c.in-Ok.ensures.reads
    (text_leaves (IsReportOfRun script) _ _ _ c.write_text.result holds c.write_text.ensures)
