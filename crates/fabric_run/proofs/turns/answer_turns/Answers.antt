use Rattle.std.proofs.Common.{ap}
use Rattle.script_read.specs.Plain.{plain_script}
use Rattle.run_report.specs.Journal.{plain_journal}
use Rattle.run_report.specs.Text.{report_text}
use Rattle.fabric_run.specs.Commands.{script_reading, IsReportOfTurns}
use Rattle.fabric_run.proofs.Counts.{counts_within}
use Rattle.fabric_run.proofs.Outcome.{ends_with_text, text_leaves, scripts_refuse_more}
use Rattle.fabric_run.proofs.turns.answer_turns.Goals as goal

pub run_turns-requires-clause-numbers : goal.run_turns-requires-clause-numbers
run_turns-requires-clause-numbers g c = counts_within (plain_script c.in-Ok.script) c.in-Ok.ensures.counts

pub returns : goal.returns
returns g c =
    let script = plain_script c.in-Ok.script in
    let holds : IsReportOfTurns script (report_text (plain_journal c.in-Ok-run_turns.journal)) =
    record { legal = c.journals_of_turns_are_legal.ensures script c.in-Ok.ensures.sound; tells = ap report_text c.in-Ok-run_turns.ensures.journal } in
    ends_with_text script_reading scripts_refuse_more IsReportOfTurns _ _ _ _ c.write_text.result script c.in-Ok.ensures.reads
    (text_leaves (IsReportOfTurns script) _ _ _ c.write_text.result holds c.write_text.ensures)
