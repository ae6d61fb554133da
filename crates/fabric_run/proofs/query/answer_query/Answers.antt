use Rattle.std.proofs.Common.{map, subst, sym, ap, ◌∙◌}
use Rattle.script_read.specs.Plain.{plain_script}
use Rattle.run_report.specs.Legal.{IsLegal}
use Rattle.fabric_run.specs.Commands.{script_reading, IsQueryOf}
use Rattle.fabric_run.specs.Query.{finding_on, findings_text}
use Rattle.fabric_run.specs.Surfaces.{surfaces_in}
use Rattle.fabric_run.proofs.Counts.{counts_within}
use Rattle.fabric_run.proofs.Outcome.{ends_with_text, text_leaves, scripts_refuse_more}
use Rattle.fabric_run.proofs.query.answer_query.Goals as goal

pub run_turns-requires-clause-numbers : goal.run_turns-requires-clause-numbers
run_turns-requires-clause-numbers g c = counts_within (plain_script c.in-Ok.script) c.in-Ok.ensures.counts

pub findings_of-requires-clause-legal : goal.findings_of-requires-clause-legal
findings_of-requires-clause-legal g c =
    let script = plain_script c.in-Ok.script in
    subst (IsLegal script) (sym c.in-Ok-run_turns.ensures.journal) (c.journals_of_turns_are_legal.ensures script c.in-Ok.ensures.sound)

pub returns : goal.returns
returns g c =
    let script = plain_script c.in-Ok.script in
    let findings = c.in-Ok-findings_of.findings.items in
    let holds : IsQueryOf c.args.number script (findings_text c.args.number findings) =
    record {
      legal = c.journals_of_turns_are_legal.ensures script c.in-Ok.ensures.sound;
      tells =
          ap (findings_text c.args.number)
          (c.in-Ok-findings_of.ensures ∙ ap (λ journal. map (finding_on c.args.number) (surfaces_in script journal)) c.in-Ok-run_turns.ensures.journal);
    } in
    ends_with_text script_reading scripts_refuse_more (IsQueryOf c.args.number) _ _ _ _ c.write_text.result script c.in-Ok.ensures.reads
    (text_leaves (IsQueryOf c.args.number script) _ _ _ c.write_text.result holds c.write_text.ensures)
