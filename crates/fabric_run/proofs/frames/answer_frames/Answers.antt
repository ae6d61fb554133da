use Rattle.std.proofs.Common.{map, subst, sym, ap, ◌∙◌}
use Rattle.script_read.specs.Plain.{plain_script}
use Rattle.run_report.specs.Legal.{IsLegal}
use Rattle.fabric_run.specs.Commands.{script_reading, AreFramesOfTurns}
use Rattle.fabric_run.specs.Frames.{all_frames_text, frames_on}
use Rattle.fabric_run.specs.Surfaces.{surfaces_in}
use Rattle.fabric_run.proofs.Counts.{counts_within}
use Rattle.fabric_run.proofs.Outcome.{ends_with_text, text_leaves, scripts_refuse_more}
use Rattle.fabric_run.proofs.frames.answer_frames.Goals as goal

pub run_turns-requires-clause-numbers : goal.run_turns-requires-clause-numbers
run_turns-requires-clause-numbers g c = counts_within (plain_script c.in-Ok.script) c.in-Ok.ensures.counts

pub frames_of-requires : goal.frames_of-requires
frames_of-requires g c =
    let script = plain_script c.in-Ok.script in
    subst (IsLegal script) (sym c.in-Ok-run_turns.ensures.journal) (c.journals_of_turns_are_legal.ensures script c.in-Ok.ensures.sound)

pub returns : goal.returns
returns g c =
    let script = plain_script c.in-Ok.script in
    let surfaces = c.in-Ok-frames_of.surfaces.items in
    let holds : AreFramesOfTurns script (all_frames_text surfaces) =
    record {
      legal = c.journals_of_turns_are_legal.ensures script c.in-Ok.ensures.sound;
      tells =
          ap all_frames_text (c.in-Ok-frames_of.ensures ∙ ap (λ journal. map frames_on (surfaces_in script journal)) c.in-Ok-run_turns.ensures.journal);
    } in
    ends_with_text script_reading scripts_refuse_more AreFramesOfTurns _ _ _ _ c.write_text.result script c.in-Ok.ensures.reads
    (text_leaves (AreFramesOfTurns script) _ _ _ c.write_text.result holds c.write_text.ensures)
