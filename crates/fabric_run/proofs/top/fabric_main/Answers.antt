use Rattle.std.proofs.Common.{◌∙◌, sym}
use Rattle.fabric_run.specs.declared.status.Status.TheVariants.{Usage}
use Rattle.fabric_run.proofs.NamedCommands.{named_within}
use Rattle.fabric_run.proofs.Answering.{answers_memory, answers_named, answers_none}
use Rattle.fabric_run.proofs.top.fabric_main.Goals as goal

pub do_command-requires-after_bounds : goal.do_command-requires-after_bounds
do_command-requires-after_bounds g c κs within = named_within _ c.in-Ok-Some.command (sym c.in-Ok-Some.ensures ∙ c.in-Ok-Some.field-0-is)

pub returns-in-Ok-Some-clause-answers : goal.returns-in-Ok-Some-clause-answers
returns-in-Ok-Some-clause-answers g c =
    answers_named _ _ _ _ _ c.in-Ok-Some.command c.do_command.result (sym c.in-Ok-Some.ensures ∙ c.in-Ok-Some.field-0-is) c.do_command.ensures.ends

pub returns-in-Ok-None-clause-answers : goal.returns-in-Ok-None-clause-answers
returns-in-Ok-None-clause-answers g c = rw c.told.ensures.status (answers_none _ _ _ Usage (sym c.in-Ok-None.ensures ∙ c.in-Ok-None.field-0-is) tt)

pub returns-in-Err-clause-answers : goal.returns-in-Err-clause-answers
returns-in-Err-clause-answers g c = rw c.told-in-Err.ensures.status (answers_memory _ _ _)
