use Rattle.run_report.proofs.AtEnd.{turns_legal}
use Rattle.run_report.proofs.laws.journals_of_hooked_turns_are_legal.Goals as goal

pub returns : goal.returns
returns c wish script keeps sound = turns_legal wish keeps script sound
