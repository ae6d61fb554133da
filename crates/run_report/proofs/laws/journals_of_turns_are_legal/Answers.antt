use Rattle.tree_revision.specs.Wishes.{as_written}
use Rattle.run_report.proofs.AtEnd.{turns_legal}
use Rattle.run_report.proofs.laws.journals_of_turns_are_legal.Goals as goal

pub returns : goal.returns
returns c script sound = turns_legal as_written (λ entries held op fits. fits) script sound
