use Rattle.commit_core.proofs.Passes.{pass_stays}
use Rattle.commit_core.proofs.laws.a_pass_keeps_what_it_saw.Goals as goal

pub returns : goal.returns
returns c = pass_stays
