use Rattle.commit_core.proofs.Steps.{looks_later, ready_later}
use Rattle.commit_core.proofs.laws.a_ready_commit_stays_ready.Goals as goal

pub returns-clause-looks : goal.returns-clause-looks
returns-clause-looks c = looks_later

pub returns-clause-offers : goal.returns-clause-offers
returns-clause-offers c = ready_later
