use Rattle.commit_core.proofs.Tries.{below_rises, room_stays, room_goes_on, room_at_cancel, room_at_admission}
use Rattle.commit_core.proofs.laws.tries_have_clear_numbers.Goals as goal

pub returns-clause-lasts : goal.returns-clause-lasts
returns-clause-lasts c = λ wish old new commit from lasts. room_stays wish old new commit from lasts (below_rises commit.phase old new lasts)

pub returns-clause-goes_on : goal.returns-clause-goes_on
returns-clause-goes_on c = room_goes_on

pub returns-clause-cancelled : goal.returns-clause-cancelled
returns-clause-cancelled c = room_at_cancel

pub returns-clause-admitted : goal.returns-clause-admitted
returns-clause-admitted c = room_at_admission
