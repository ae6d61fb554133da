use Rattle.mount_coordinator.proofs.HostTrees.{histories_lead_on}
use Rattle.mount_coordinator.proofs.laws.lawful_histories_lead_on.Goals as goal

pub returns : goal.returns
returns c = histories_lead_on
