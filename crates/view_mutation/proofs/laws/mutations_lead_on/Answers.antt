use Rattle.view_mutation.proofs.Whole.{lead_on}
use Rattle.view_mutation.proofs.laws.mutations_lead_on.Goals as goal

pub returns : goal.returns
returns c = lead_on
