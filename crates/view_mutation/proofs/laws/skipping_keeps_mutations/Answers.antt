use Rattle.view_mutation.proofs.Skipped.{skipping_keeps}
use Rattle.view_mutation.proofs.laws.skipping_keeps_mutations.Goals as goal

pub returns : goal.returns
returns c = skipping_keeps
