use Rattle.view_mutation.proofs.Skipped.{skipping_counts}
use Rattle.view_mutation.proofs.laws.skipping_keeps_counts.Goals as goal

pub returns : goal.returns
returns c = skipping_counts
