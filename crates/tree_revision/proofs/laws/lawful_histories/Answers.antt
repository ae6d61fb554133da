use Rattle.tree_revision.proofs.Histories.{IsLawful-push, IsLawful-front}
use Rattle.tree_revision.proofs.laws.lawful_histories.Goals as goal

-- src/laws.rt:32:1
pub returns-clause-more : goal.returns-clause-more
returns-clause-more c = IsLawful-push

-- src/laws.rt:32:1
pub returns-clause-fewer : goal.returns-clause-fewer
returns-clause-fewer c = IsLawful-front
