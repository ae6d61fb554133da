use Rattle.tree_revision.proofs.Contents.{same_length, same_size, same_forest, same_families}
use Rattle.tree_revision.proofs.laws.revisions_stand_for_one_content.Goals as goal

pub returns-clause-length : goal.returns-clause-length
returns-clause-length c = same_length

pub returns-clause-size : goal.returns-clause-size
returns-clause-size c = same_size

pub returns-clause-forest : goal.returns-clause-forest
returns-clause-forest c = same_forest

pub returns-clause-families : goal.returns-clause-families
returns-clause-families c = same_families
