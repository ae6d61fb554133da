use Rattle.tree_revision.proofs.Mountable.{mountable_of-within, mountable_of-rises}
use Rattle.tree_revision.proofs.laws.mountable_never_falls.Goals as goal

-- src/laws.rt:13:1
pub returns-clause-within : goal.returns-clause-within
returns-clause-within c = mountable_of-within

-- src/laws.rt:13:1
pub returns-clause-rises : goal.returns-clause-rises
returns-clause-rises c = mountable_of-rises
