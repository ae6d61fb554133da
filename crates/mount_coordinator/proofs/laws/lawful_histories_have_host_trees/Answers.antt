use Rattle.mount_coordinator.proofs.HostTrees.{lawful_host_tree}
use Rattle.mount_coordinator.proofs.laws.lawful_histories_have_host_trees.Goals as goal

pub returns : goal.returns
returns c = lawful_host_tree
