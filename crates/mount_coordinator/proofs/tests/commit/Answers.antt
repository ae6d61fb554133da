use Rattle.tree_revision.specs.Records.{plain_op}
use Rattle.mount_coordinator.proofs.OneMore.{one_more}
use Rattle.mount_coordinator.proofs.tests.commit.Goals as goal

pub returns : goal.returns
returns c =
    one_more c.args._coordinator.now c.args.front.now c.in_ok-next.next (plain_op c.args.op.now) c.requires.front c.in_ok-next.ensures.next
