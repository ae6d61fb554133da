use Rattle.native_state.specs.Families.{cell_in}
use Rattle.tree_settle.proofs.Stays.{decides_settled}
use Rattle.tree_settle.proofs.tests.has_own.Goals as goal

pub returns : goal.returns
returns c =
    rw (c.stays.ensures, c.state_in-state.ensures, c.frame_in-frame.ensures.value) (decides_settled c.args.parent (cell_in c.args.families.now) c.args.node.now.fields)
