use Rattle.view_flatten.proofs.Indexes.{index_by_z}
use Rattle.view_flatten.proofs.laws.indexes_go_by_z.Goals as goal

pub returns : goal.returns
returns c = index_by_z
