use Rattle.view_flatten.proofs.Children.{children_by_z}
use Rattle.view_flatten.proofs.laws.children_go_by_z.Goals as goal

pub returns : goal.returns
returns c = children_by_z
