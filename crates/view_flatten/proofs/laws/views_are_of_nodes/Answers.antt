use Rattle.view_flatten.proofs.Viewed.{each_view_of_one}
use Rattle.view_flatten.proofs.laws.views_are_of_nodes.Goals as goal

pub returns : goal.returns
returns c = each_view_of_one
