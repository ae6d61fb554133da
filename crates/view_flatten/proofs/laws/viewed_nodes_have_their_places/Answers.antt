use Rattle.view_flatten.proofs.Viewed.{each_viewed_has_place}
use Rattle.view_flatten.proofs.laws.viewed_nodes_have_their_places.Goals as goal

pub returns : goal.returns
returns c = each_viewed_has_place
