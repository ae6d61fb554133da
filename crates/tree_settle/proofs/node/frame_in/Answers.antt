use Rattle.std.proofs.Common.{arith}
use Rattle.std.proofs.lemmas.Int.{ints}
use Rattle.tree_settle.proofs.node.frame_in.Goals as goal

pub returns-clause-room : goal.returns-clause-room
returns-clause-room c = λ levels room. record {
  width_low = c.place.ensures.width_low;
  width_high = omega (arith, ints, c.place.ensures.width_high, room.width_high);
  height_low = c.place.ensures.height_low;
  height_high = omega (arith, ints, c.place.ensures.height_high, room.height_high);
}
