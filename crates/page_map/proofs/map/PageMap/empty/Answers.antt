use Rattle.std.proofs.Common.{[], refl}
use Rattle.page_map.proofs.Parts.{empty_of}
use Rattle.page_map.proofs.map.PageMap.empty.Goals as goal

pub returns : goal.returns
returns g c = empty_of [] refl
