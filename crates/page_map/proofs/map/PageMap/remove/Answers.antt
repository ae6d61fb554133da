use Rattle.std.proofs.Common.{sym}
use Rattle.page_map.proofs.Cut.{remove_absent}
use Rattle.page_map.proofs.map.PageMap.remove.Goals as goal

pub returns-in-None-clause-map : goal.returns-in-None-clause-map
returns-in-None-clause-map g c = remove_absent c.args.self.now c.args.tag (sym c.in-None.ensures)
