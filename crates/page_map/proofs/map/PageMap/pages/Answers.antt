use Rattle.std.proofs.Common.{ap, arith}
use Rattle.std.specs.FinMap.{len}
use Rattle.page_map.specs.Pages.{joined}
use Rattle.page_map.proofs.Parts.{len_of}
use Rattle.page_map.proofs.Joined.{few_hold}
use Rattle.page_map.proofs.map.PageMap.pages.Goals as goal

pub returns : goal.returns
returns g c =
    let pages = c.list.result.now in
    let table = c.list.ensures in
    omega (arith, few_hold pages table.are_pages table.few, len_of (joined pages) table.rises, ap len table.is)
