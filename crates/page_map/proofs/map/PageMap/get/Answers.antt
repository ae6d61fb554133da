use Rattle.std.proofs.Common.{ap, ◌∙◌}
use Rattle.std.specs.FinMap.{get}
use Rattle.page_map.proofs.Joined.{here_rises}
use Rattle.page_map.proofs.Parts.{found_here}
use Rattle.page_map.proofs.map.PageMap.get.Goals as goal

pub value_of-requires : goal.value_of-requires
value_of-requires g c = here_rises c.list.result.now c.args.tag _ _ _ c.parted.ensures c.list.ensures.rises

pub returns : goal.returns
returns g c =
    c.value_of.ensures
    ∙ found_here c.list.result.now c.list.ensures.rises c.args.tag c.parted.result.0.now c.parted.result.1.now c.parted.result.2.now c.parted.ensures
    ∙ ap (λ map. get map c.args.tag) c.list.ensures.is
