use Rattle.std.proofs.Common.{ap, sym, ◌∙◌, Some}
use Rattle.page_map.proofs.Put.{insert_same}
use Rattle.page_map.proofs.map.PageMap.own.Goals as goal

pub returns : goal.returns
returns g c = c.in_ok-insert.ensures.map ∙ insert_same c.args.self.now c.args.tag c.in_ok-value-in-Some.value (sym c.in-Some.ensures ∙ ap (λ v. Some v) (sym c.in_ok-value-in-Some.ensures))
