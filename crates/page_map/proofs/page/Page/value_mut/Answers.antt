use Rattle.std.proofs.Common.{ap, sym, subst, ◌∙◌, refl, arith, length}
use Rattle.std.proofs.lemmas.List.{length-set}
use Rattle.page_map.specs.Pages.{IsPage}
use Rattle.page_map.proofs.Put.{put_there, page_put, found_there}
use Rattle.page_map.proofs.page.Page.value_mut.Goals as goal

pub invariant_of-self-lent : goal.invariant_of-self-lent
invariant_of-self-lent g c = λ w.
    let es = c.self.inside.entries.items in
    let req = rw (sym c.self.view_is) at c.requires in
    let is = put_there c.args.tag w es c.args.at c.index_mut-entry.result.now.0 req.below req.place (ap (λ e. e.0) c.index_mut-entry.ensures.value ∙ req.there c.index_mut-entry.result.now) req.there in
    subst IsPage (sym is) (page_put c.args.tag w es c.self.invariant (omega (arith, ap length is, length-set es c.args.at (c.index_mut-entry.result.now.0, w), c.self.invariant.has_room)))

pub returns : goal.returns
returns g c =
    let es = c.self.inside.entries.items in
    let req = rw (sym c.self.view_is) at c.requires in (
      (refl, λ w. rw (sym c.self.view_is) (put_there c.args.tag w es c.args.at c.index_mut-entry.result.now.0 req.below req.place (ap (λ e. e.0) c.index_mut-entry.ensures.value ∙ req.there c.index_mut-entry.result.now) req.there)),
      record { writes_back = tt; value = rw (sym c.self.view_is) (found_there c.args.tag es c.args.at c.index_mut-entry.result.now req.below req.place req.there c.index_mut-entry.ensures.value) },
    )
