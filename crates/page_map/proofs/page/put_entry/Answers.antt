use Rattle.std.proofs.Common.{◌≡◌, ap, sym, subst, ◌∙◌, arith, length, true, false}
use Rattle.std.proofs.lemmas.List.{length-set}
use Rattle.page_map.specs.Pages.{IsPage}
use Rattle.page_map.proofs.Put.{put_there, put_new, page_put}
use Rattle.page_map.proofs.Rising.{length-put}
use Rattle.page_map.proofs.page.put_entry.Goals as goal

pub returns-then-has_tag-clause-put : goal.returns-then-has_tag-clause-put
returns-then-has_tag-clause-put g c =
    let es = c.args.entries.now.items in
    let at = c.place_of-at.result in
    let there = rw c.deref-2.ensures.value at (c.has_tag.ensures.0 c.if-has_tag.true) in
    let below = rw c.deref.ensures.value at c.place_of-at.ensures.below in
    put_there c.args.tag c.args.value es at c.index_mut.result.now.0 below there.0 (ap (λ e. e.0) c.index_mut.ensures.value ∙ there.1 c.index_mut.result.now) there.1

pub returns-then-has_tag-clause-page : goal.returns-then-has_tag-clause-page
returns-then-has_tag-clause-page g c =
    let es = c.args.entries.now.items in
    let at = c.place_of-at.result in
    let is = returns-then-has_tag-clause-put g c in
    subst IsPage (sym is) (page_put c.args.tag c.args.value es c.requires.page (omega (arith, ap length is, length-set es at (c.index_mut.result.now.0, c.args.value), c.requires.page.has_room)))

pub returns-clause-put : goal.returns-clause-put
returns-clause-put g c =
    let es = c.args.entries.now.items in
    let at = c.place_of-at.result in
    let below = rw c.deref.ensures.value at c.place_of-at.ensures.below in
    let from = rw c.deref.ensures.value at c.place_of-at.ensures.rest in
    let other = rw c.deref-2.ensures.value at c.has_tag.ensures.1 in
    c.in_ok-insert.ensures.items ∙ put_new c.args.tag c.args.value es at below from (λ there. false≢true (sym c.if-has_tag.false ∙ other there))
  where
    false≢true : false ≡ true → ⊥
    false≢true e = cc

pub returns-clause-page : goal.returns-clause-page
returns-clause-page g c =
    let es = c.args.entries.now.items in
    subst IsPage (sym (returns-clause-put g c)) (page_put c.args.tag c.args.value es c.requires.page (omega (arith, (length-put c.args.tag c.args.value es).1, c.requires.page.has_room)))
