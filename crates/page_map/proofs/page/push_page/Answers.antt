use Rattle.std.proofs.Common.{◌≤◌, [], ◌∷◌, ap, ◌++◌, ◌∙◌, length, length-append, arith}
use Rattle.page_map.specs.Pages.{joined}
use Rattle.page_map.proofs.Each.{each-append}
use Rattle.page_map.proofs.Joined.{joined-push}
use Rattle.page_map.proofs.page.push_page.Goals as goal

pub returns-clause-joined : goal.returns-clause-joined
returns-clause-joined g c =
    rw c.in_ok-push.ensures.items (joined-push c.args.pages.now.items c.in_ok-make.field-0 ∙ ap (λ es. joined c.args.pages.now.items ++ es) (c.in_ok-make.ensures.page))

pub returns-clause-count : goal.returns-clause-count
returns-clause-count g c = omega (arith, ap length c.in_ok-push.ensures.items, length-append c.args.pages.now.items (c.in_ok-make.field-0 ∷ []))

pub returns-clause-half_full : goal.returns-clause-half_full
returns-clause-half_full g c = λ wide were.
    let size = ap length (c.in_ok-make.ensures.page) in
    rw c.in_ok-push.ensures.items (each-append (λ page. 32 ≤ length page.value) c.args.pages.now.items (c.in_ok-make.field-0 ∷ []) were (omega (arith, size, wide), tt))
