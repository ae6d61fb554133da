use Rattle.std.proofs.Common.{◌≡◌, ◌≤◌, ◌∙◌, ap, arith, length, sym, take_all}
use Rattle.view_flatten.specs.Placed.{plain_places}
use Rattle.view_mutation.specs.Children.{children_by, tags_in}
use Rattle.view_mutation.specs.InStep.{stands_of}
use Rattle.view_mutation.proofs.InStep.{children_by_stand}
use Rattle.view_mutation.proofs.children.children_of.Goals as goal

pub returns : goal.returns
returns c = λ parent.
    let past : length c.args.places.now ≤ c.loop-placed.placed-index = omega arith in
    let whole : c.loop-placed.pairs.items ≡ stands_of (plain_places c.args.places.now) =
    c.loop-placed.invariant.seen ∙ ap (λ places. stands_of (plain_places places)) (take_all c.loop-placed.placed-index c.args.places.now past) in
    ap tags_in (c.in_ok-put_in_order.ensures.kept parent)
    ∙ ap (λ pairs. children_by pairs parent) whole
    ∙ sym (children_by_stand (plain_places c.args.places.now) parent)
