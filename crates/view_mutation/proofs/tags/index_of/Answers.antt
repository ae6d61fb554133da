use Rattle.std.proofs.Common.{◌≡◌, ◌++◌, ◌≤◌, ◌∙◌, ap, append-nil, arith, length, sym}
use Rattle.std.proofs.lemmas.List.{drop_all}
use Rattle.view_mutation.proofs.Index.{index_found, indexed_from}
use Rattle.view_mutation.proofs.tags.index_of.Goals as goal

pub returns : goal.returns
returns c =
    let past : length c.args.places.now ≤ c.loop-at.at = omega arith in
    let whole : c.loop-at.pairs.items ≡ indexed_from 0 c.args.places.now =
    sym (append-nil c.loop-at.pairs.items) ∙ ap (λ places. c.loop-at.pairs.items ++ indexed_from c.loop-at.at places) (sym (drop_all c.loop-at.at c.args.places.now past)) ∙ c.loop-at.invariant.left in
    index_found c.loop-at.pairs.items c.put_in_order.new.pairs.items c.args.places.now whole c.in_ok-put_in_order.ensures.kept
