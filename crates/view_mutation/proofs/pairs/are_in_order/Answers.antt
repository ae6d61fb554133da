use Rattle.std.proofs.Common.{rules}
use Rattle.std.proofs.lemmas.List.Sorted.{answers_always}
use Rattle.view_mutation.proofs.ByNumber.{in_order_from_answer}
use Rattle.view_mutation.proofs.pairs.are_in_order.Goals as goal

pub returns : goal.returns
returns g c = in_order_from_answer c.args.pairs.now c.is_sorted_by_key.result (c.is_sorted_by_key.ensures.cases (λ pair. pair.0) (answers_always _ _ _ (λ f a r g h. search rules)))
