use Rattle.std.proofs.Common.{rules}
use Rattle.std.proofs.lemmas.List.Sorted.{answers_always}
use Rattle.tree_build.proofs.Tagged.{in_order_from_answer}
use Rattle.tree_build.proofs.held.are_in_order.Goals as goal

pub returns : goal.returns
returns c = in_order_from_answer c.args.nodes.now c.is_sorted_by_key.result (c.is_sorted_by_key.ensures.cases (λ node. node.0) (answers_always _ _ _ (λ f a r g h. search rules)))
