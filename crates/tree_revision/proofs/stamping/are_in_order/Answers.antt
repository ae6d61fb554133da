use Rattle.std.proofs.Common.{rules}
use Rattle.std.proofs.lemmas.List.Sorted.{answers_always}
use Rattle.tree_build.proofs.Tagged.{in_order_from_answer}
use Rattle.tree_revision.proofs.stamping.are_in_order.Goals as goal

pub returns : goal.returns
returns c = in_order_from_answer c.args.places.now c.is_sorted_by_key.result (c.is_sorted_by_key.ensures.cases (λ place. place.0) (answers_always _ _ _ (λ f a r g h. search rules)))
