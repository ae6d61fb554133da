use Rattle.std.proofs.Common.{rules}
use Rattle.std.proofs.lemmas.List.Sorted.{answers_always, IsNonDecreasingBy-from_sort_by_key}
use Rattle.view_mutation.proofs.ByNumber.{kept_by_sort}
use Rattle.view_mutation.proofs.pairs.put_in_order.Goals as goal

pub returns-in_ok-sort_by_key-clause-in_order : goal.returns-in_ok-sort_by_key-clause-in_order
returns-in_ok-sort_by_key-clause-in_order g c =
    IsNonDecreasingBy-from_sort_by_key (λ pair. pair.0) c.sort_by_key.new.self.items c.in_ok-sort_by_key.ensures.sorted (λ a r f called. search rules)

pub returns-in_ok-sort_by_key-clause-kept : goal.returns-in_ok-sort_by_key-clause-kept
returns-in_ok-sort_by_key-clause-kept g c =
    kept_by_sort c.args.pairs.now.items c.sort_by_key.new.self.items (c.sort_by_key.ensures.stable (λ pair. pair.0) (answers_always _ _ _ (λ f a r g h. search rules)))

pub returns-else-not-are_in_order-clause-in_order : goal.returns-else-not-are_in_order-clause-in_order
returns-else-not-are_in_order-clause-in_order g c = rw c.deref.ensures.value at (c.are_in_order.ensures (search rules))
