use Rattle.std.proofs.Common.{ap, rules}
use Rattle.std.specs.Option.{option_map}
use Rattle.std.proofs.lemmas.List.Sorted.{answers_always, IsNonDecreasingBy-from_sort_by_key}
use Rattle.tree_revision.specs.Unchanged.{seen_place}
use Rattle.tree_build.proofs.Tagged.{find_sorted}
use Rattle.tree_revision.proofs.stamping.put_in_order.Goals as goal

pub returns-in_ok-sort_by_key-clause-in_order : goal.returns-in_ok-sort_by_key-clause-in_order
returns-in_ok-sort_by_key-clause-in_order c =
    IsNonDecreasingBy-from_sort_by_key (λ place. place.0) c.sort_by_key.new.self.items c.in_ok-sort_by_key.ensures.sorted (λ a r f called. search rules)

pub returns-in_ok-sort_by_key-clause-seen : goal.returns-in_ok-sort_by_key-clause-seen
returns-in_ok-sort_by_key-clause-seen c =
    let stable = c.sort_by_key.ensures.stable (λ place. place.0) (answers_always _ _ _ (λ f a r g h. search rules)) in
    λ tag. ap (option_map seen_place) (find_sorted c.args.places.now.items c.sort_by_key.new.self.items stable tag)

pub returns-else-not-are_in_order-clause-in_order : goal.returns-else-not-are_in_order-clause-in_order
returns-else-not-are_in_order-clause-in_order c = rw c.deref.ensures.value at (c.are_in_order.ensures (search rules))
