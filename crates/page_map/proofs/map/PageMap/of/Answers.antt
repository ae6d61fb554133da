use Rattle.std.proofs.Common.{ap, ◌∙◌, rules}
use Rattle.std.specs.List.Sorted.{IsPermutation}
use Rattle.std.specs.FinMap.{empty}
use Rattle.std.proofs.lemmas.List.Sorted.{IsNonDecreasingBy-from_sort_by_key}
use Rattle.page_map.specs.Entries.{all_added}
use Rattle.page_map.proofs.Sorted.{distinct, distinct_permuted, rising_of, same_added}
use Rattle.page_map.proofs.map.PageMap.of.Goals as goal

pub with_all-requires : goal.with_all-requires
with_all-requires g c =
    let list = c.args.list.items in
    let new = c.sort_by_key.new.self.items in
    let moved : IsPermutation list new = c.in_ok-sort_by_key.ensures.permutation in
    let in_order = IsNonDecreasingBy-from_sort_by_key (λ entry. entry.0) new c.in_ok-sort_by_key.ensures.sorted (λ a r f called. search rules) in
    rising_of new in_order (distinct_permuted list new moved (distinct list c.requires))

pub returns : goal.returns
returns g c =
    let list = c.args.list.items in
    let new = c.sort_by_key.new.self.items in
    let moved : IsPermutation list new = c.in_ok-sort_by_key.ensures.permutation in
    c.in_ok-made.ensures.map ∙ ap (λ map. all_added map new) c.empty.ensures ∙ same_added empty list new moved (distinct list c.requires)
