use Rattle.std.proofs.Common.{◌≡◌, ◌∙◌, ℕ, List, ap, map, nat_eq, subst, sym, IfOk}
use Rattle.std.specs.List.Sorted.{IsNonDecreasing, IsPermutation}
use Rattle.std.proofs.lemmas.List.Sorted.{IsNonDecreasingBy-from_sort}
use Rattle.std.specs.List.{IsDistinct}
use Rattle.host_views.specs.Plain.{host_tags, plain_mutation}
use Rattle.shadow_node.specs.Entered.{is_unchanged_since}
use Rattle.shadow_node.specs.Pruned.{has_one_of, pruned, skipped_tags}
use Rattle.shadow_node.specs.Stamps.{stamp_in}
use Rattle.view_flatten.specs.Placed.{AreMarked, plain_places}
use Rattle.view_flatten.specs.Walks.{entered_more}
use Rattle.view_flatten.proofs.Below.{is_host_tree}
use Rattle.view_flatten.proofs.Outside.{pruned_distinct, pruned_low}
use Rattle.view_mutation.proofs.SameSkipped.{same_skipped}
use Rattle.view_mutation.proofs.Since.{between_found, count_entered, on_ok, same_tags}
use Rattle.view_mutation.proofs.mutations_apart.Goals as goal

-- the sorted tags are those of the skipped nodes
tags_are : (skipped sorted given wanted : List ℕ) → skipped ≡ wanted → IsPermutation skipped sorted → given ≡ sorted → has_one_of given ≡ has_one_of wanted
tags_are skipped sorted given wanted s p g = ap has_one_of g ∙ same_tags skipped sorted p ∙ ap has_one_of s

pub places-requires-2-clause-rise : goal.places-requires-2-clause-rise
places-requires-2-clause-rise c = subst IsNonDecreasing (sym c.deref.ensures.value) (IsNonDecreasingBy-from_sort (λ n. n) c.sort.new.self.items c.in_ok-sort.ensures.sorted)

pub mutations_in_step-requires-clause-alike : goal.mutations_in_step-requires-clause-alike
mutations_in_step-requires-clause-alike c =
    let old = c.args.old.now in
    let new = c.args.new.now in
    same_skipped (stamp_in new.stamps) c.args.base old.forest new.forest c.requires.old.within.differ c.requires.new.within.differ c.requires.old_tags c.requires.new_tags c.requires.alike
    (has_one_of c.deref.result.now) c.deref-2.result.now c.deref-3.result.now
    (ap plain_places c.deref-2.ensures.value ∙ c.in_ok-old_places.ensures.tree) (ap plain_places c.deref-3.ensures.value ∙ c.in_ok-new_places.ensures.tree)
    (subst (AreMarked (is_unchanged_since (stamp_in new.stamps) c.args.base)) (sym c.deref-3.ensures.value) c.in_ok-new_places.ensures.marked)

pub mutations_in_step-requires-clause-differ : goal.mutations_in_step-requires-clause-differ
mutations_in_step-requires-clause-differ c =
    let new = c.args.new.now in
    let test = is_unchanged_since (stamp_in new.stamps) c.args.base in
    let part = pruned test new.forest in
    subst (λ tree. IsDistinct nat_eq (host_tags tree)) (sym (ap plain_places c.deref-3.ensures.value ∙ c.in_ok-new_places.ensures.tree))
    (is_host_tree part (pruned_distinct test new.forest c.requires.new.within.differ) (pruned_low test new.forest c.requires.new_tags)).tags

pub returns-clause-list : goal.returns-clause-list
returns-clause-list c =
    let old = c.args.old.now in
    let new = c.args.new.now in
    let same = tags_are c.in_ok-new_places.field-0.skipped.items c.sort.new.self.items c.deref.result.now (skipped_tags (is_unchanged_since (stamp_in new.stamps) c.args.base) new.forest)
    c.in_ok-new_places.ensures.skipped c.in_ok-sort.ensures.permutation c.deref.ensures.value in
    subst (λ mutations. IfOk c.mutations_in_step.result (λ list. map plain_mutation list ≡ mutations))
    (between_found (stamp_in new.stamps) c.args.base old.forest new.forest c.requires.old.within.differ c.requires.new.within.differ c.requires.old_tags c.requires.new_tags c.requires.alike c.deref.result.now same
    (plain_places c.deref-2.result.now) (plain_places c.deref-3.result.now)
    (ap plain_places c.deref-2.ensures.value ∙ c.in_ok-old_places.ensures.tree) (ap plain_places c.deref-3.ensures.value ∙ c.in_ok-new_places.ensures.tree))
    c.mutations_in_step.ensures

pub returns-clause-old_entered : goal.returns-clause-old_entered
returns-clause-old_entered c =
    let old = c.args.old.now in
    let new = c.args.new.now in
    let same = tags_are c.in_ok-new_places.field-0.skipped.items c.sort.new.self.items c.deref.result.now (skipped_tags (is_unchanged_since (stamp_in new.stamps) c.args.base) new.forest)
    c.in_ok-new_places.ensures.skipped c.in_ok-sort.ensures.permutation c.deref.ensures.value in
    on_ok c.mutations_in_step.result _
    (c.in_ok-old_places.ensures.entered
    ∙ ap (entered_more old) (count_entered (stamp_in new.stamps) c.args.base old.forest new.forest c.requires.old.within.differ c.requires.new.within.differ c.requires.old_tags c.requires.new_tags c.requires.alike c.deref.result.now same))
