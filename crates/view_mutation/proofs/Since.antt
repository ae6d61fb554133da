-- What the walks of two forests since a base give.
use Rattle.std.proofs.Common.{◌≡◌, ℕ, List, nat_eq, Result, Ok, Err, OnOk, ap, sym, ◌∙◌}
use Rattle.std.specs.List.{IsDistinct}
use Rattle.std.specs.List.Sorted.{IsPermutation}
use Rattle.std.proofs.lemmas.List.Sorted.{list_any-IsPermutation}
use Rattle.shadow_node.specs.Entered.{AreAlikeSince, count_outside, is_kept_since, is_unchanged_since}
use Rattle.shadow_node.specs.Fields.{SettledFields, contents_of, tags_of}
use Rattle.shadow_node.specs.Forest.{PlainForest}
use Rattle.shadow_node.specs.Pruned.{has_one_of, pruned, skipped_tags}
use Rattle.host_views.specs.Plain.{PlainHostTree}
use Rattle.view_flatten.specs.HostTree.{host_tree_of}
use Rattle.view_mutation.specs.Mutations.{mutations_between}
use Rattle.view_mutation.specs.Since.{AreTagged}
use Rattle.view_mutation.proofs.Skipped.{skipping_counts, skipping_keeps}

-- what holds in any case holds where a call succeeds
pub on_ok : {T E : Type 0} (r : Result T E) (P : Type 0) → P → OnOk r P
on_ok (Ok x) P p = p
on_ok (Err e) P p = tt

-- tags in another order are the same tags
pub same_tags : (xs ys : List ℕ) → IsPermutation xs ys → has_one_of ys ≡ has_one_of xs
same_tags xs ys p = λ i. λ settled. sym (list_any-IsPermutation (nat_eq settled.fields.tag) xs ys p) i

module _ (stamps : ℕ → ℕ) (base : ℕ) (old new : PlainForest SettledFields) (distinct_old : IsDistinct nat_eq (tags_of (contents_of old))) (distinct_new : IsDistinct nat_eq (tags_of (contents_of new)))
    (low_old : AreTagged old) (low_new : AreTagged new) (alike : AreAlikeSince stamps base old new) (tags : List ℕ) (same : has_one_of tags ≡ has_one_of (skipped_tags (is_unchanged_since stamps base) new)) where
  -- the mutations between what the walks find are those between the forests' host trees
  pub between_found : (olds news : PlainHostTree) → olds ≡ host_tree_of (pruned (has_one_of tags) old) → news ≡ host_tree_of (pruned (is_unchanged_since stamps base) new)
      → mutations_between olds news ≡ mutations_between (host_tree_of old) (host_tree_of new)
  between_found olds news h k =
      (λ i. mutations_between (h i) (k i)) ∙ ap (λ test. mutations_between (host_tree_of (pruned test old)) (host_tree_of (pruned (is_unchanged_since stamps base) new))) same
      ∙ sym (skipping_keeps stamps base old new distinct_old distinct_new low_old low_new alike)

  -- and as many old nodes are entered as lie outside the unchanged contexts
  pub count_entered : count_outside (has_one_of tags) old ≡ count_outside (is_kept_since stamps base new) old
  count_entered = ap (λ test. count_outside test old) same ∙ sym (skipping_counts stamps base old new distinct_old distinct_new low_old low_new alike)
