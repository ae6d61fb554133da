-- Where a walk over two forests in step ends, the mutations between their host trees were added.
use Rattle.std.proofs.Common.{◌≡◌, ℕ, List, [], ◌∷◌, ◌++◌, map, true, false, cond, not, nat_eq, refl, ap, sym, ◌∙◌}
use Rattle.std.specs.List.{IsDistinct}
use Rattle.host_views.specs.declared.Mutation.{Mutation}
use Rattle.host_views.specs.Plain.{PlainHostTree, plain_mutation, update}
use Rattle.host_views.specs.Same.{is_same_view}
use Rattle.shadow_node.specs.Entered.{AreAlikeSince, is_kept_since, is_unchanged_since}
use Rattle.shadow_node.specs.Fields.{SettledFields, contents_of, tags_of}
use Rattle.shadow_node.specs.Forest.{PlainForest}
use Rattle.shadow_node.specs.Pruned.{pruned}
use Rattle.view_flatten.specs.HostTree.{host_tree_of}
use Rattle.view_flatten.specs.Sites.{level_site, root, sites_from}
use Rattle.view_flatten.proofs.Below.{is_host_tree}
use Rattle.view_flatten.proofs.Level.{level_tree}
use Rattle.view_flatten.proofs.Outside.{pruned_distinct, pruned_low}
use Rattle.view_mutation.specs.InStep.{AreInStep, stands_of, updates_in_step}
use Rattle.view_mutation.specs.Mutations.{mutations_between}
use Rattle.view_mutation.specs.Since.{AreTagged}
use Rattle.view_mutation.specs.Together.{AreCompared, site_updates, stands_at}
use Rattle.view_mutation.proofs.InStep.{in_step_mutations}
use Rattle.view_mutation.proofs.Skipped.{skipping_keeps, skipping_prunes}

-- placed views stand where their sites do
stands_of_sites : (tree : PlainHostTree) → stands_at (map level_site tree) ≡ stands_of tree
stands_of_sites [] = refl
stands_of_sites (placed ∷ tree) = ap (λ stands. (placed.parent, placed.tag) ∷ stands) (stands_of_sites tree)

-- and have their updates
updates_of_sites : (old new : PlainHostTree) → site_updates (map level_site old) (map level_site new) ≡ updates_in_step old new
updates_of_sites [] [] = refl
updates_of_sites [] (is ∷ new) = refl
updates_of_sites (was ∷ old) [] = refl
updates_of_sites (was ∷ old) (is ∷ new) =
    let sites = site_updates (map level_site old) (map level_site new) in
    elim (not (is_same_view was.view is.view)) as (λ b. cond b (update is.tag is.view ∷ sites) sites ≡ cond b (update is.tag is.view ∷ updates_in_step old new) (updates_in_step old new)) [
      | true ↦ ap (λ list. update is.tag is.view ∷ list) (updates_of_sites old new)
      | false ↦ updates_of_sites old new
    ]

-- the mutations between the host trees of forests whose sites are in step
mutations_of_sites : (old new : PlainForest SettledFields) → IsDistinct nat_eq (tags_of (contents_of old)) → IsDistinct nat_eq (tags_of (contents_of new)) → AreTagged old → AreTagged new
    → (before after : List Mutation) → AreCompared (sites_from root old) (sites_from root new) before after
    → map plain_mutation after ≡ map plain_mutation before ++ mutations_between (host_tree_of old) (host_tree_of new)
mutations_of_sites old new distinct_old distinct_new low_old low_new before after h =
    let old_tree = level_tree old distinct_old low_old h.old_level in
    let new_tree = level_tree new distinct_new low_new h.new_level in
    let step : AreInStep (host_tree_of old) (host_tree_of new) =
    sym (stands_of_sites (host_tree_of old)) ∙ ap stands_at old_tree ∙ h.stands ∙ sym (ap stands_at new_tree) ∙ stands_of_sites (host_tree_of new) in
    h.updates.listed
    ∙ ap (λ updates. map plain_mutation before ++ updates)
    ((λ i. site_updates (sym old_tree i) (sym new_tree i)) ∙ updates_of_sites (host_tree_of old) (host_tree_of new)
    ∙ sym (in_step_mutations (host_tree_of old) (host_tree_of new) step (is_host_tree new distinct_new low_new).tags))

-- the same where what lies below the contexts that are unchanged since a base was left out
pub compared_since : (stamps : ℕ → ℕ) (base : ℕ) (old new : PlainForest SettledFields) → IsDistinct nat_eq (tags_of (contents_of old)) → IsDistinct nat_eq (tags_of (contents_of new))
    → AreTagged old → AreTagged new → AreAlikeSince stamps base old new → (before after : List Mutation)
    → AreCompared (sites_from root (pruned (is_kept_since stamps base new) old)) (sites_from root (pruned (is_unchanged_since stamps base) new)) before after
    → map plain_mutation after ≡ map plain_mutation before ++ mutations_between (host_tree_of old) (host_tree_of new)
compared_since stamps base old new distinct_old distinct_new low_old low_new alike before after h =
    let kept = is_kept_since stamps base new in
    let unchanged = is_unchanged_since stamps base in
    mutations_of_sites (pruned kept old) (pruned unchanged new) (pruned_distinct kept old distinct_old) (pruned_distinct unchanged new distinct_new)
    (pruned_low kept old low_old) (pruned_low unchanged new low_new) before after h
    ∙ ap (λ mutations. map plain_mutation before ++ mutations)
    ((λ i. mutations_between (host_tree_of (skipping_prunes stamps base old new distinct_old distinct_new low_old low_new alike i)) (host_tree_of (pruned unchanged new)))
    ∙ sym (skipping_keeps stamps base old new distinct_old distinct_new low_old low_new alike))
