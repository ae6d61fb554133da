-- The host trees of a lawful history are in range.
use Rattle.std.proofs.Common.{◌≡◌, ◌≤◌, ◌<◌, ◌+◌, ◌^◌, ℕ, suc, true, false, cond, ◌&&◌, List, [], ◌∷◌, length, filter, take, drop, nat_eq, arith, sym, subst}
use Rattle.std.specs.List.{AllByRecursion, IsDistinct}
use Rattle.std.specs.Prelude.{int_lt}
use Rattle.std.proofs.lemmas.List.{take-append-drop, length-take}
use Rattle.shadow_frame.specs.declared.Size.{Size}
use Rattle.shadow_kinds.specs.Axes.{z_order_of}
use Rattle.shadow_kinds.specs.Traits.{forms_view_of}
use Rattle.shadow_node.specs.Forest.{PlainForest, depth_of, node_count}
use Rattle.shadow_node.specs.Fields.{NodeFields, SettledFields, contents_of, tags_of}
use Rattle.shadow_node.specs.InRange.{IsTagInRange}
use Rattle.shadow_node.specs.Shown.{Descendant, descendants, is_shown}
use Rattle.shadow_node.proofs.Maps.{AllFields}
use Rattle.tree_settle.specs.Limits.{IsSizeInRange}
use Rattle.tree_settle.proofs.Settled.{settled_below-in, contents_of-settled, node_count-settled, depth_of-settled}
use Rattle.host_views.specs.Plain.{PlainPlacedView}
use Rattle.view_flatten.specs.HostTree.{host_parent, viewed, put_by_z, by_z, placed_from, host_tree_of}
use Rattle.view_flatten.specs.Places.{placed_at}
use Rattle.view_flatten.proofs.Distinct.{each_of_two}
use Rattle.view_flatten.proofs.Few.{viewed_le, host_tree_le, kept_le}
use Rattle.view_flatten.proofs.Order.{each_kept}
use Rattle.view_flatten.proofs.Views.{each_below, each_placed_view}
use Rattle.tree_revision.specs.Records.{PlainRecord}
use Rattle.tree_revision.specs.Revisions.{revision_of}
use Rattle.tree_revision.specs.Newest.{newest_state}
use Rattle.tree_revision.specs.Lawful.{IsLawful}
use Rattle.tree_revision.specs.Forests.{settled_of}
use Rattle.tree_revision.proofs.Histories.{IsLawful-front}
use Rattle.tree_revision.proofs.Tags.{lawful_tags}
use Rattle.mount_coordinator.specs.Mounted.{host_tree_at}
use Rattle.run_report.specs.Ranges.{IsNumber, IsViewInRange, IsPlacedInRange}
use Rattle.run_report.proofs.Lists.{all_weaker}
use Rattle.run_report.proofs.CellsInRange.{newest_in_range}
use Rattle.run_report.proofs.RevisionsInRange.{IsKeptInRange, revisions_in_range}
use Rattle.run_report.proofs.ViewsInRange.{IsSettledInRange, IsHereInRange, surface_room, fewer_levels, settled_each, each_here, view_in_range, parent_in_range}
use Rattle.run_report.proofs.MutationsInRange.{IsTreeInRange}

-- nodes in the order of z are as many
put_count : (here : Descendant) (others : List Descendant) → length (put_by_z here others) ≡ suc (length others)
put_count here [] = omega arith
put_count here (other ∷ others) =
    let rest = put_count here others in
    elim (int_lt (z_order_of other.settled.fields.props) (z_order_of here.settled.fields.props)) as (λ b. length (cond b (other ∷ put_by_z here others) (here ∷ other ∷ others)) ≡ suc (suc (length others))) [
      | true ↦ omega (arith, rest)
      | false ↦ omega arith
    ]

by_z_count : (nodes : List Descendant) → length (by_z nodes) ≡ length nodes
by_z_count [] = omega arith
by_z_count (here ∷ others) = omega (arith, put_count here (by_z others), by_z_count others)

-- the places of children are below their count
places_below : (parent index most : ℕ) (nodes : List Descendant) → index + length nodes ≤ most → AllByRecursion (λ placed. placed.index < most) (placed_from parent index nodes)
places_below parent index most [] low = tt
places_below parent index most (here ∷ others) low = (omega arith, places_below parent (index + 1) most others (omega arith))

-- so the indexes of a host tree are below the count of its nodes that have a view
indexes_below : (forest : PlainForest SettledFields) → AllByRecursion (λ placed. placed.index < length (viewed forest) + 1) (host_tree_of forest)
indexes_below forest =
    let nodes = viewed forest in
    each_below (λ placed. placed.index < length nodes + 1) (length nodes) nodes
    (λ parent.
    let test = λ (here : Descendant). nat_eq (host_parent here.above) parent in
    places_below parent 0 (length nodes + 1) (by_z (filter test nodes)) (omega (arith, by_z_count (filter test nodes), kept_le test nodes))) 0

-- the tag, the parent and the view of a placed view
record IsNamedInRange (placed : PlainPlacedView) : Type 0 where
  tag : IsNumber placed.tag
  parent : IsNumber placed.parent
  view : IsViewInRange placed.view

-- of a node's view, wherever it stands
named_in_range : (here : Descendant) → IsHereInRange here → (index : ℕ) → IsNamedInRange (placed_at index here)
named_in_range here h index = record {
  tag = omega (arith, h.own.fields.tag.high);
  parent = parent_in_range here.above h.above;
  view = view_in_range here h;
}

-- the host tree of a forest whose nodes are in range
forest_tree : (forest : PlainForest SettledFields) → AllByRecursion IsHereInRange (descendants forest) → node_count forest ≤ 2000
    → IsDistinct nat_eq (tags_of (contents_of forest)) → AllByRecursion (λ tag. 1 ≤ tag) (tags_of (contents_of forest)) → IsTreeInRange (host_tree_of forest)
forest_tree forest h few differ low =
    let test = λ (here : Descendant). forms_view_of here.settled.fields.kind here.settled.fields.props && is_shown here in
    let named = each_placed_view IsNamedInRange forest
    (all_weaker IsHereInRange (λ here. (index : ℕ) → IsNamedInRange (placed_at index here)) named_in_range (viewed forest) (each_kept IsHereInRange test (descendants forest) h)) in
    record {
      views =
          all_weaker (λ placed. IsNamedInRange placed × (placed.index < length (viewed forest) + 1)) IsPlacedInRange
          (λ placed p. record { tag = p.0.tag; parent = p.0.parent; index = omega (arith, p.1, viewed_le forest, few); view = p.0.view }) (host_tree_of forest)
          (each_of_two IsNamedInRange (λ placed. placed.index < length (viewed forest) + 1) (host_tree_of forest) named (indexes_below forest));
      count = omega (arith, host_tree_le forest differ low, few);
    }

-- the host tree of a lawful history that is not too long
whole_tree : (first : Size) (entries : List PlainRecord) → IsSizeInRange first → IsLawful first entries → length entries < 2 ^ 63
    → IsKeptInRange (revision_of first entries) → IsTreeInRange (host_tree_of (settled_of first entries))
whole_tree first entries size lawful small kept =
    let revision = revision_of first entries in
    let newest = newest_state entries in
    let forest = revision.forest in
    let settled = settled_of first entries in
    let tags = lawful_tags first entries lawful in
    let contents : contents_of settled ≡ forest = contents_of-settled revision.size newest [] forest in
    let each : AllFields IsSettledInRange settled =
    subst (AllFields IsSettledInRange) (sym (settled_below-in revision.size newest [] forest))
    (settled_each revision.size newest (λ tag. newest_in_range entries tag small) forest kept.fields (fewer_levels revision.size (depth_of forest) 48 kept.depth (surface_room revision.size kept.size))) in
    forest_tree settled (each_here [] settled tt each (omega (arith, depth_of-settled revision.size newest [] forest, kept.depth)))
    (omega (arith, node_count-settled revision.size newest [] forest, kept.count))
    (subst (λ (f : PlainForest NodeFields). IsDistinct nat_eq (tags_of f)) (sym contents) tags.differ)
    (subst (λ (f : PlainForest NodeFields). AllByRecursion (λ tag. 1 ≤ tag) (tags_of f)) (sym contents)
    (all_weaker IsTagInRange (λ tag. 1 ≤ tag) (λ tag t. t.low) (tags_of forest) tags.in_range))

-- and of its first records
pub tree_in_range : (first : Size) (entries : List PlainRecord) → IsSizeInRange first → IsLawful first entries → length entries < 2 ^ 63 → (number : ℕ)
    → IsTreeInRange (host_tree_at first entries number)
tree_in_range first entries size lawful small number =
    let front = take number entries in
    let lawful_front : IsLawful first front = IsLawful-front first front (drop number entries) (subst (IsLawful first) (sym (take-append-drop number entries)) lawful) in
    whole_tree first front size lawful_front (omega (arith, length-take number entries, small)) (revisions_in_range first entries size lawful number)
