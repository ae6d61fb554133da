-- All mutations, one list after another, lead from the one registry to the other.
use Rattle.std.proofs.Common.{◌≡◌, inl, inr, ℕ, List, [], ◌∷◌, ◌++◌, map, Option, nat_cmp, refl, sym, ◌∙◌}
use Rattle.std.specs.List.{flat_map}
use Rattle.std.specs.Cmp.{nat_cmp_total}
use Rattle.std.specs.FinMap.{get-from_entries, find, same_map, nat_cmp-IsAntisymmetric}
use Rattle.std.proofs.lemmas.Bool.{cases_eq, eq-eqb, ne_eqb}
use Rattle.host_views.specs.declared.HostView.{HostView}
use Rattle.host_views.specs.HostTree.{IsHostTree}
use Rattle.host_views.specs.Plain.{PlainPlacedView, PlainHostTree, children_at, host_tags}
use Rattle.host_views.specs.Registry.{PlainRegistry, ShownView, registry_of}
use Rattle.view_mutation.specs.Mutations.{view_at, removes_at, inserts_at, mutations_between}
use Rattle.view_mutation.specs.Shorthands.{host_parents, deletes, creates, updates}
use Rattle.view_mutation.specs.Leads.{HaveOneKind, LeadOn}
use Rattle.view_mutation.proofs.Shows.{Shows, shown_of, tie}
use Rattle.view_mutation.proofs.Leading.{LeadTo, lead_both}
use Rattle.view_flatten.proofs.Distinct.{not_among}
use Rattle.view_mutation.proofs.Trees.{no_view, none_zero, has_tag_among}
use Rattle.view_mutation.proofs.Kept.{kept}
use Rattle.view_mutation.proofs.Parts.{removes_lead, deletes_lead, creates_lead, updates_lead, inserts_lead, view_in_both, view_before_updates}

-- a view with its children, by its tag
abbrev entry_of : (ℕ → List ℕ) → PlainPlacedView → ℕ × ShownView
entry_of children placed = (placed.tag, record { view = placed.view; children = children placed.tag })

-- what the entries of views have at a tag
found_entry : (children : ℕ → List ℕ) (xs : PlainHostTree) (q : ℕ) → find nat_cmp q (map (entry_of children) xs) ≡ shown_of (view_at xs q) (children q)
found_entry children [] q = refl
found_entry children (x ∷ xs) q =
    elim (cases_eq q x.tag) as (λ c. find nat_cmp q (map (entry_of children) (x ∷ xs)) ≡ shown_of (view_at (x ∷ xs) q) (children q)) [
      | inl here ↦ rw (tie q x.tag, here, eq-eqb x.tag x.tag refl) refl
      | inr other ↦ rw (tie q x.tag, ne_eqb q x.tag other, ne_eqb x.tag q (λ e. other (sym e))) (found_entry children xs q)
    ]

-- the registry of a host tree has its views and its children
pub tree_shows : (tree : PlainHostTree) → IsHostTree tree → Shows (registry_of tree) (view_at tree) (children_at tree)
tree_shows tree h = record {
  none = no_view tree 0 (has_tag_among tree 0 ∙ not_among 0 (host_tags tree) (none_zero tree tree h.views));
  root = refl;
  shown = λ q. get-from_entries nat_cmp_total (map (entry_of (children_at tree)) tree) q ∙ found_entry (children_at tree) tree q;
}

-- registries that show the same are equal
pub same_registry : (a b : PlainRegistry) (views : ℕ → Option HostView) (children : ℕ → List ℕ) → Shows a views children → Shows b views children → a ≡ b
same_registry a b views children s t =
    let roots : a.root ≡ b.root = s.root ∙ sym t.root in
    let maps : a.views ≡ b.views = same_map nat_cmp_total nat_cmp-IsAntisymmetric a.views b.views (λ q. s.shown q ∙ sym (t.shown q)) in
    λ i. record { root = roots i; views = maps i }

-- the five lists lead from the old views and children to the new ones
all_lead : (old new : PlainHostTree) → IsHostTree old → IsHostTree new → HaveOneKind old new
    → LeadTo (mutations_between old new) (view_at old) (children_at old) (view_at new) (children_at new)
all_lead old new ho hn one =
    let removes = flat_map (removes_at old new) (host_parents old) in
    let inserts = flat_map (inserts_at old new) (host_parents new) in
    let stay = kept old new in
    let to_deletes = lead_both removes (deletes old new) (view_at old) (view_at old) (view_in_both old new) (children_at old) stay stay (removes_lead old new ho) (deletes_lead old new ho hn) in
    let to_creates = lead_both (removes ++ deletes old new) (creates old new) (view_at old) (view_in_both old new) (view_before_updates old new) (children_at old) stay stay to_deletes (creates_lead old new ho hn) in
    let to_updates = lead_both (removes ++ deletes old new ++ creates old new) (updates old new) (view_at old) (view_before_updates old new) (view_at new) (children_at old) stay stay to_creates (updates_lead old new ho hn one) in
    lead_both (removes ++ deletes old new ++ creates old new ++ updates old new) inserts (view_at old) (view_at new) (view_at new) (children_at old) stay (children_at new) to_updates (inserts_lead old new hn)

-- the mutations between two host trees lead from the one to the other
pub lead_on : (old new : PlainHostTree) → IsHostTree old → IsHostTree new → HaveOneKind old new → LeadOn old new
lead_on old new ho hn one =
    let all = all_lead old new ho hn one (registry_of old) (tree_shows old ho) in
    record { applied = all.0; reached = same_registry _ _ (view_at new) (children_at new) all.1 (tree_shows new hn) }
