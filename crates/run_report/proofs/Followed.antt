-- The mounts of a surface follow on, and its host views follow them.
use Rattle.std.proofs.Common.{◌≡◌, ℕ, ◌≤◌, cond, List, [], ◌∷◌, ◌++◌, length, map, take, drop, nat_eq, None, arith, refl, ap, sym, ◌∙◌, subst, take-append-drop, take-take, inl, inr}
use Rattle.std.specs.List.{fold}
use Rattle.std.proofs.lemmas.Bool.{cases_Bool, eqb-false}
use Rattle.shadow_frame.specs.declared.Size.{Size}
use Rattle.host_views.specs.Registry.{PlainRegistry, MayApply, mutated, registry_of}
use Rattle.view_flatten.specs.HostTree.{host_tree_of}
use Rattle.view_mutation.specs.Mutations.{mutations_between}
use Rattle.view_mutation.specs.Leads.{LeadOn}
use Rattle.tree_revision.specs.Records.{PlainRecord}
use Rattle.tree_revision.specs.Ports.{BeginsWith}
use Rattle.tree_revision.specs.Stands.{settled_of}
use Rattle.tree_revision.specs.Lawful.{IsLawful}
use Rattle.tree_revision.specs.Mountable.{mountable_of}
use Rattle.tree_revision.proofs.Histories.{IsLawful-front}
use Rattle.mount_coordinator.specs.Mounted.{host_tree_at}
use Rattle.run_report.specs.Mounts.{Passage, closed, last_to, mount_along, passage_in}
use Rattle.run_report.specs.Shorthands.{passage}
use Rattle.run_report.specs.Legal.{FollowOn, AreMountsOn}
use Rattle.mount_coordinator.proofs.HostTrees.{histories_lead_on}
use Rattle.run_report.proofs.Passages.{follow_on_push}

-- the passages of mounts along passages
pub passages_along : (first : Size) (entries : List PlainRecord) (passages : List Passage) → map passage_in (map (mount_along first entries) passages) ≡ passages
passages_along first entries [] = refl
passages_along first entries (p ∷ passages) = ap (λ l. p ∷ l) (passages_along first entries passages)

-- passages that follow on do so with the closing one
pub closed_follows : (entries : List PlainRecord) (passages : List Passage) → FollowOn 0 passages → last_to passages ≤ mountable_of entries → FollowOn 0 (closed entries passages)
closed_follows entries passages h low =
    elim (cases_Bool (nat_eq (last_to passages) (mountable_of entries))) [
      | inl e ↦ subst (λ b. FollowOn 0 (cond b passages (passages ++ passage (last_to passages) (mountable_of entries) None ∷ []))) (sym e) h
      | inr e ↦
          subst (λ b. FollowOn 0 (cond b passages (passages ++ passage (last_to passages) (mountable_of entries) None ∷ []))) (sym e)
          (follow_on_push 0 passages (passage (last_to passages) (mountable_of entries) None) h refl (omega (arith, low, eqb-false (last_to passages) (mountable_of entries) e)))
    ]

-- passages that follow on lead up
pub leads_up : (base : ℕ) (passages : List Passage) → FollowOn base passages → base ≤ fold (λ number step. step.to) base passages
leads_up base [] f = omega arith
leads_up base (step ∷ passages) f = omega (arith, f.0, f.1, leads_up step.to passages f.2)

-- a longer history changes no mount between earlier revisions
module _ (first : Size) (records longer : List PlainRecord) (grows : BeginsWith longer records) where
  same_tree : (n : ℕ) → n ≤ length records → host_tree_at first longer n ≡ host_tree_at first records n
  same_tree n low = ap (λ l. host_tree_of (settled_of first l)) (sym (take-take n (length records) longer low) ∙ ap (take n) grows.same)

  pub mounts_over_more : (base : ℕ) (passages : List Passage) → FollowOn base passages → fold (λ number step. step.to) base passages ≤ length records
      → map (mount_along first longer) passages ≡ map (mount_along first records) passages
  mounts_over_more base [] f low = refl
  mounts_over_more base (step ∷ passages) f low =
      let up : step.to ≤ fold (λ number step. step.to) step.to passages = leads_up step.to passages f.2 in
      let from = same_tree step.base (omega (arith, up, f.1, low)) in
      let to = same_tree step.to (omega (arith, up, low)) in
      λ i. (record { base = step.base; to = step.to; by = step.by; mutations = mutations_between (from i) (to i) }) ∷ mounts_over_more step.to passages f.2 low i

module _ (first : Size) (entries : List PlainRecord) (lawful : IsLawful first entries) where
  -- mutations lead from one revision to a later one
  pub lead_between : (base to : ℕ) → base ≤ to → LeadOn (host_tree_at first entries base) (host_tree_at first entries to)
  lead_between base to low =
      let front : IsLawful first (take to entries) = IsLawful-front first (take to entries) (drop to entries) (subst (IsLawful first) (sym (take-append-drop to entries)) lawful) in
      let parts : take base entries ++ drop base (take to entries) ≡ take to entries =
      ap (λ l. l ++ drop base (take to entries)) (sym (take-take base to entries low)) ∙ take-append-drop base (take to entries) in
      subst (λ l. LeadOn (host_tree_at first entries base) (host_tree_of (settled_of first l))) parts
      (histories_lead_on first (take base entries) (drop base (take to entries)) (subst (IsLawful first) (sym parts) front))

  -- passages that follow on are mounts on the views of the revision where they begin
  pub mounts_follow : (base : ℕ) (passages : List Passage) (views : PlainRegistry) → FollowOn base passages → views ≡ registry_of (host_tree_at first entries base)
      → AreMountsOn first entries views (map (mount_along first entries) passages)
  mounts_follow base [] views h e = tt
  mounts_follow base (p ∷ passages) views h e =
      let lead = lead_between p.base p.to (omega (arith, h.1)) in
      let at : views ≡ registry_of (host_tree_at first entries p.base) = e ∙ ap (λ n. registry_of (host_tree_at first entries n)) (sym h.0) in
      let after : mutated (mount_along first entries p).mutations views ≡ registry_of (host_tree_at first entries p.to) =
      ap (mutated (mount_along first entries p).mutations) at ∙ lead.reached in (
        record {
          mutations = refl;
          applied = subst (MayApply (mount_along first entries p).mutations) (sym at) lead.applied;
          views_after = after;
        },
        mounts_follow p.to passages (mutated (mount_along first entries p).mutations views) h.2 after,
      )

  -- nothing is shown before the first commit
  pub nothing_shown : registry_of [] ≡ registry_of (host_tree_at first entries 0)
  nothing_shown = refl
