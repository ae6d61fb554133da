-- The mounts of a lawful history, followed one after another.
use Rattle.std.proofs.Common.{◌≡◌, ◌∙◌, ◌≤◌, ◌++◌, inl, inr, ℕ, List, [], ◌∷◌, map, take, drop, cond, nat_eq, Some, arith, sym, ap, subst}
use Rattle.std.specs.List.{AllByRecursion}
use Rattle.std.proofs.lemmas.Bool.{cases_Bool, eqb-true}
use Rattle.std.proofs.lemmas.List.{take-append-drop}
use Rattle.std.proofs.lemmas.Option.{same_Some}
use Rattle.std.proofs.Math.Seq.{take-take}
use Rattle.shadow_frame.specs.declared.Size.{Size}
use Rattle.shadow_node.specs.Forest.{preorder}
use Rattle.tree_settle.proofs.Settled.{contents_of-settled}
use Rattle.host_views.specs.declared.HostView.{HostView}
use Rattle.host_views.specs.Plain.{PlainHostTree}
use Rattle.host_views.specs.Registry.{PlainRegistry, registry_of}
use Rattle.view_flatten.specs.HostTree.{host_tree_of}
use Rattle.view_flatten.proofs.Views.{each_kind}
use Rattle.view_mutation.specs.Leads.{HaveOneKind}
use Rattle.view_mutation.specs.Mutations.{view_at}
use Rattle.frame_watch.specs.Mounts.{IsMount}
use Rattle.tree_revision.specs.Records.{PlainRecord}
use Rattle.tree_revision.specs.Revisions.{PlainFamily, kind_of_family, revision_of}
use Rattle.tree_revision.specs.Newest.{newest_state}
use Rattle.tree_revision.specs.Stands.{settled_of}
use Rattle.tree_revision.specs.Lawful.{IsLawful}
use Rattle.tree_revision.proofs.Histories.{IsLawful-front}
use Rattle.tree_revision.proofs.Tags.{lawful_tags, lawful_families}
use Rattle.mount_coordinator.specs.Mounted.{host_tree_at}
use Rattle.mount_coordinator.proofs.HostTrees.{lawful_host_tree}
use Rattle.run_report.specs.Journal.{PlainMount}
use Rattle.run_report.specs.Legal.{AreMountsOn, FollowOn}
use Rattle.run_report.specs.Mounts.{passage_in}

-- mounts lead on from these views, which are those of some revision
pub record LeadOnFrom (first : Size) (entries : List PlainRecord) (views : PlainRegistry) (mounts : List PlainMount) : Type 0 where
  pub number : ℕ
  pub are : views ≡ registry_of (host_tree_at first entries number)
  pub forward : FollowOn number (map passage_in mounts)
  pub on : AreMountsOn first entries views mounts

-- the view that is found by a tag has the kind that each view has by its tag
found_kind : (families : List PlainFamily) (tree : PlainHostTree) (tag : ℕ) (view : HostView)
    → AllByRecursion (λ placed. kind_of_family families placed.tag ≡ Some placed.view.kind) tree → view_at tree tag ≡ Some view → kind_of_family families tag ≡ Some view.kind
found_kind families [] tag view h e = absurd cc
found_kind families (placed ∷ tree) tag view h e =
    elim (cases_Bool (nat_eq placed.tag tag)) as (λ c. kind_of_family families tag ≡ Some view.kind) [
      | inl same ↦
          let own : placed.view ≡ view = same_Some placed.view view (sym (ap (λ b. cond b (Some placed.view) (view_at tree tag)) same) ∙ e) in
          ap (kind_of_family families) (sym (eqb-true placed.tag tag same)) ∙ h.0 ∙ ap (λ (v : HostView). Some v.kind) own
      | inr other ↦ found_kind families tree tag view h.1 (sym (ap (λ b. cond b (Some placed.view) (view_at tree tag)) other) ∙ e)
    ]

-- in a lawful history it is that of its family
history_kind : (first : Size) (entries : List PlainRecord) → IsLawful first entries → (tag : ℕ) (view : HostView)
    → view_at (host_tree_of (settled_of first entries)) tag ≡ Some view → kind_of_family (revision_of first entries).families tag ≡ Some view.kind
history_kind first entries lawful tag view e =
    let revision = revision_of first entries in
    let contents = contents_of-settled revision.size (newest_state entries) [] revision.forest in
    let kinds = subst (λ forest. AllByRecursion (λ fields. kind_of_family revision.families fields.tag ≡ Some fields.kind) (preorder forest)) (sym contents) (lawful_tags first entries lawful).kinds in
    found_kind revision.families (host_tree_of (settled_of first entries)) tag view
    (each_kind (λ tag kind. kind_of_family revision.families tag ≡ Some kind) (settled_of first entries) kinds) e

-- a tag has one kind in the host trees of a front and of the whole
one_kind : (first : Size) (entries more : List PlainRecord) → IsLawful first (entries ++ more)
    → HaveOneKind (host_tree_of (settled_of first entries)) (host_tree_of (settled_of first (entries ++ more)))
one_kind first entries more lawful tag was is old new =
    let before = history_kind first entries (IsLawful-front first entries more lawful) tag was old in
    same_Some was.kind is.kind (sym (lawful_families first entries more lawful tag was.kind before) ∙ history_kind first (entries ++ more) lawful tag is new)

module _ (first : Size) (entries : List PlainRecord) (lawful : IsLawful first entries) where
  -- the first records of a lawful history are one
  front : (number : ℕ) → IsLawful first (take number entries)
  front number = IsLawful-front first (take number entries) (drop number entries) (subst (IsLawful first) (sym (take-append-drop number entries)) lawful)

  -- and of two numbers the lower one has a front of the other's
  kinds_between : (base to : ℕ) → base ≤ to → HaveOneKind (host_tree_at first entries base) (host_tree_at first entries to)
  kinds_between base to less =
      let whole : take base entries ++ drop base (take to entries) ≡ take to entries =
      ap (λ list. list ++ drop base (take to entries)) (sym (take-take base to entries less)) ∙ take-append-drop base (take to entries) in
      subst (λ list. HaveOneKind (host_tree_at first entries base) (host_tree_of (settled_of first list))) whole
      (one_kind first (take base entries) (drop base (take to entries)) (subst (IsLawful first) (sym whole) (front to)))

  module _ (views : PlainRegistry) (done : PlainMount) (mounts : List PlainMount) (lead : LeadOnFrom first entries views (done ∷ mounts)) where
    -- the next one is a mount
    pub next_mounts : IsMount views done.mutations (host_tree_at first entries done.base) (host_tree_at first entries done.to)
    next_mounts = record {
      old_tree = lawful_host_tree first (take done.base entries) (front done.base);
      new_tree = lawful_host_tree first (take done.to entries) (front done.to);
      kinds = kinds_between done.base done.to (omega (arith, lead.forward.1));
      stands = lead.are ∙ ap (λ number. registry_of (host_tree_at first entries number)) (sym lead.forward.0);
      leads = lead.on.0.mutations;
    }

    -- and the others lead on from what it leads to
    pub others_lead : (after : PlainRegistry) → after ≡ registry_of (host_tree_at first entries done.to) → LeadOnFrom first entries after mounts
    others_lead after is = record {
      number = done.to;
      are = is;
      forward = lead.forward.2;
      on = subst (λ views. AreMountsOn first entries views mounts) (lead.on.0.views_after ∙ sym is) lead.on.1;
    }
