-- The host trees of a lawful history: the mutations from one to a later one lead on.
use Rattle.std.proofs.Common.{◌≡◌, ◌≤◌, inl, inr, ℕ, List, [], ◌∷◌, ◌++◌, cond, Some, nat_eq, ap, sym, ◌∙◌, subst}
use Rattle.std.specs.List.{AllByRecursion, IsDistinct}
use Rattle.std.proofs.lemmas.Bool.{cases_Bool, eqb-true}
use Rattle.std.proofs.lemmas.Option.{same_Some}
use Rattle.shadow_frame.specs.declared.Size.{Size}
use Rattle.shadow_node.specs.Forest.{preorder}
use Rattle.shadow_node.specs.Fields.{contents_of, tags_of}
use Rattle.tree_settle.proofs.Settled.{contents_of-settled}
use Rattle.host_views.specs.declared.HostView.{HostView}
use Rattle.host_views.specs.Plain.{PlainHostTree}
use Rattle.host_views.specs.HostTree.{IsHostTree}
use Rattle.view_flatten.specs.HostTree.{host_tree_of}
use Rattle.view_flatten.proofs.Below.{is_host_tree}
use Rattle.view_flatten.proofs.Distinct.{each_then}
use Rattle.view_flatten.proofs.Views.{each_kind}
use Rattle.view_mutation.specs.Mutations.{view_at}
use Rattle.view_mutation.specs.Leads.{HaveOneKind, LeadOn}
use Rattle.view_mutation.specs.Since.{AreTagged}
use Rattle.view_mutation.proofs.Whole.{lead_on}
use Rattle.tree_revision.specs.Records.{PlainRecord}
use Rattle.shadow_node.specs.InRange.{IsTagInRange}
use Rattle.tree_revision.specs.Revisions.{PlainFamily, kind_of_family, revision_of}
use Rattle.tree_revision.specs.Newest.{newest_state}
use Rattle.tree_revision.specs.Stands.{settled_of}
use Rattle.tree_revision.specs.Lawful.{IsLawful}
use Rattle.tree_revision.proofs.Histories.{IsLawful-front}
use Rattle.tree_revision.proofs.Tags.{lawful_tags, lawful_families}

-- the contents of a history's settled forest are those of its revision
contents_of_history : (first : Size) (entries : List PlainRecord) → contents_of (settled_of first entries) ≡ (revision_of first entries).forest
contents_of_history first entries = contents_of-settled (revision_of first entries).size (newest_state entries) [] (revision_of first entries).forest

-- the tags of a lawful history are at least 1
pub lawful_tagged : (first : Size) (entries : List PlainRecord) → IsLawful first entries → AreTagged (settled_of first entries)
lawful_tagged first entries lawful =
    subst (AllByRecursion (λ tag. 1 ≤ tag)) (sym (ap tags_of (contents_of_history first entries)))
    (each_then IsTagInRange (λ tag. 1 ≤ tag) (λ tag h. h.low) (tags_of (revision_of first entries).forest) (lawful_tags first entries lawful).in_range)

-- the host tree of a lawful history is one
pub lawful_host_tree : (first : Size) (entries : List PlainRecord) → IsLawful first entries → IsHostTree (host_tree_of (settled_of first entries))
lawful_host_tree first entries lawful =
    let sound = lawful_tags first entries lawful in
    let tags : tags_of (contents_of (settled_of first entries)) ≡ tags_of (revision_of first entries).forest = ap tags_of (contents_of_history first entries) in
    is_host_tree (settled_of first entries) (subst (IsDistinct nat_eq) (sym tags) sound.differ) (lawful_tagged first entries lawful)

-- the view that is found by a tag has the kind that each view has by its tag
kind_at : (families : List PlainFamily) (tree : PlainHostTree) (tag : ℕ) (view : HostView)
    → AllByRecursion (λ placed. kind_of_family families placed.tag ≡ Some placed.view.kind) tree → view_at tree tag ≡ Some view → kind_of_family families tag ≡ Some view.kind
kind_at families [] tag view h e = absurd cc
kind_at families (x ∷ xs) tag view h e =
    elim (cases_Bool (nat_eq x.tag tag)) as (λ c. kind_of_family families tag ≡ Some view.kind) [
      | inl here ↦
          let same : x.tag ≡ tag = eqb-true x.tag tag here in
          let own : x.view ≡ view = same_Some x.view view (ap (λ b. cond b (Some x.view) (view_at xs tag)) (sym here) ∙ e) in
          ap (kind_of_family families) (sym same) ∙ h.0 ∙ ap (λ v. Some v.kind) own
      | inr other ↦ kind_at families xs tag view h.1 (ap (λ b. cond b (Some x.view) (view_at xs tag)) (sym other) ∙ e)
    ]

-- a view of a lawful history has the kind of its family
lawful_kind : (first : Size) (entries : List PlainRecord) → IsLawful first entries → (tag : ℕ) (view : HostView)
    → view_at (host_tree_of (settled_of first entries)) tag ≡ Some view → kind_of_family (revision_of first entries).families tag ≡ Some view.kind
lawful_kind first entries lawful tag view e =
    let families = (revision_of first entries).families in
    let kinds = subst (λ forest. AllByRecursion (λ fields. kind_of_family families fields.tag ≡ Some fields.kind) (preorder forest))
    (sym (contents_of_history first entries)) (lawful_tags first entries lawful).kinds in
    let each = each_kind (λ tag kind. kind_of_family families tag ≡ Some kind) (settled_of first entries) kinds in
    kind_at families (host_tree_of (settled_of first entries)) tag view each e

-- a tag has one kind in the host trees of a lawful history and of its front
lawful_one_kind : (first : Size) (entries more : List PlainRecord) → IsLawful first (entries ++ more)
    → HaveOneKind (host_tree_of (settled_of first entries)) (host_tree_of (settled_of first (entries ++ more)))
lawful_one_kind first entries more lawful tag was is old new =
    let before : kind_of_family (revision_of first entries).families tag ≡ Some was.kind =
    lawful_kind first entries (IsLawful-front first entries more lawful) tag was old in
    let after : kind_of_family (revision_of first (entries ++ more)).families tag ≡ Some is.kind = lawful_kind first (entries ++ more) lawful tag is new in
    same_Some was.kind is.kind (sym (lawful_families first entries more lawful tag was.kind before) ∙ after)

-- the mutations from the host tree of a front to that of the whole lead on
pub histories_lead_on : (first : Size) (entries more : List PlainRecord) → IsLawful first (entries ++ more)
    → LeadOn (host_tree_of (settled_of first entries)) (host_tree_of (settled_of first (entries ++ more)))
histories_lead_on first entries more lawful =
    lead_on (host_tree_of (settled_of first entries)) (host_tree_of (settled_of first (entries ++ more)))
    (lawful_host_tree first entries (IsLawful-front first entries more lawful)) (lawful_host_tree first (entries ++ more) lawful)
    (lawful_one_kind first entries more lawful)
