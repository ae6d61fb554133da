-- Two forests walked in step: their views stand alike, site by site, and each that differs is updated.
use Rattle.std.specs.Prelude.{◌≡◌, ℕ, pos, List, [], ◌∷◌, Bool, true, not, Option, Contains, map, if◌then◌else◌}
use Rattle.std.specs.Option.{option_map}
use Rattle.shadow_kinds.specs.Axes.{z_order_of}
use Rattle.shadow_kinds.specs.Traits.{forms_context_of, forms_view_of, is_hidden_of}
use Rattle.shadow_node.specs.Entered.{is_kept_since, is_unchanged_since}
use Rattle.shadow_node.specs.Fields.{SettledFields}
use Rattle.shadow_node.specs.Forest.{PlainForest, preorder}
use Rattle.shadow_node.specs.Stamps.{stamp_in}
use Rattle.host_views.specs.declared.Mutation.{Mutation}
use Rattle.host_views.specs.Plain.{PlainMutation, update}
use Rattle.host_views.specs.Same.{is_same_view}
use Rattle.view_flatten.specs.declared.sites.Host.{Host}
use Rattle.view_flatten.specs.Sites.{AreLevel, PlainSite}
use Rattle.view_flatten.specs.Walks.{PlainWalk}
use Rattle.view_mutation.specs.Lookups.{IsListed}

-- where each site stands: its host parent and its tag
abbrev pub stands_at : List PlainSite → List (ℕ × ℕ)
stands_at sites = map (λ site. (site.parent, site.tag)) sites

-- the updates of sites in step, one by one
abbrev pub site_updates : (old new : List PlainSite) → List PlainMutation
site_updates (was ∷ old) (is ∷ new) =
    if not (is_same_view was.view is.view) then update is.tag is.view ∷ site_updates old new else site_updates old new
site_updates _ _ = []

-- two lists of sites are in step, each at z 0, and their updates were added to a list
pub record AreCompared (old new : List PlainSite) (before after : List Mutation) : Type 0 where
  pub stands : stands_at old ≡ stands_at new
  pub old_level : AreLevel old
  pub new_level : AreLevel new
  pub updates : IsListed before (site_updates old new) after

-- the nodes of the old forest that a walk in step does not enter: those that have the tag of a context which is unchanged since the base
abbrev pub kept_by : (new : PlainWalk) → (base : ℕ) → SettledFields → Bool
kept_by new base = is_kept_since (stamp_in new.stamps) base new.forest

-- the nodes of the new forest that it does not enter: the contexts that are unchanged since the base
abbrev pub unchanged_by : (new : PlainWalk) → (base : ℕ) → SettledFields → Bool
unchanged_by new base = is_unchanged_since (stamp_in new.stamps) base

-- two nodes of one tag are entered both or neither, and where neither is, they are the same but for what lies below them
pub record IsPaired (kept unchanged : SettledFields → Bool) (was is : SettledFields) : Type 0 where
  pub skipped : kept was ≡ unchanged is
  pub same : unchanged is ≡ true → was ≡ is

-- so are all nodes of one tag in two forests
abbrev pub ArePaired : (kept unchanged : SettledFields → Bool) → (old new : PlainForest SettledFields) → Type 0
ArePaired kept unchanged old new =
    (was is : SettledFields) → Contains (preorder old) was → Contains (preorder new) is → was.fields.tag ≡ is.fields.tag
    → IsPaired kept unchanged was is

-- two nodes have one tag, are hidden both or neither, form contexts and views both or neither, and have z 0
pub record StandAlike (was is : SettledFields) : Type 0 where
  pub tag : was.fields.tag ≡ is.fields.tag
  pub hidden : is_hidden_of was.fields.props ≡ is_hidden_of is.fields.props
  pub context : forms_context_of was.fields.kind was.fields.props ≡ forms_context_of is.fields.kind is.fields.props
  pub view : forms_view_of was.fields.kind was.fields.props ≡ forms_view_of is.fields.kind is.fields.props
  pub old_level : z_order_of was.fields.props ≡ pos 0
  pub new_level : z_order_of is.fields.props ≡ pos 0

-- the host parents of two nodes have one tag, where the nodes are shown, and they are shown both or neither
abbrev pub AreOneParent : (was is : Option Host) → Type 0
AreOneParent was is = option_map (λ host. host.parent) was ≡ option_map (λ host. host.parent) is
