-- When mutations lead from one host tree to another.
use Rattle.std.specs.Prelude.{◌≡◌, ℕ, Some}
use Rattle.host_views.specs.declared.HostView.{HostView}
use Rattle.host_views.specs.Plain.{PlainHostTree}
use Rattle.host_views.specs.Registry.{registry_of, MayApply, mutated}
use Rattle.view_mutation.specs.Mutations.{view_at, mutations_between}

-- a tag that is in two host trees has one kind
abbrev pub HaveOneKind : (old new : PlainHostTree) → Type 0
HaveOneKind old new = (tag : ℕ) (was is : HostView) → view_at old tag ≡ Some was → view_at new tag ≡ Some is → was.kind ≡ is.kind

-- the mutations between two host trees lead from the one to the other: each may be applied in its turn, and all of them applied to the one give the other
pub record LeadOn (old new : PlainHostTree) : Type 0 where
  pub applied : MayApply (mutations_between old new) (registry_of old)
  pub reached : mutated (mutations_between old new) (registry_of old) ≡ registry_of new
