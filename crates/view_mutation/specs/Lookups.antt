-- The lists of mutations that go by tags, from what is known at each tag.
use Rattle.std.specs.Prelude.{◌≡◌, ℕ, List, ◌++◌, not, nat_eq, Option, is_some, filter, map}
use Rattle.std.specs.List.{find, slice_get}
use Rattle.std.specs.FinMap as pairs
use Rattle.std.specs.Option.{option_and_then, option_map}
use Rattle.std.specs.Ordering.{nat_cmp}
use Rattle.host_views.specs.declared.HostView.{HostView}
use Rattle.host_views.specs.declared.Mutation.{Mutation}
use Rattle.host_views.specs.Plain.{PlainHostTree, PlainMutation, create, delete, update, plain_mutation}
use Rattle.view_flatten.specs.declared.placing.Placed.{Placed}
use Rattle.view_flatten.specs.Placed.{plain_place}
use Rattle.view_mutation.specs.Mutations.{is_other_view}

-- the first place of a tag
abbrev pub place_at : List Placed → ℕ → Option Placed
place_at places tag = find (λ placed. nat_eq (plain_place placed).tag tag) places

-- the place of a tag by an index of places: tags with where their places stand
abbrev pub place_by : List (ℕ × ℕ) → List Placed → ℕ → Option Placed
place_by index places tag = option_and_then (λ at. slice_get places at) (pairs.find nat_cmp tag index)

-- the view of a tag by an index of places
abbrev pub view_by : List (ℕ × ℕ) → List Placed → ℕ → Option HostView
view_by index places tag = option_map (λ placed. (plain_place placed).view) (place_by index places tag)

-- deletes of the views whose tags are not known
abbrev pub deletes_by : (ℕ → Option HostView) → PlainHostTree → List PlainMutation
deletes_by known old = map (λ placed. delete placed.tag) (filter (λ placed. not (is_some (known placed.tag))) old)

-- creates of the views whose tags are not known
abbrev pub creates_by : (ℕ → Option HostView) → PlainHostTree → List PlainMutation
creates_by known new = map (λ placed. create placed.tag placed.view) (filter (λ placed. not (is_some (known placed.tag))) new)

-- updates of the views that differ from what is known at their tags
abbrev pub updates_by : (ℕ → Option HostView) → PlainHostTree → List PlainMutation
updates_by known new = map (λ placed. update placed.tag placed.view) (filter (λ placed. is_other_view (known placed.tag) placed.view) new)

-- these mutations were added at the end
pub record IsListed (old : List Mutation) (more : List PlainMutation) (new : List Mutation) : Type 0 where
  pub listed : map plain_mutation new ≡ map plain_mutation old ++ more
