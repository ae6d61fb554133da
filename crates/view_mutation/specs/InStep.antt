-- Host trees in step: with the same tags below the same host parents, view by view.
use Rattle.std.specs.Prelude.{◌≡◌, ℕ, List, [], ◌∷◌, map, if◌then◌else◌, not}
use Rattle.host_views.specs.Plain.{PlainHostTree, PlainMutation, PlainPlacedView, update}
use Rattle.host_views.specs.Same.{is_same_view}

-- where each view stands: its host parent and its tag
abbrev pub stands_of : PlainHostTree → List (ℕ × ℕ)
stands_of tree = map (λ placed. (placed.parent, placed.tag)) tree

-- two host trees are in step
abbrev pub AreInStep : (old new : PlainHostTree) → Type 0
AreInStep old new = stands_of old ≡ stands_of new

-- the update of a view, where it differs from the one that it was, before others
abbrev pub update_before : (was is : PlainPlacedView) → List PlainMutation → List PlainMutation
update_before was is others = if not (is_same_view was.view is.view) then update is.tag is.view ∷ others else others

-- the updates of host trees in step, view by view
abbrev pub updates_in_step : (old new : PlainHostTree) → List PlainMutation
updates_in_step (was ∷ old) (is ∷ new) = update_before was is (updates_in_step old new)
updates_in_step _ _ = []
