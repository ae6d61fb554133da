-- A node that is shown and whose kind has a state has a view.
use Rattle.std.proofs.Common.{◌≡◌, List, [], ◌∷◌, Bool, true, false, ◌&&◌}
use Rattle.std.specs.Prelude.{filter, if◌then◌else◌}
use Rattle.std.specs.List.{AllByRecursion}
use Rattle.std.proofs.lemmas.Bool.{false≢true}
use Rattle.prop_table.specs.Props.{PropList}
use Rattle.shadow_kinds.specs.declared.Kind.{Kind}
use Rattle.shadow_kinds.specs.declared.Kind.TheVariants.{View, Text, Image, Scroll, Input}
use Rattle.shadow_kinds.specs.Traits.{has_state_of, forms_view_of}
use Rattle.shadow_node.specs.Forest.{PlainForest}
use Rattle.shadow_node.specs.Fields.{SettledFields}
use Rattle.shadow_node.specs.Shown.{descendants, is_shown}
use Rattle.view_flatten.specs.HostTree.{host_tree_of}
use Rattle.view_flatten.proofs.Shorthands.{has_view}
use Rattle.view_flatten.specs.Places.{HasItsPlace}
use Rattle.view_flatten.proofs.Viewed.{each_viewed_has_place}

-- what holds of the elements that pass a test holds of each one that passes it
kept_first : {X : Type 0} (P : X → Type 0) (b : Bool) (x : X) (xs : List X) → AllByRecursion P (if b then x ∷ xs else xs)
    → (b ≡ true → P x) × AllByRecursion P xs
kept_first P true x xs h = (λ _. h.0, h.1)
kept_first P false x xs h = (λ e. absurd (false≢true e), h)

each_passing : {X : Type 0} (P : X → Type 0) (p : X → Bool) (xs : List X) → AllByRecursion P (filter p xs) → AllByRecursion (λ x. p x ≡ true → P x) xs
each_passing P p [] h = tt
each_passing P p (x ∷ xs) h =
    let parts = kept_first P (p x) x (filter p xs) h in
    (parts.0, each_passing P p xs parts.1)

each_weaker : {X : Type 0} (P Q : X → Type 0) → ((x : X) → P x → Q x) → (xs : List X) → AllByRecursion P xs → AllByRecursion Q xs
each_weaker P Q f [] h = tt
each_weaker P Q f (x ∷ xs) h = (f x h.0, each_weaker P Q f xs h.1)

-- a kind with a state forms a view, whatever its props
forms_own : (kind : Kind) (props : PropList) (shown : Bool) → has_state_of kind ≡ true → shown ≡ true → (forms_view_of kind props && shown) ≡ true
forms_own View props shown h k = absurd (false≢true h)
forms_own Text props shown h k = absurd (false≢true h)
forms_own Image props shown h k = absurd (false≢true h)
forms_own Scroll props shown h k = k
forms_own Input props shown h k = k

-- each node that is shown and whose kind has a state has its place in the host tree
pub each_state_has_view : (forest : PlainForest SettledFields)
    → AllByRecursion (λ here. has_state_of here.settled.fields.kind ≡ true → is_shown here ≡ true → HasItsPlace (host_tree_of forest) here) (descendants forest)
each_state_has_view forest =
    each_weaker (λ here. has_view here ≡ true → HasItsPlace (host_tree_of forest) here) _
    (λ here place h k. place (forms_own here.settled.fields.kind here.settled.fields.props (is_shown here) h k))
    (descendants forest) (each_passing (HasItsPlace (host_tree_of forest)) has_view (descendants forest) (each_viewed_has_place forest))
