-- Places whose nodes neither walk entered differ at most in where they begin.
use Rattle.std.proofs.Common.{◌≡◌, ◌≤◌, ℕ, List, [], ◌∷◌, Bool, true, false, cond, ◌&&◌, nat_eq, unwrap_or, Option, Some, None, IfSome, refl, ap, sym, ◌∙◌, subst, inl, inr}
use Rattle.std.specs.Prelude.{nat_le}
use Rattle.std.specs.List.{All, AllByRecursion, IsDistinct}
use Rattle.std.proofs.lemmas.Bool.{both_ways, cases_Bool, eqb-true}
use Rattle.std.proofs.lemmas.List.Elements.{All-from_recursion, recursion_from_All}
use Rattle.shadow_frame.specs.declared.Point.{Point}
use Rattle.shadow_frame.specs.Same.{is_same_point}
use Rattle.shadow_kinds.specs.Traits.{forms_context_of}
use Rattle.shadow_node.specs.Entered.{AreAlikeSince, is_unchanged_since}
use Rattle.shadow_node.specs.Fields.{SettledFields, contents_of, tags_of}
use Rattle.shadow_node.specs.Find.{first_settled}
use Rattle.shadow_node.specs.Forest.{PlainForest, PlainNode}
use Rattle.shadow_node.specs.Pruned.{pruned}
use Rattle.shadow_node.specs.Shown.{Descendant, descendants}
use Rattle.host_views.specs.declared.HostView.{HostView}
use Rattle.host_views.specs.Plain.{PlainPlacedView}
use Rattle.host_views.specs.Same.{is_same_view}
use Rattle.host_views.proofs.Same.{same_itself}
use Rattle.view_flatten.specs.declared.placing.Placed.{Placed}
use Rattle.view_flatten.specs.HostTree.{host_tree_of, viewed}
use Rattle.view_flatten.specs.Placed.{AreMarked, plain_place, plain_places, view_from}
use Rattle.view_flatten.specs.Places.{placed_at}
use Rattle.view_flatten.proofs.Shorthands.{has_view}
use Rattle.view_flatten.proofs.Distinct.{each_then, each_of_two}
use Rattle.view_flatten.proofs.Lines.{tags_below}
use Rattle.view_flatten.proofs.Order.{tag_at, each_kept}
use Rattle.view_flatten.proofs.Outside.{is_outside, of_tags, viewed_pruned}
use Rattle.view_flatten.proofs.Views.{each_placed_view}
use Rattle.view_mutation.specs.Lookups.{place_at}
use Rattle.view_mutation.specs.SameSkipped.{IsSameAsBefore, IsSameButOrigin}
use Rattle.view_mutation.specs.Since.{AreTagged}
use Rattle.view_mutation.proofs.Skipped.{HasTree, each_tree, found_in_old}

-- a test whose other parts hold is that of the one part
only_part : (others p q last : Bool) → (others && (p && last)) ≡ true → (others && (q && last)) ≡ q
only_part true true true true e = refl
only_part true true false true e = refl
only_part true p q false e = absurd (both_ways _ (last_false p) e)
  where
    last_false : (p : Bool) → (p && false) ≡ false
    last_false true = refl
    last_false false = refl
only_part true false q true e = absurd (both_ways false refl e)
only_part false p q last e = absurd (both_ways false refl e)

-- views of the same node are the same where they begin at the same place
pub same_from_origin : (a b : Point) (was is : SettledFields) → ((origin : Point) → view_from origin was ≡ view_from origin is) → is_same_point a b ≡ is_same_view (view_from a was) (view_from b is)
same_from_origin a b was is h =
    sym (ap (λ v. is_same_view v (view_from b is)) (h a) ∙ only_part _ (is_same_point a a) (is_same_point a b) _ (same_itself (view_from a is)))

-- a view that begins elsewhere
abbrev from_origin : Point → HostView → HostView
from_origin origin view = record view { frame = record view.frame { origin = origin } }

-- a placed view is that of a node of a forest
record IsOfNode (forest : PlainForest SettledFields) (placed : PlainPlacedView) : Type 0 where
  here : Descendant
  tree : HasTree forest here
  low : 1 ≤ tag_at here
  tag : placed.tag ≡ tag_at here
  look : (origin : Point) → from_origin origin placed.view ≡ view_from origin here.settled

-- each view of a host tree of a part of a forest is that of a node
each_of_node : (test : SettledFields → Bool) (forest : PlainForest SettledFields) → IsDistinct nat_eq (tags_of (contents_of forest)) → AreTagged forest
    → AllByRecursion (IsOfNode forest) (host_tree_of (pruned test forest))
each_of_node test forest distinct low =
    let nodes = descendants forest in
    let known = λ (here : Descendant). HasTree forest here × (1 ≤ tag_at here) in
    let each = each_of_two (HasTree forest) (λ here. 1 ≤ tag_at here) nodes (each_tree forest (subst (IsDistinct nat_eq) (sym (tags_below [] forest)) distinct))
    (of_tags (λ tag. 1 ≤ tag) nodes (subst (AllByRecursion (λ tag. 1 ≤ tag)) (sym (tags_below [] forest)) low)) in
    each_placed_view (IsOfNode forest) (pruned test forest)
    (each_then known (λ here. (index : ℕ) → IsOfNode forest (placed_at index here)) (λ here h index. record { here = here; tree = h.0; low = h.1; tag = refl; look = λ origin. refl }) (viewed (pruned test forest))
    (subst (AllByRecursion known) (sym (viewed_pruned test forest)) (each_kept known (is_outside test) (viewed forest) (each_kept known has_view nodes each))))

-- the same of places
of_places : (P : PlainPlacedView → Type 0) (places : List Placed) → AllByRecursion P (plain_places places) → AllByRecursion (λ placed. P (plain_place placed)) places
of_places P [] h = tt
of_places P (placed ∷ places) h = (h.0, of_places P places h.1)

-- what is found by a tag has it, and what holds of each holds of it
found_place : (P : Placed → Type 0) (tag : ℕ) (places : List Placed) → AllByRecursion P places → (was : Placed) → place_at places tag ≡ Some was → P was × ((plain_place was).tag ≡ tag)
found_place P tag [] h was e = let no : ⊥ = cc in absurd no
found_place P tag (placed ∷ places) h was e =
    elim (cases_Bool (nat_eq (plain_place placed).tag tag)) [
      | inl here ↦
          let same : placed ≡ was = ap (λ o. unwrap_or o placed) (sym (ap (λ b. cond b (Some placed) (place_at places tag)) here) ∙ e) in
          subst (λ p. P p × ((plain_place p).tag ≡ tag)) same (h.0, eqb-true (plain_place placed).tag tag here)
      | inr other ↦ found_place P tag places h.1 was (sym (ap (λ b. cond b (Some placed) (place_at places tag)) other) ∙ e)
    ]

-- what is there, or not
if_found : (o : Option Placed) (P : Placed → Type 0) → ((was : Placed) → o ≡ Some was → P was) → IfSome o P
if_found None P h = tt
if_found (Some was) P h = h was refl

-- where no node is skipped there is nothing to show
pub none_skipped : (olds news : List Placed) → AreMarked (λ settled. false) news → All (λ is. IsSameAsBefore (place_at olds (plain_place is).tag) is) news
none_skipped olds news marked =
    All-from_recursion (λ is. IsSameAsBefore (place_at olds (plain_place is).tag) is) news
    (each_then (λ (is : Placed). is.is_skipped ≡ false) (λ is. IsSameAsBefore (place_at olds (plain_place is).tag) is)
    (λ is e. if_found (place_at olds (plain_place is).tag) (λ was. IsSameButOrigin was is) (λ was _ was_skipped is_skipped. absurd (both_ways is.is_skipped e is_skipped))) news
    (recursion_from_All (λ (is : Placed). is.is_skipped ≡ false) news marked))

-- places of nodes that are unchanged since the base
pub same_skipped : (stamps : ℕ → ℕ) (base : ℕ) (old new : PlainForest SettledFields) → IsDistinct nat_eq (tags_of (contents_of old)) → IsDistinct nat_eq (tags_of (contents_of new))
    → AreTagged old → AreTagged new → AreAlikeSince stamps base old new → (test : SettledFields → Bool) (olds news : List Placed)
    → plain_places olds ≡ host_tree_of (pruned test old) → plain_places news ≡ host_tree_of (pruned (is_unchanged_since stamps base) new) → AreMarked (is_unchanged_since stamps base) news
    → All (λ is. IsSameAsBefore (place_at olds (plain_place is).tag) is) news
same_skipped stamps base old new distinct_old distinct_new low_old low_new alike test olds news tree_old tree_new marked =
    let known_old = of_places (IsOfNode old) olds (subst (AllByRecursion (IsOfNode old)) (sym tree_old) (each_of_node test old distinct_old low_old)) in
    let known_new = of_places (IsOfNode new) news (subst (AllByRecursion (IsOfNode new)) (sym tree_new) (each_of_node unchanged new distinct_new low_new)) in
    All-from_recursion (λ is. IsSameAsBefore (place_at olds (plain_place is).tag) is) news
    (each_then (λ (is : Placed). IsOfNode new (plain_place is) × (is.is_skipped ≡ unchanged is.spot.tree.fields)) (λ is. IsSameAsBefore (place_at olds (plain_place is).tag) is)
    (λ is h. if_found (place_at olds (plain_place is).tag) (λ was. IsSameButOrigin was is) (λ was e was_skipped is_skipped origin.
    let found = found_place (λ was. IsOfNode old (plain_place was)) (plain_place is).tag olds known_old was e in
    both_same was is found.0 h.0 found.1 (sym h.1 ∙ is_skipped) origin)) news
    (each_of_two (λ (is : Placed). IsOfNode new (plain_place is)) (λ is. is.is_skipped ≡ unchanged is.spot.tree.fields) news known_new (recursion_from_All (λ (is : Placed). is.is_skipped ≡ unchanged is.spot.tree.fields) news marked)))
  where
    unchanged : SettledFields → Bool
    unchanged = is_unchanged_since stamps base

    both_same : (was is : Placed) → IsOfNode old (plain_place was) → IsOfNode new (plain_place is) → (plain_place was).tag ≡ (plain_place is).tag → unchanged is.spot.tree.fields ≡ true
        → (origin : Point) → view_from origin was.spot.tree.fields ≡ view_from origin is.spot.tree.fields
    both_same was is h k tags e origin =
        let seen : view_from origin is.spot.tree.fields ≡ view_from origin k.here.settled = k.look origin in
        let passes : unchanged k.here.settled ≡ true =
        (λ i. forms_context_of (sym seen i).kind (sym seen i).props && nat_le (stamps (sym k.tag i)) base) ∙ e in
        let top_old : first_settled (tag_at k.here) old ≡ Some k.tree.tree = found_in_old stamps base old new distinct_old distinct_new low_old low_new alike k.here k.tree k.low passes in
        let same_tag : tag_at k.here ≡ tag_at h.here = sym k.tag ∙ sym tags ∙ h.tag in
        let same_tree : k.tree.tree ≡ h.tree.tree = ap (λ o. unwrap_or o k.tree.tree) (sym top_old ∙ ap (λ tag. first_settled tag old) same_tag ∙ h.tree.found) in
        let same : h.here.settled ≡ k.here.settled = sym h.tree.same ∙ ap (λ (tree : PlainNode SettledFields). tree.fields) (sym same_tree) ∙ k.tree.same in
        h.look origin ∙ ap (view_from origin) same ∙ sym seen
