-- A list of views that is taken apart at an index.
use Rattle.std.proofs.Common.{◌≡◌, ℕ, suc, ◌+◌, ◌<◌, ◌≤◌, List, [], ◌∷◌, ◌++◌, length, get_or, drop, drop-cons, map, Bool, add-one, arith, refl, ap, sym, ◌∙◌, append_assoc, min, inl, inr}
use Rattle.std.specs.Prelude.{filter}
use Rattle.std.proofs.lemmas.List.{map-append, drop_all, drop-map}
use Rattle.std.proofs.lemmas.Bool.{cases_lt}
use Rattle.std.proofs.lemmas.List.Elements.{filter-append}
use Rattle.view_flatten.specs.declared.placing.Placed.{Placed}
use Rattle.host_views.specs.declared.Mutation.{Mutation}
use Rattle.host_views.specs.Plain.{PlainPlacedView, PlainHostTree, PlainMutation, plain_mutation}
use Rattle.view_mutation.specs.Mutations.{common_prefix}
use Rattle.view_mutation.specs.Children.{tags_in}
use Rattle.view_mutation.specs.Lookups.{IsListed}
use Rattle.view_flatten.specs.Placed.{plain_place, plain_places}

-- the views from an index on: the first one, and the others
pub left_at : (views : List Placed) (i : ℕ) (d : Placed) → i < length views → d ≡ get_or views i d
    → plain_places (drop i views) ≡ plain_place d ∷ plain_places (drop (i + 1) views)
left_at views i d h e = let f : drop i views ≡ get_or views i d ∷ drop (suc i) views = drop-cons views i d h in rw (f, ← e, add-one) refl

-- what a filter gives at the first view, and at the others
filtered_first : (f : PlainPlacedView → PlainMutation) (p : PlainPlacedView → Bool) (x : PlainPlacedView) (xs : PlainHostTree)
    → map f (filter p (x ∷ xs)) ≡ map f (filter p (x ∷ [])) ++ map f (filter p xs)
filtered_first f p x xs = ap (map f) (filter-append p (x ∷ []) xs) ∙ map-append f (filter p (x ∷ [])) (filter p xs)

-- one more view of a filter was listed
pub filtered_more : (f : PlainPlacedView → PlainMutation) (p : PlainPlacedView → Bool) (views : List Placed) (i : ℕ) (d : Placed)
    → i < length views → d ≡ get_or views i d → (a b : List Mutation) (whole : List PlainMutation) → IsListed a (map f (filter p (plain_place d ∷ []))) b
    → map plain_mutation a ++ map f (filter p (plain_places (drop i views))) ≡ whole
    → map plain_mutation b ++ map f (filter p (plain_places (drop (i + 1) views))) ≡ whole
filtered_more f p views i d h e a b whole l w =
    let rest = plain_places (drop (i + 1) views) in
    let first = map f (filter p (plain_place d ∷ [])) in
    ap (λ r. r ++ map f (filter p rest)) l.listed
    ∙ append_assoc (map plain_mutation a) first (map f (filter p rest))
    ∙ ap (λ r. map plain_mutation a ++ r) (sym (filtered_first f p (plain_place d) rest))
    ∙ ap (λ r. map plain_mutation a ++ map f (filter p r)) (sym (left_at views i d h e))
    ∙ w

-- there is no equal prefix with an empty list
pub prefix_none : (xs : List ℕ) → common_prefix xs [] ≡ 0
prefix_none [] = refl
prefix_none (x ∷ xs) = refl

-- one of the two lists is at its end
pub prefix_end : (old new : List (ℕ × ℕ)) (i : ℕ) → min (length old) (length new) ≤ i → common_prefix (tags_in (drop i old)) (tags_in (drop i new)) ≡ 0
prefix_end old new i h =
    elim (cases_lt i (length old)) as (λ c. common_prefix (tags_in (drop i old)) (tags_in (drop i new)) ≡ 0) [
      | inl within ↦ ap (λ pairs. common_prefix (tags_in (drop i old)) (tags_in pairs)) (drop_all i new (omega arith)) ∙ prefix_none (tags_in (drop i old))
      | inr past ↦ ap (λ pairs. common_prefix (tags_in pairs) (tags_in (drop i new))) (drop_all i old past)
    ]

-- what is listed of the tags after those that stay
pub after_staying : (f : ℕ → List ℕ → List PlainMutation) (pairs wanted : List (ℕ × ℕ)) (stay whole : ℕ) → pairs ≡ wanted → stay ≡ whole
    → f stay (tags_in (drop stay pairs)) ≡ f whole (drop whole (tags_in wanted))
after_staying f pairs wanted stay whole h k = ap (f stay) (sym (drop-map (λ pair. pair.1) stay pairs)) ∙ (λ i. f (k i) (drop (k i) (tags_in (h i))))
