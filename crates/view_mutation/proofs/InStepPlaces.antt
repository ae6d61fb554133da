-- Places of host trees in step, one by one.
use Rattle.std.proofs.Common.{◌≡◌, ℕ, zero, suc, ◌+◌, ◌<◌, List, [], ◌∷◌, ◌++◌, length, get_or, drop, map, false, cond, Some, nat_eq, arith, refl, ap, sym, ◌∙◌, subst, append_assoc}
use Rattle.std.specs.List.{All, AllByRecursion, IsDistinct}
use Rattle.std.proofs.lemmas.Bool.{eq-eqb}
use Rattle.std.proofs.lemmas.List.{length-map}
use Rattle.std.proofs.lemmas.Map.Keys.{IsDistinct-head, IsDistinct-tail}
use Rattle.host_views.specs.Plain.{PlainMutation, host_tags, plain_mutation}
use Rattle.host_views.specs.declared.Mutation.{Mutation}
use Rattle.view_flatten.specs.declared.placing.Placed.{Placed}
use Rattle.view_flatten.specs.Placed.{plain_place, plain_places}
use Rattle.view_mutation.specs.InStep.{AreInStep, stands_of, update_before, updates_in_step}
use Rattle.view_mutation.specs.Lookups.{IsListed, place_at}
use Rattle.view_mutation.specs.SameSkipped.{IsSameAsBefore, IsSameButOrigin}
use Rattle.view_mutation.proofs.InStep.{same_host_tags, update_more}
use Rattle.view_mutation.proofs.Lists.{left_at}

-- trees in step have as many views
pub as_many : (old new : List Placed) → AreInStep (plain_places old) (plain_places new) → length old ≡ length new
as_many old new step =
    sym (length-map old plain_place) ∙ sym (length-map (plain_places old) (λ placed. (placed.parent, placed.tag))) ∙ ap length step
    ∙ length-map (plain_places new) (λ placed. (placed.parent, placed.tag)) ∙ length-map new plain_place

-- what holds of each tag holds of that at an index
tag_apart : (x : ℕ) (places : List Placed) (k : ℕ) (d : Placed) → AllByRecursion (λ tag. nat_eq x tag ≡ false) (host_tags (plain_places places)) → k < length places
    → nat_eq x (plain_place (get_or places k d)).tag ≡ false
tag_apart x [] k d h lt = absurd (omega arith)
tag_apart x (placed ∷ others) zero d h lt = h.0
tag_apart x (placed ∷ others) (suc k) d h lt = tag_apart x others k d h.1 (omega arith)

-- where tags differ, the place of a tag is the one at its index
place_here : (places : List Placed) (k : ℕ) (d : Placed) → IsDistinct nat_eq (host_tags (plain_places places)) → k < length places
    → place_at places (plain_place (get_or places k d)).tag ≡ Some (get_or places k d)
place_here [] k d apart lt = absurd (omega arith)
place_here (placed ∷ others) zero d apart lt = let tag : ℕ = (plain_place placed).tag in ap (λ b. cond b (Some placed) (place_at others tag)) (eq-eqb tag tag refl)
place_here (placed ∷ others) (suc k) d apart lt =
    let tag : ℕ = (plain_place placed).tag in
    let rest : List ℕ = host_tags (plain_places others) in
    ap (λ b. cond b (Some placed) (place_at others (plain_place (get_or others k d)).tag))
    (tag_apart tag others k d (IsDistinct-head nat_eq tag rest apart) (omega arith))
    ∙ place_here others k d (IsDistinct-tail nat_eq tag rest apart) (omega arith)

-- the tag at an index, by where the views stand
abbrev tag_of_stand : List (ℕ × ℕ) → ℕ → ℕ
tag_of_stand [] k = 0
tag_of_stand (stand ∷ others) zero = stand.1
tag_of_stand (stand ∷ others) (suc k) = tag_of_stand others k

tag_by_stand : (places : List Placed) (k : ℕ) (d : Placed) → k < length places → (plain_place (get_or places k d)).tag ≡ tag_of_stand (stands_of (plain_places places)) k
tag_by_stand [] k d lt = absurd (omega arith)
tag_by_stand (placed ∷ others) zero d lt = refl
tag_by_stand (placed ∷ others) (suc k) d lt = tag_by_stand others k d (omega arith)

-- places at one index are as the places of one tag
pub alike_at : (old new : List Placed) → AreInStep (plain_places old) (plain_places new) → IsDistinct nat_eq (host_tags (plain_places new))
    → All (λ is. IsSameAsBefore (place_at old (plain_place is).tag) is) new → (k : ℕ) (d e : Placed) → k < length new → IsSameButOrigin (get_or old k e) (get_or new k d)
alike_at old new step apart alike k d e lt =
    let many = as_many old new step in
    let tag : (plain_place (get_or new k d)).tag ≡ (plain_place (get_or old k e)).tag =
    tag_by_stand new k d lt ∙ ap (λ stands. tag_of_stand stands k) (sym step) ∙ sym (tag_by_stand old k e (omega (arith, many, lt))) in
    let apart_old : IsDistinct nat_eq (host_tags (plain_places old)) = subst (IsDistinct nat_eq) (sym (same_host_tags (plain_places old) (plain_places new) step)) apart in
    let found : place_at old (plain_place (get_or new k d)).tag ≡ Some (get_or old k e) =
    ap (place_at old) tag ∙ place_here old k e apart_old (omega (arith, many, lt)) in
    subst (λ o. IsSameAsBefore o (get_or new k d)) found (alike k d lt)

-- one more place of each was compared
pub step_more : (old new : List Placed) (i : ℕ) (was is : Placed) → length old ≡ length new → i < length new → was ≡ get_or old i was → is ≡ get_or new i is
    → (a b : List Mutation) (whole : List PlainMutation) → IsListed a (update_before (plain_place was) (plain_place is) []) b
    → map plain_mutation a ++ updates_in_step (plain_places (drop i old)) (plain_places (drop i new)) ≡ whole
    → map plain_mutation b ++ updates_in_step (plain_places (drop (i + 1) old)) (plain_places (drop (i + 1) new)) ≡ whole
step_more old new i was is many lt was_is is_is a b whole l w =
    let rest = updates_in_step (plain_places (drop (i + 1) old)) (plain_places (drop (i + 1) new)) in
    let first = update_before (plain_place was) (plain_place is) [] in
    let left : updates_in_step (plain_places (drop i old)) (plain_places (drop i new)) ≡ update_before (plain_place was) (plain_place is) rest =
    λ j. updates_in_step (left_at old i was (omega (arith, many, lt)) was_is j) (left_at new i is lt is_is j) in
    ap (λ r. r ++ rest) l.listed
    ∙ append_assoc (map plain_mutation a) first rest
    ∙ ap (λ r. map plain_mutation a ++ r) (update_more (plain_place was) (plain_place is) rest ∙ sym left)
    ∙ w

-- where one more place of each stands at the same place, the rest decides
pub stands_more : (old new : List Placed) (i : ℕ) (was is : Placed) → i < length old → i < length new → was ≡ get_or old i was → is ≡ get_or new i is
    → was.parent ≡ is.parent → (plain_place was).tag ≡ (plain_place is).tag
    → stands_of (plain_places (drop (i + 1) old)) ≡ stands_of (plain_places (drop (i + 1) new)) → stands_of (plain_places (drop i old)) ≡ stands_of (plain_places (drop i new))
stands_more old new i was is lt_old lt_new was_is is_is parent tag rest =
    ap stands_of (left_at old i was lt_old was_is) ∙ (λ j. (parent j, tag j) ∷ rest j) ∙ sym (ap stands_of (left_at new i is lt_new is_is))
