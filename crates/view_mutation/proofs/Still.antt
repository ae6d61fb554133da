-- Changes at one place after another, until each place has its last value.
use Rattle.std.proofs.Common.{◌≡◌, inl, inr, ℕ, List, [], ◌∷◌, ◌++◌, map, filter, Bool, true, false, cond, ◌||◌, Option, nat_eq, refl, ap, sym, ◌∙◌}
use Rattle.std.specs.List.{AllByRecursion, IsDistinct, flat_map, list_any}
use Rattle.std.proofs.lemmas.Bool.{cases_eq, cases_Bool, ne_eqb, or_parts, both_ways}
use Rattle.std.proofs.lemmas.Map.Keys.{IsDistinct-head, IsDistinct-tail}
use Rattle.host_views.specs.declared.HostView.{HostView}
use Rattle.host_views.specs.Plain.{PlainMutation}
use Rattle.view_flatten.proofs.Distinct.{not_among}
use Rattle.view_mutation.proofs.Shows.{changed, changed_here, changed_other, changed_same}
use Rattle.view_mutation.proofs.Leading.{LeadTo, lead_both, lead_nowhere, lead_same}

-- the first values at the places that are left, and the last ones at the others
abbrev pub still : {X : Type 0} → (from to : ℕ → X) → List ℕ → ℕ → X
still from to [] = to
still from to (place ∷ places) = changed (still from to places) place (from place)

-- at a place that is not left stands the last value
pub still_past : {X : Type 0} (from to : ℕ → X) (places : List ℕ) (q : ℕ) → list_any (nat_eq q) places ≡ false → still from to places q ≡ to q
still_past from to [] q h = refl
still_past from to (place ∷ places) q h =
    let parts = or_parts (nat_eq q place) (list_any (nat_eq q) places) h in
    ap (λ b. cond b (from place) (still from to places q)) parts.0 ∙ still_past from to places q parts.1

-- at a place that is left stands the first value
still_left : {X : Type 0} (from to : ℕ → X) (places : List ℕ) (q : ℕ) → list_any (nat_eq q) places ≡ true → still from to places q ≡ from q
still_left from to [] q h = absurd (both_ways false refl h)
still_left from to (place ∷ places) q h =
    elim (cases_eq q place) as (λ c. still from to (place ∷ places) q ≡ from q) [
      | inl here ↦ rw here (changed_here (still from to places) place (from place))
      | inr other ↦
          changed_other (still from to places) place (from place) q other
          ∙ still_left from to places q (ap (λ b. b || list_any (nat_eq q) places) (sym (ne_eqb q place other)) ∙ h)
    ]

-- before the first change, where the other places stay as they are
pub still_all : {X : Type 0} (from to : ℕ → X) (places : List ℕ) → ((q : ℕ) → list_any (nat_eq q) places ≡ false → to q ≡ from q)
    → (q : ℕ) → still from to places q ≡ from q
still_all from to places h q =
    elim (cases_Bool (list_any (nat_eq q) places)) as (λ c. still from to places q ≡ from q) [
      | inl left ↦ still_left from to places q left
      | inr past ↦ still_past from to places q past ∙ h q past
    ]

-- what holds of the first values and of the last ones holds in between
pub still_between : {X : Type 0} (P : ℕ → X → Type 0) (from to : ℕ → X) → ((q : ℕ) → P q (from q)) → ((q : ℕ) → P q (to q))
    → (places : List ℕ) (q : ℕ) → P q (still from to places q)
still_between P from to h k [] q = k q
still_between P from to h k (place ∷ places) q =
    elim (cases_eq q place) as (λ c. P q (still from to (place ∷ places) q)) [
      | inl here ↦ rw here (rw (changed_here (still from to places) place (from place)) (h place))
      | inr other ↦ rw (ne_eqb q place other) (still_between P from to h k places q)
    ]

-- views that change one after another
pub lead_views : {X : Type 0} (key : X → ℕ) (g : X → List PlainMutation) (from to : ℕ → Option HostView) (children : ℕ → List ℕ) (Q : X → Type 0)
    → ((x : X) (views : ℕ → Option HostView) → Q x → LeadTo (g x) (changed views (key x) (from (key x))) children (changed views (key x) (to (key x))) children)
    → (xs : List X) → IsDistinct nat_eq (map key xs) → AllByRecursion Q xs → LeadTo (flat_map g xs) (still from to (map key xs)) children to children
lead_views key g from to children Q step [] d each = lead_nowhere to to children children (λ q. refl) (λ q. refl)
lead_views key g from to children Q step (x ∷ xs) d each =
    let rest = still from to (map key xs) in
    let past : rest (key x) ≡ to (key x) = still_past from to (map key xs) (key x) (not_among (key x) (map key xs) (IsDistinct-head nat_eq (key x) (map key xs) d)) in
    let first = lead_same (g x) (changed rest (key x) (from (key x))) (changed rest (key x) (to (key x))) (changed rest (key x) (from (key x))) rest children children children children
    (λ q. refl) (changed_same rest (key x) (to (key x)) past) (λ q. refl) (λ q. refl) (step x rest each.0) in
    lead_both (g x) (flat_map g xs) (changed rest (key x) (from (key x))) rest to children children children first
    (lead_views key g from to children Q step xs (IsDistinct-tail nat_eq (key x) (map key xs) d) each.1)

-- parents whose children change one after another
pub lead_parents : (g : ℕ → List PlainMutation) (from to : ℕ → List ℕ) (views : ℕ → Option HostView) (Q : ℕ → Type 0)
    → ((parent : ℕ) (parents : List ℕ) → Q parent
    → LeadTo (g parent) views (changed (still from to parents) parent (from parent)) views (changed (still from to parents) parent (to parent)))
    → (parents : List ℕ) → IsDistinct nat_eq parents → AllByRecursion Q parents → LeadTo (flat_map g parents) views (still from to parents) views to
lead_parents g from to views Q step [] d each = lead_nowhere views views to to (λ q. refl) (λ q. refl)
lead_parents g from to views Q step (parent ∷ parents) d each =
    let rest = still from to parents in
    let past : rest parent ≡ to parent = still_past from to parents parent (not_among parent parents (IsDistinct-head nat_eq parent parents d)) in
    let first = lead_same (g parent) views views views views (changed rest parent (from parent)) (changed rest parent (to parent)) (changed rest parent (from parent)) rest
    (λ q. refl) (λ q. refl) (λ q. refl) (changed_same rest parent (to parent) past) (step parent parents each.0) in
    lead_both (g parent) (flat_map g parents) views views views (changed rest parent (from parent)) rest to first
    (lead_parents g from to views Q step parents (IsDistinct-tail nat_eq parent parents d) each.1)

-- a mutation of each item that passes a test
pub of_each : {X : Type 0} (f : X → PlainMutation) (test : X → Bool) (xs : List X) → map f (filter test xs) ≡ flat_map (λ x. cond (test x) (f x ∷ []) []) xs
of_each f test [] = refl
of_each f test (x ∷ xs) =
    elim (test x) as (λ b. map f (cond b (x ∷ filter test xs) (filter test xs)) ≡ cond b (f x ∷ []) [] ++ flat_map (λ x. cond (test x) (f x ∷ []) []) xs) [
      | true ↦ ap (λ rest. f x ∷ rest) (of_each f test xs)
      | false ↦ of_each f test xs
    ]
