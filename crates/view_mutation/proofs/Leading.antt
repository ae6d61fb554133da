-- Lists of mutations that lead a registry from one state to another.
use Rattle.std.proofs.Common.{◌≡◌, ◌≢◌, inl, inr, ℕ, ◌+◌, List, [], ◌∷◌, ◌++◌, length, length-append, append_assoc, append-nil, false, Option, Some, nat_eq, arith, refl, ap, sym, ◌∙◌, subst}
use Rattle.std.specs.List.{AllByRecursion, list_any}
use Rattle.std.proofs.lemmas.Bool.{cases_eq}
use Rattle.host_views.specs.declared.HostView.{HostView}
use Rattle.host_views.specs.Plain.{PlainMutation, insert, remove}
use Rattle.host_views.specs.Registry.{PlainRegistry, Fits, after_mutation, MayApply, mutated}
use Rattle.view_mutation.specs.Mutations.{removes_from, inserts_from}
use Rattle.std.specs.FinMap.{get}
use Rattle.view_mutation.proofs.Shows.{Shows, shown_of, changed, changed_here, changed_other, IsParent, removed, inserted}

-- from each registry that shows the one state the mutations may be applied, and afterwards it shows the other
abbrev pub LeadTo : List PlainMutation → (views : ℕ → Option HostView) → (children : ℕ → List ℕ) → (views' : ℕ → Option HostView) → (children' : ℕ → List ℕ) → Type 0
LeadTo mutations views children views' children' = (registry : PlainRegistry) → Shows registry views children → MayApply mutations registry × Shows (mutated mutations registry) views' children'

-- mutations in two parts
mutated_parts : (xs ys : List PlainMutation) (registry : PlainRegistry) → mutated (xs ++ ys) registry ≡ mutated ys (mutated xs registry)
mutated_parts [] ys registry = refl
mutated_parts (x ∷ xs) ys registry = mutated_parts xs ys (after_mutation x registry)

-- mutations in two parts may be applied where each part may
may_apply_parts : (xs ys : List PlainMutation) (registry : PlainRegistry) → MayApply xs registry → MayApply ys (mutated xs registry) → MayApply (xs ++ ys) registry
may_apply_parts [] ys registry h k = k
may_apply_parts (x ∷ xs) ys registry h k = (h.0, may_apply_parts xs ys (after_mutation x registry) h.1 k)

-- one part leads on, and then the other
pub lead_both : (xs ys : List PlainMutation) (v w z : ℕ → Option HostView) (c d e : ℕ → List ℕ) → LeadTo xs v c w d → LeadTo ys w d z e → LeadTo (xs ++ ys) v c z e
lead_both xs ys v w z c d e h k registry s =
    let first = h registry s in
    let second = k (mutated xs registry) first.1 in
    (may_apply_parts xs ys registry first.0 second.0, subst (λ r. Shows r z e) (sym (mutated_parts xs ys registry)) second.1)

-- no mutation leads from a state to one that is equal at each tag
pub lead_nowhere : (v w : ℕ → Option HostView) (c d : ℕ → List ℕ) → ((q : ℕ) → v q ≡ w q) → ((q : ℕ) → c q ≡ d q) → LeadTo [] v c w d
lead_nowhere v w c d h k registry s = (
  tt,
  record {
    none = sym (h 0) ∙ s.none;
    root = s.root ∙ k 0;
    shown = subst (λ (x : (ℕ → Option HostView) × (ℕ → List ℕ)). (tag : ℕ) → get registry.views tag ≡ shown_of (x.0 tag) (x.1 tag)) (λ i. ((λ q. h q i), (λ q. k q i))) s.shown;
  },
)

-- the same mutations lead from and to states that are equal at each tag
pub lead_same : (xs : List PlainMutation) (v w v' w' : ℕ → Option HostView) (c d c' d' : ℕ → List ℕ)
    → ((q : ℕ) → v q ≡ v' q) → ((q : ℕ) → w q ≡ w' q) → ((q : ℕ) → c q ≡ c' q) → ((q : ℕ) → d q ≡ d' q) → LeadTo xs v c w d → LeadTo xs v' c' w' d'
lead_same xs v w v' w' c d c' d' a b e f h =
    subst (λ (x : (ℕ → Option HostView) × (ℕ → Option HostView) × (ℕ → List ℕ) × (ℕ → List ℕ)). LeadTo xs x.0 x.2 x.1 x.3)
    (λ i. ((λ q. a q i), (λ q. b q i), (λ q. e q i), (λ q. f q i))) h

-- one mutation
pub lead_one : (x : PlainMutation) (v w : ℕ → Option HostView) (c d : ℕ → List ℕ)
    → ((registry : PlainRegistry) → Shows registry v c → Fits registry x × Shows (after_mutation x registry) w d) → LeadTo (x ∷ []) v c w d
lead_one x v w c d h registry s = let step = h registry s in ((step.0, tt), step.1)

-- removes of a parent's last children, with indexes falling
pub lead_removes : (views : ℕ → Option HostView) (children : ℕ → List ℕ) (parent index : ℕ) (front tags : List ℕ) → IsParent views parent → length front ≡ index
    → LeadTo (removes_from parent index tags) views (changed children parent (front ++ tags)) views (changed children parent front)
lead_removes views children parent index front [] h e =
    lead_nowhere views views (changed children parent (front ++ [])) (changed children parent front) (λ q. refl) (λ q. ap (λ kids. changed children parent kids q) (append-nil front))
lead_removes views children parent index front (tag ∷ tags) h e =
    let more : length (front ++ tag ∷ []) ≡ index + 1 = omega (arith, length-append front (tag ∷ [])) in
    let others = lead_removes views children parent (index + 1) (front ++ tag ∷ []) tags h more in
    let last : LeadTo (remove parent tag index ∷ []) views (changed children parent (front ++ tag ∷ [])) views (changed children parent front) =
    subst (λ at. LeadTo (remove parent tag at ∷ []) views (changed children parent (front ++ tag ∷ [])) views (changed children parent front)) e
    (lead_one (remove parent tag (length front)) views views (changed children parent (front ++ tag ∷ [])) (changed children parent front) (λ registry s. removed registry views children parent tag front h s)) in
    lead_both (removes_from parent (index + 1) tags) (remove parent tag index ∷ []) views views views
    (changed children parent (front ++ tag ∷ tags)) (changed children parent (front ++ tag ∷ [])) (changed children parent front)
    (subst (λ kids. LeadTo (removes_from parent (index + 1) tags) views (changed children parent kids) views (changed children parent (front ++ tag ∷ []))) (append_assoc front (tag ∷ []) tags) others)
    last

-- a tag may become a child of that parent, whose children are these: it has a view, and is no one's child
pub record MayJoin (views : ℕ → Option HostView) (children : ℕ → List ℕ) (parent tag : ℕ) : Type 0 where
  pub there : (view : HostView) × (views tag ≡ Some view)
  pub other : tag ≢ parent
  pub apart : (q : ℕ) → (q ≡ parent → ⊥) → list_any (nat_eq tag) (children q) ≡ false

-- no tag of a list is one of those before it
abbrev pub AreNew : List ℕ → List ℕ → Type 0
AreNew front [] = Unit {0}
AreNew front (tag ∷ tags) = (list_any (nat_eq tag) front ≡ false) × AreNew (front ++ tag ∷ []) tags

-- inserts after a parent's last child, with indexes rising
pub lead_inserts : (views : ℕ → Option HostView) (children : ℕ → List ℕ) (parent index : ℕ) (front tags : List ℕ) → IsParent views parent → length front ≡ index
    → AllByRecursion (MayJoin views children parent) tags → AreNew front tags
    → LeadTo (inserts_from parent index tags) views (changed children parent front) views (changed children parent (front ++ tags))
lead_inserts views children parent index front [] h e each new =
    lead_nowhere views views (changed children parent front) (changed children parent (front ++ [])) (λ q. refl) (λ q. ap (λ kids. changed children parent kids q) (sym (append-nil front)))
lead_inserts views children parent index front (tag ∷ tags) h e each new =
    let more : length (front ++ tag ∷ []) ≡ index + 1 = omega (arith, length-append front (tag ∷ [])) in
    let others = lead_inserts views children parent (index + 1) (front ++ tag ∷ []) tags h more each.1 new.1 in
    let apart : (q : ℕ) → list_any (nat_eq tag) (changed children parent front q) ≡ false = λ q.
    elim (cases_eq q parent) as (λ c. list_any (nat_eq tag) (changed children parent front q) ≡ false) [
      | inl here ↦ ap (list_any (nat_eq tag)) (ap (changed children parent front) here ∙ changed_here children parent front) ∙ new.0
      | inr away ↦ ap (list_any (nat_eq tag)) (changed_other children parent front q away) ∙ each.0.apart q away
    ] in
    let first : LeadTo (insert parent tag index ∷ []) views (changed children parent front) views (changed children parent (front ++ tag ∷ [])) =
    subst (λ at. LeadTo (insert parent tag at ∷ []) views (changed children parent front) views (changed children parent (front ++ tag ∷ []))) e
    (lead_one (insert parent tag (length front)) views views (changed children parent front) (changed children parent (front ++ tag ∷ []))
    (λ registry s. inserted registry views children parent tag front each.0.there.0 h each.0.there.1 each.0.other apart s)) in
    lead_both (insert parent tag index ∷ []) (inserts_from parent (index + 1) tags) views views views
    (changed children parent front) (changed children parent (front ++ tag ∷ [])) (changed children parent (front ++ tag ∷ tags))
    first
    (subst (λ kids. LeadTo (inserts_from parent (index + 1) tags) views (changed children parent (front ++ tag ∷ [])) views (changed children parent kids)) (append_assoc front (tag ∷ []) tags) others)
