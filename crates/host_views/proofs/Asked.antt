-- What is asked of a mutation, by what is kept of the tag that it names.
use Rattle.std.proofs.Common.{◌≡◌, ◌↔◌, ℕ, List, [], ◌∷◌, length, Bool, true, false, not, Option, None, Some, is_some, IsTrue, IsNone, IsSomeAnd, refl, ap, sym, ◌∙◌, subst, arith}
use Rattle.std.specs.Prelude.{◌==◌}
use Rattle.std.specs.Option.{option_map}
use Rattle.std.specs.FinMap.{get}
use Rattle.std.proofs.lemmas.Bool.Decides.{nat_tests}
use Rattle.host_views.specs.Plain.{delete}
use Rattle.host_views.specs.Registry.{ShownView, Fits, IsNoChild}
use Rattle.host_views.specs.Links.{PlainLinkedView, PlainLinks, KeepsParents, registry_in, shown_of}
use Rattle.host_views.proofs.Shown.{get_shown}
use Rattle.host_views.proofs.Parents.{kept_parent, no_child_from_none, none_from_no_child_of}
use Rattle.host_views.proofs.Steps.{is_some_shown}

-- a fact of a view that is shown is one of the view that is kept
pub of_shown : (P : ShownView → Type 0) (links : PlainLinks) (tag : ℕ) (linked : PlainLinkedView) → get links.views tag ≡ Some linked
    → IsSomeAnd (get (registry_in links).views tag) P ↔ P (shown_of linked)
of_shown P links tag linked found =
    let e = get_shown links.views tag ∙ ap (option_map shown_of) found in
    (λ h. subst (λ o. IsSomeAnd o P) e h, λ h. subst (λ o. IsSomeAnd o P) (sym e) h)

-- nothing is shown where nothing is kept
pub nothing_shown : (P : ShownView → Type 0) (links : PlainLinks) (tag : ℕ) → get links.views tag ≡ None → IsSomeAnd (get (registry_in links).views tag) P → ⊥
nothing_shown P links tag found h = subst (λ o. IsSomeAnd o P) (get_shown links.views tag ∙ ap (option_map shown_of) found) h

not_none : (b r : Bool) → b ≡ not r → IsTrue r ↔ (b ≡ false)
not_none b true e = (λ _. e, λ _. refl)
not_none b false e = (λ t. cc, λ f. cc)

-- a tag is not present where nothing is found
pub none_found : (links : PlainLinks) (tag : ℕ) (found : Option PlainLinkedView) (r : Bool) → found ≡ get links.views tag → is_some found ≡ not r
    → IsTrue r ↔ IsNone (get (registry_in links).views tag)
none_found links tag found r e h = not_none (is_some (get (registry_in links).views tag)) r (is_some_shown links tag ∙ ap is_some (sym e) ∙ h)

without : (o : Option ℕ) → is_some o ≡ false → o ≡ None
without None h = refl
without (Some p) h = cc

-- a view without a parent is no one's child
pub loose_found : (links : PlainLinks) (tag : ℕ) (linked : PlainLinkedView) (r : Bool) → KeepsParents links → get links.views tag ≡ Some linked → is_some linked.parent ≡ not r
    → IsTrue r ↔ IsNoChild (registry_in links) tag
loose_found links tag linked r k found h =
    let own = ap kept_parent found in
    let test = not_none (is_some linked.parent) r h in
    (λ t. no_child_from_none links tag k (own ∙ without linked.parent (test.0 t)), λ free. test.1 (ap is_some (sym own ∙ none_from_no_child_of links tag k free)))

no_items : (xs : List ℕ) → (length xs == 0) ≡ true → xs ≡ []
no_items [] h = refl
no_items (x ∷ xs) h = absurd (grind (arith, nat_tests))

-- a view without children and without a parent may be deleted
pub delete_loose : (links : PlainLinks) (tag : ℕ) (linked : PlainLinkedView) (r : Bool) → KeepsParents links → get links.views tag ≡ Some linked → (length linked.children == 0) ≡ true
    → is_some linked.parent ≡ not r → IsTrue r ↔ Fits (registry_in links) (delete tag)
delete_loose links tag linked r k found empty h =
    let loose = loose_found links tag linked r k found h in
    let bare = of_shown (λ shown. shown.children ≡ []) links tag linked found in
    (λ t. (bare.1 (no_items linked.children empty), loose.0 t), λ fits. loose.1 fits.1)

-- a view with children may not
pub delete_parent : (links : PlainLinks) (tag : ℕ) (linked : PlainLinkedView) (r : Bool) → get links.views tag ≡ Some linked → r ≡ (length linked.children == 0) → r ≡ false
    → IsTrue r ↔ Fits (registry_in links) (delete tag)
delete_parent links tag linked r found e h =
    let bare = of_shown (λ shown. shown.children ≡ []) links tag linked found in
    (λ t. cc, λ fits. e ∙ ap (λ tags. length tags == 0) (bare.0 fits.0))
