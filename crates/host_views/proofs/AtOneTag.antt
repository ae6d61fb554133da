-- Views with their links: a change at one tag.
use Rattle.std.proofs.Common.{◌≡◌, ℕ, List, true, false, cond, Some, refl, ap, ◌∙◌, arith}
use Rattle.std.specs.Prelude.{nat_eq}
use Rattle.std.specs.Ordering.{nat_cmp}
use Rattle.std.specs.FinMap.{FinMap, get, insert}
use Rattle.std.proofs.lemmas.Bool.Decides.{nat_tests}
use Rattle.host_views.specs.Links.{PlainLinkedView}
use Rattle.host_views.proofs.Tables.{same_table, get_inserted}

-- a view with a change of its children
abbrev pub children_changed : (List ℕ → List ℕ) → PlainLinkedView → PlainLinkedView
children_changed change linked = record { view = linked.view; parent = linked.parent; children = change linked.children }

-- where a view is put that stands there, nothing is changed
pub put_again : (views : FinMap nat_cmp PlainLinkedView) (tag : ℕ) (linked : PlainLinkedView) → Some linked ≡ get views tag → insert views tag linked ≡ views
put_again views tag linked found =
    same_table _ _ (λ q. get_inserted views tag linked q
    ∙ elim (nat_eq q tag) as (λ b. nat_eq q tag ≡ b → cond b (Some linked) (get views q) ≡ get views q) [
      | true ↦ λ same. found ∙ ap (get views) (grind (arith, nat_tests))
      | false ↦ λ _. refl
    ] refl)
