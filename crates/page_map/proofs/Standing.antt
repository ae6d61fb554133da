-- An entry that stands in a page is the one of its tag.
use Rattle.std.proofs.Common.{◌≡◌, ℕ, ◌+◌, ◌<◌, List, [], ◌∷◌, ◌++◌, length, get_or, take, drop, Some, refl, sym, ap, subst, ◌∙◌, append_assoc, take-append-drop}
use Rattle.std.proofs.lemmas.List.{drop_more}
use Rattle.std.specs.Ordering.{nat_cmp}
use Rattle.std.specs.FinMap.{find}
use Rattle.page_map.specs.Pages.{SharedPage, joined}
use Rattle.page_map.specs.Rising.{IsRising}
use Rattle.page_map.proofs.Each.{each_right}
use Rattle.page_map.proofs.Joined.{joined-append}
use Rattle.page_map.proofs.Rising.{equal, greater}

module _ {X : Type 0} where
  parts_at : (xs : List X) (i : ℕ) (x : X) → i < length xs → x ≡ get_or xs i x → xs ≡ take i xs ++ x ∷ drop (i + 1) xs
  parts_at xs i x lt is =
      sym (take-append-drop i xs)
      ∙ ap (λ ys. take i xs ++ ys) (drop_more xs i x lt)
      ∙ ap (λ x. take i xs ++ x ∷ drop (i + 1) xs) (sym is)

module _ {V : Type 0} where
  find_among : (xs : List (ℕ × V)) (e : ℕ × V) (ys : List (ℕ × V)) → IsRising (xs ++ e ∷ ys) → find nat_cmp e.0 (xs ++ e ∷ ys) ≡ Some e.1
  find_among [] e ys h = rw (equal e.0) refl
  find_among (x ∷ xs) e ys h = rw (greater e.0 x.0 (each_right (λ o. x.0 < o.0) xs (e ∷ ys) h.0).0) (find_among xs e ys h.1)

  pub find_standing : (pages : List (SharedPage V)) (i : ℕ) (page : SharedPage V) → i < length pages → page ≡ get_or pages i page → IsRising (joined pages) → (es : List (ℕ × V)) → es ≡ page.value → (at : ℕ) (e : ℕ × V) → at < length es → e ≡ get_or es at e → (tag : ℕ) → e.0 ≡ tag → Some e.1 ≡ find nat_cmp tag (joined pages)
  find_standing pages i page in_list is rises es are at e in_page stands tag same =
      let before = joined (take i pages) in
      let after = joined (drop (i + 1) pages) in
      let here : page.value ≡ take at es ++ e ∷ drop (at + 1) es = sym are ∙ parts_at es at e in_page stands in
      let whole : joined pages ≡ (before ++ take at es) ++ e ∷ (drop (at + 1) es ++ after) =
      ap joined (parts_at pages i page in_list is)
      ∙ joined-append (take i pages) (page ∷ drop (i + 1) pages)
      ∙ ap (λ es. before ++ (es ++ after)) here
      ∙ ap (λ es. before ++ es) (append_assoc (take at es) (e ∷ drop (at + 1) es) after)
      ∙ sym (append_assoc before (take at es) (e ∷ (drop (at + 1) es ++ after)))
      in
      let found = find_among (before ++ take at es) e (drop (at + 1) es ++ after) (subst IsRising whole rises) in
      sym (ap (find nat_cmp tag) whole ∙ subst (λ n. find nat_cmp n ((before ++ take at es) ++ e ∷ (drop (at + 1) es ++ after)) ≡ Some e.1) same found)
