-- A list that is copied, one element after another.
use Rattle.std.proofs.Common.{◌≡◌, ℕ, ◌+◌, ◌<◌, List, [], ◌∷◌, ◌++◌, length, get_or, take, sym, ap, ◌∙◌, append_assoc}
use Rattle.std.proofs.lemmas.List.{take_more}

module _ {X : Type 0} where
  -- one more element is copied
  pub copied_more : (old all xs : List X) (i : ℕ) (item copy : X) → i < length xs → item ≡ get_or xs i item → copy ≡ item → all ≡ old ++ take i xs → all ++ copy ∷ [] ≡ old ++ take (i + 1) xs
  copied_more old all xs i item copy lt is same e =
      ap (λ es. es ++ copy ∷ []) e
      ∙ append_assoc old (take i xs) (copy ∷ [])
      ∙ ap (λ x. old ++ (take i xs ++ x ∷ [])) (same ∙ is)
      ∙ ap (λ es. old ++ es) (sym (take_more xs i item lt))
