-- Entries that are set one by one make the map of their list.
use Rattle.std.proofs.Common.{◌≡◌, ◌≢◌, ℕ, List, [], ◌∷◌, ◌++◌, reverse, refl, sym, ap, ◌∙◌}
use Rattle.std.specs.Ordering.{nat_cmp}
use Rattle.std.specs.FinMap.{FinMap, empty, from_entries, insert}
use Rattle.std.specs.List.{AllPairs}
use Rattle.std.proofs.lemmas.List.{reverse-append}
use Rattle.std.proofs.lemmas.List.Sorted.{IsPermutation-reverse}
use Rattle.page_map.specs.Entries.{all_added}
use Rattle.page_map.proofs.Sorted.{distinct, same_added}

-- the last of the entries is set last
added_last : (map : FinMap nat_cmp ℕ) (es : List (ℕ × ℕ)) (e : ℕ × ℕ) → all_added map (es ++ e ∷ []) ≡ insert (all_added map es) e.0 e.1
added_last map [] e = refl
added_last map (first ∷ es) e = added_last (insert map first.0 first.1) es e

-- set from the last one to the first, they make the map of their list
set_backwards : (es : List (ℕ × ℕ)) → all_added {V = ℕ} empty (reverse es) ≡ from_entries es
set_backwards [] = refl
set_backwards (e ∷ es) =
    ap (all_added {V = ℕ} empty) (reverse-append (e ∷ []) es)
    ∙ added_last empty (reverse es) e
    ∙ ap (λ map. insert map e.0 e.1) (set_backwards es)

-- where their tags differ, their order does not matter
pub set_one_by_one : (es : List (ℕ × ℕ)) → AllPairs (λ one other. one.0 ≢ other.0) es → all_added {V = ℕ} empty es ≡ from_entries es
set_one_by_one es differ = sym (same_added empty es (reverse es) (IsPermutation-reverse es) (distinct es differ)) ∙ set_backwards es
