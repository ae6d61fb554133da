-- The text of props, row after row.
use Rattle.std.proofs.Common.{◌≡◌, ◌∙◌, ℕ, zero, suc, ◌+◌, ◌<◌, List, [], ◌∷◌, ◌++◌, length, take, ap, sym, append-nil, append_assoc, add-one, arith}
use Rattle.prop_table.specs.Props.{PropList, value_at}
use Rattle.prop_table.specs.Table.{RowRule}
use Rattle.prop_table.specs.Rules.{rule_at}
use Rattle.prop_table.specs.PairText.{pair_text_of, pairs_text_of}

pairs_text-suc : (rules : List RowRule) (props : PropList) (row : ℕ) → row < length rules → row < length props
    → pairs_text_of (take (suc row) rules) (take (suc row) props) ≡ pairs_text_of (take row rules) (take row props) ++ pair_text_of (rule_at rules row) (value_at props row)
pairs_text-suc [] props row h k = absurd (omega arith)
pairs_text-suc (rule ∷ rules) [] row h k = absurd (omega arith)
pairs_text-suc (rule ∷ rules) (v ∷ vs) zero h k = append-nil (pair_text_of rule v)
pairs_text-suc (rule ∷ rules) (v ∷ vs) (suc row) h k =
    ap (λ rest. pair_text_of rule v ++ rest) (pairs_text-suc rules vs row (omega arith) (omega arith)) ∙ sym (append_assoc (pair_text_of rule v) _ _)

-- one more row
pub pairs_text-more : (rules : List RowRule) (props : PropList) (row : ℕ) → row < length rules → row < length props
    → pairs_text_of (take (row + 1) rules) (take (row + 1) props) ≡ pairs_text_of (take row rules) (take row props) ++ pair_text_of (rule_at rules row) (value_at props row)
pairs_text-more rules props row h k = rw add-one (pairs_text-suc rules props row h k)
