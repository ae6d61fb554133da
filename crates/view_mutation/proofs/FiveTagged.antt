-- The tags of the small forest of the tests are at least 1.
use Rattle.std.proofs.Common.{◌≡◌, ◌≤◌, [], ◌∷◌, sym, subst, arith}
use Rattle.shadow_node.specs.Forest.{PlainForest, PlainNode, none, forest_of}
use Rattle.shadow_node.specs.Fields.{SettledFields}
use Rattle.view_flatten.proofs.FiveViews.{is_five}
use Rattle.view_mutation.specs.Since.{AreTagged}

pub five_tagged : (forest : PlainForest SettledFields) (one two three four five : PlainNode SettledFields) → forest ≡ forest_of (one ∷ []) → one.children ≡ forest_of (two ∷ five ∷ [])
    → two.children ≡ forest_of (three ∷ four ∷ []) → three.children ≡ none → four.children ≡ none → five.children ≡ none
    → one.fields.fields.tag ≡ 1 → two.fields.fields.tag ≡ 2 → three.fields.fields.tag ≡ 3 → four.fields.fields.tag ≡ 4 → five.fields.fields.tag ≡ 5 → AreTagged forest
five_tagged forest one two three four five whole below_one below_two below_three below_four below_five t1 t2 t3 t4 t5 =
    let l1 : 1 ≤ one.fields.fields.tag = omega arith in
    let l2 : 1 ≤ two.fields.fields.tag = omega arith in
    let l3 : 1 ≤ three.fields.fields.tag = omega arith in
    let l4 : 1 ≤ four.fields.fields.tag = omega arith in
    let l5 : 1 ≤ five.fields.fields.tag = omega arith in
    subst AreTagged (sym (is_five forest one two three four five whole below_one below_two below_three below_four below_five)) (l1, (l2, (l3, (l4, (l5, tt)))))
