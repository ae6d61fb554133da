-- The small forest of the tests is within the limits.
use Rattle.std.proofs.Common.{◌≡◌, [], ◌∷◌, nat_eq, refl, sym, subst, arith}
use Rattle.std.specs.List.{IsDistinct}
use Rattle.shadow_node.specs.Forest.{PlainForest, PlainNode, none, node, forest_of}
use Rattle.shadow_node.specs.Fields.{SettledFields}
use Rattle.tree_settle.specs.Limits.{IsForestInLimits, IsFrameInBounds}
use Rattle.view_flatten.proofs.Distinct.{distinct_more, distinct_none}

-- the tree of five nodes
abbrev five_of : (one two three four five : SettledFields) → PlainForest SettledFields
five_of one two three four five = node one (node two (node three none (node four none none)) (node five none none)) none

-- it is what its nodes say of their children
pub is_five : (forest : PlainForest SettledFields) (one two three four five : PlainNode SettledFields) → forest ≡ forest_of (one ∷ []) → one.children ≡ forest_of (two ∷ five ∷ [])
    → two.children ≡ forest_of (three ∷ four ∷ []) → three.children ≡ none → four.children ≡ none → five.children ≡ none
    → forest ≡ five_of one.fields two.fields three.fields four.fields five.fields
is_five forest one two three four five whole below_one below_two below_three below_four below_five = rw (whole, below_one, below_two, below_three, below_four, below_five) refl

-- tags from 1 to 5 differ
five_differ : IsDistinct nat_eq (1 ∷ 2 ∷ 3 ∷ 4 ∷ 5 ∷ [])
five_differ = distinct_more 1 _ refl (distinct_more 2 _ refl (distinct_more 3 _ refl (distinct_more 4 _ refl (distinct_more 5 _ refl distinct_none))))

-- five nodes with these tags are within the limits
pub five_within : (forest : PlainForest SettledFields) (one two three four five : SettledFields) → forest ≡ five_of one two three four five
    → one.fields.tag ≡ 1 → two.fields.tag ≡ 2 → three.fields.tag ≡ 3 → four.fields.tag ≡ 4 → five.fields.tag ≡ 5
    → IsFrameInBounds one.frame → IsFrameInBounds two.frame → IsFrameInBounds three.frame → IsFrameInBounds four.frame → IsFrameInBounds five.frame
    → IsForestInLimits forest
five_within forest one two three four five e t1 t2 t3 t4 t5 f1 f2 f3 f4 f5 =
    subst IsForestInLimits (sym e) (record {
      within = record {
        differ = rw (t1, t2, t3, t4, t5) five_differ;
        depth = omega arith;
        count = omega arith;
      };
      frames = (f1, (f2, (f3, tt, (f4, tt, tt)), (f5, tt, tt)), tt);
    })
