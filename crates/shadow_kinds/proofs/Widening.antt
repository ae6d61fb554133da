-- Widened version 1 props form what they formed in version 1.
use Rattle.std.proofs.Common.{◌≡◌, ℕ, ◌<◌, length, true, false, refl, arith}
use Rattle.std.specs.Prelude.{Bool, ◌||◌, pos}
use Rattle.std.proofs.Math.Bool.{or-false}
use Rattle.prop_table.specs.Props.{PropList, value_at}
use Rattle.prop_table.specs.declared.rows.TheConstants.{BACKGROUND, OPACITY, Z, CLIP, COLLAPSABLE, POINTER, BORDER, TEST_MARK, NATIVE_MARK}
use Rattle.prop_table.specs.Widened.{widened}
use Rattle.prop_table.proofs.Widening.{widened-kept, widened-added}
use Rattle.shadow_kinds.specs.Traits.{forms_context_of, forms_view_of, is_at_least, is_hidden_of, is_number}
use Rattle.shadow_kinds.specs.VersionOne.{v1_forms_context_of, v1_forms_view_of}
use Rattle.shadow_kinds.specs.declared.Kind.{Kind}
use Rattle.shadow_kinds.specs.declared.Kind.TheVariants.{View, Text, Image, Scroll, Input}

-- a row of version 1
kept : (props : PropList) (row : ℕ) → length props ≡ 16 → row < 16 → value_at (widened props) row ≡ value_at props row
kept props row n h = let within : row < length props = omega arith in widened-kept props row within

-- a node forms a context in version 2 exactly where it did in version 1
pub forms_context_of-widened : (kind : Kind) (props : PropList) → length props ≡ 16 → forms_context_of kind (widened props) ≡ v1_forms_context_of kind props
forms_context_of-widened View props n =
    rw (
      kept props OPACITY n (omega arith),
      kept props Z n (omega arith),
      kept props CLIP n (omega arith),
      kept props COLLAPSABLE n (omega arith),
      kept props POINTER n (omega arith),
      kept props NATIVE_MARK n (omega arith),
      widened-added props 1 n,
      widened-added props 2 n,
    )
    (simp or-false)
forms_context_of-widened Text props n = refl
forms_context_of-widened Image props n = refl
forms_context_of-widened Scroll props n = refl
forms_context_of-widened Input props n = refl

or_four : (a b c d : Bool) → (a || (b || c || d)) ≡ (a || b || c || d)
or_four true b c d = refl
or_four false b c d = refl

-- a node has a host view in version 2 exactly where it had one in version 1
pub forms_view_of-widened : (kind : Kind) (props : PropList) → length props ≡ 16 → forms_view_of kind (widened props) ≡ v1_forms_view_of kind props
forms_view_of-widened kind props n =
    rw (
      forms_context_of-widened kind props n,
      kept props BACKGROUND n (omega arith),
      kept props BORDER n (omega arith),
      kept props TEST_MARK n (omega arith),
      widened-added props 3 n,
      widened-added props 4 n,
    )
    (simp or-false (or_four (v1_forms_context_of kind props) (is_at_least (pos 16777216) (value_at props BACKGROUND)) (is_at_least (pos 1) (value_at props BORDER)) (is_number (pos 1) (value_at props TEST_MARK))))

-- no node of version 1 is hidden
pub is_hidden_of-widened : (props : PropList) → length props ≡ 16 → is_hidden_of (widened props) ≡ false
is_hidden_of-widened props n = rw (widened-added props 0 n) refl
