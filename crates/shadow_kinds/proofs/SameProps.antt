-- Props are the same exactly where they are equal.
use Rattle.std.proofs.Common.{◌≡◌, Bool, Decides, refl}
use Rattle.std.specs.Ordering.{int_eq}
use Rattle.std.proofs.lemmas.Bool.Decides.{same_from_decides, Decides-int_eq}
use Rattle.std.proofs.lemmas.Slice.Eq.{slice_eq-Decides}
use Rattle.prop_table.specs.Props.{PropList}
use Rattle.shadow_frame.proofs.Same.{same_options}
use Rattle.shadow_kinds.specs.SameProps.{is_same_props}

pub same_props : (a b : PropList) → Decides (is_same_props a b) (a ≡ b)
same_props a b = slice_eq-Decides (same_options int_eq Decides-int_eq) a b (is_same_props a b) refl

-- a test that tells whether props are equal is the test of their rows
pub props_answer : (a b : PropList) (answer : Bool) → Decides answer (a ≡ b) → answer ≡ is_same_props a b
props_answer a b answer h = same_from_decides answer (is_same_props a b) h (same_props a b)
