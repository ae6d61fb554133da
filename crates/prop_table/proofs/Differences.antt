-- A number whose bits say which rows differ.
use Rattle.std.proofs.Common.{◌≡◌, ◌≢◌, ◌↔◌, ℕ, ◌+◌, ◌*◌, ◌%◌, ◌^◌, ◌<◌, ◌≤◌, ℤ, true, false, Option, Some, None, bit_or, refl, ap, arith, below_more}
use Rattle.std.specs.Int.{bit_at}
use Rattle.std.specs.Option.{option_eq}
use Rattle.std.specs.Ordering.{int_eq}
use Rattle.std.proofs.Common.{w32}
use Rattle.std.proofs.lemmas.Bool.Decides.{Decides-int_eq, not_from_Decides}
use Rattle.std.proofs.lemmas.Nat.Bits.{bit_at_set_same, bit_at_set_other}
use Rattle.prop_table.specs.Props.{PropList, value_at}

-- what an equal test of two numbers tells
pub same_value : (x y : Option ℤ) → option_eq int_eq x y ≡ true → x ≡ y
same_value None None e = refl
same_value None (Some y) e = cc
same_value (Some x) None e = cc
same_value (Some x) (Some y) e = ap Some ((Decides-int_eq x y).0 e)

-- what an unequal test of two numbers tells
pub other_value : (x y : Option ℤ) → option_eq int_eq x y ≡ false → x ≢ y
other_value None None e = cc
other_value None (Some y) e = λ h. cc
other_value (Some x) None e = λ h. cc
other_value (Some x) (Some y) e = λ h. not_from_Decides (int_eq x y) (Decides-int_eq x y) e (cc)

-- one more row that differs
pub differs_more : (a b : PropList) (bits row : ℕ) → row < 32 → ((k : ℕ) → k < row → (bit_at bits k ≡ 1) ↔ (value_at a k ≢ value_at b k))
    → value_at a row ≢ value_at b row → (k : ℕ) → k < row + 1 → (bit_at (bit_or bits (1 * 2 ^ row % 2 ^ 32)) k ≡ 1) ↔ (value_at a k ≢ value_at b k)
differs_more a b bits row within rows here =
    below_more _ _
    (λ k h. let other : k ≢ row = omega arith in rw (bit_at_set_other w32 bits row within k other) (rows k h))
    (rw (bit_at_set_same w32 bits row within) ((λ e. here), (λ e. refl)))

-- no bit above that row
pub above_more : (bits row : ℕ) → row < 32 → ((k : ℕ) → row ≤ k → bit_at bits k ≡ 0) → (k : ℕ) → row + 1 ≤ k → bit_at (bit_or bits (1 * 2 ^ row % 2 ^ 32)) k ≡ 0
above_more bits row within above k h =
    let other : k ≢ row = omega arith in
    let le : row ≤ k = omega arith in
    rw (bit_at_set_other w32 bits row within k other) (above k le)

-- one more row that is the same
pub same_more : (a b : PropList) (bits row : ℕ) → ((k : ℕ) → row ≤ k → bit_at bits k ≡ 0) → ((k : ℕ) → k < row → (bit_at bits k ≡ 1) ↔ (value_at a k ≢ value_at b k))
    → value_at a row ≡ value_at b row → (k : ℕ) → k < row + 1 → (bit_at bits k ≡ 1) ↔ (value_at a k ≢ value_at b k)
same_more a b bits row above rows here =
    let le : row ≤ row = omega arith in
    below_more _ _ rows ((λ e. absurd (omega (arith, e, above row le))), (λ e. absurd (e here)))
