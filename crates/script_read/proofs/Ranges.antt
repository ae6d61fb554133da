-- The ranges of numbers that are not refused.
use Rattle.std.proofs.Common.{◌≡◌, ℕ, ◌<◌, ◌≤◌, ◌^◌, refl, arith, ap}
use Rattle.std.specs.Prelude.{ℤ, pos, negsuc, nat_abs, ◌≤ℤ◌, int_le, nat_lt, Bool, true, false, cond}
use Rattle.std.specs.Int.Signed.{le_z_yes}
use Rattle.std.specs.Ordering.{int_eq}
use Rattle.std.proofs.lemmas.Bool.Decides.{Decides-int_eq}
use lib.Dec.{T, leb→le}
use Rattle.script_read.specs.Members.{natural_of}
use Rattle.script_read.specs.Faults.{is_from}
use Rattle.script_read.proofs.Refusals.{both}

holds : (test : Bool) → test ≡ true → T test
holds true h = tt
holds false h = cc

-- a test of order
pub at_most : (a b : ℤ) → int_le a b ≡ true → a ≤ℤ b
at_most a b h = le_z_yes (holds (int_le a b) h)

-- a number in a range
pub from_range : (low high z : ℤ) → is_from low high z ≡ true → (low ≤ℤ z) × (z ≤ℤ high)
from_range low high z h = let b = both (int_le low z) (int_le z high) h in (at_most low z b.0, at_most z high b.1)

small : (n : ℕ) → n < 2 ^ 32 → natural_of (pos n) ≡ n
small n h = let t : nat_lt n (2 ^ 32) ≡ true = grind (arith, h) in rw t refl

by_order : (low high : ℕ) (z : ℤ) → high < 2 ^ 32 → pos low ≤ℤ z → z ≤ℤ pos high → (low ≤ natural_of z) × (natural_of z ≤ high) × (pos (natural_of z) ≡ z)
by_order low high (pos n) h a b =
    let l : low ≤ n = leb→le low n a.le in
    let m : n ≤ high = leb→le n high b.le in
    let s : natural_of (pos n) ≡ n = small n (omega arith) in
    rw s (l, m, refl)
by_order low high (negsuc n) h a b = absurd a.le

-- a natural number in a range below 2^32
pub natural_range : (low high : ℕ) (z : ℤ) → high < 2 ^ 32 → is_from (pos low) (pos high) z ≡ true
    → (low ≤ natural_of z) × (natural_of z ≤ high) × (pos (natural_of z) ≡ z)
natural_range low high z h f = let r = from_range (pos low) (pos high) z f in by_order low high z h r.0 r.1

-- a number below 2^32 is at most its amount
pub natural_small : (z : ℤ) → natural_of z ≤ nat_abs z
natural_small (pos n) = elim (nat_lt n (2 ^ 32)) as (λ b. cond b n 0 ≤ n) [ true ↦ omega arith | false ↦ omega arith ]
natural_small (negsuc n) = omega arith

-- equal integers
pub same_integer : (a b : ℤ) → int_eq a b ≡ true → a ≡ b
same_integer a b h = (Decides-int_eq a b).0 h

-- a number that is not 0 is its integer
pub natural_is : (z : ℤ) (n : ℕ) → 1 ≤ n → natural_of z ≡ n → z ≡ pos n
natural_is (pos m) n h e = elim (nat_lt m (2 ^ 32)) as (λ b. cond b m 0 ≡ n → pos m ≡ pos n) [ true ↦ λ p. ap pos p | false ↦ λ p. absurd (omega arith) ] e
natural_is (negsuc m) n h e = absurd (omega arith)

-- equal integers are equal numbers
pub equal_integers : (a b : ℤ) → a ≡ b → int_eq a b ≡ true
equal_integers a b h = (Decides-int_eq a b).1 h
