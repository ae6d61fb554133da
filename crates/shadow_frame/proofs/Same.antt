-- Two places are the same exactly where they are equal.
use Rattle.std.proofs.Common.{◌≡◌, Bool, Option, Some, None, Decides, refl, ap}
use Rattle.std.specs.Option.{option_eq}
use Rattle.std.proofs.lemmas.Bool.{false≢true}
use Rattle.std.proofs.lemmas.Bool.Decides.{Decides-int_eq, Decides-and}
use Rattle.shadow_frame.specs.declared.Rect.{Rect}
use Rattle.shadow_frame.specs.declared.Point.{Point}
use Rattle.shadow_frame.specs.declared.Size.{Size}
use Rattle.shadow_frame.specs.Same.{is_same_point, is_same_size, is_same_frame}

-- a test of the parts is a test of the whole
pub by_parts : {P Q : Type 0} (r : Bool) → Decides r P → (P → Q) → (Q → P) → Decides r Q
by_parts r d whole parts = (λ e. whole (d.0 e), λ q. d.1 (parts q))

-- a test of two values is one of two that may be absent
pub same_options : {A : Type 0} (E : A → A → Bool) → ((a b : A) → Decides (E a b) (a ≡ b)) → (x y : Option A) → Decides (option_eq E x y) (x ≡ y)
same_options E h None None = (λ e. refl, λ e. refl)
same_options E h None (Some y) = (λ e. absurd (false≢true e), λ e. cc)
same_options E h (Some x) None = (λ e. absurd (false≢true e), λ e. cc)
same_options E h (Some x) (Some y) = by_parts (E x y) (h x y) (λ e. ap Some e) (λ e. cc)

pub same_points : (a b : Point) → Decides (is_same_point a b) (a ≡ b)
same_points a b =
    by_parts _ (Decides-and _ _ (Decides-int_eq a.x b.x) (Decides-int_eq a.y b.y)) (λ h i. record { x = h.0 i; y = h.1 i }) (λ e. (ap (λ p. p.x) e, ap (λ p. p.y) e))

same_sizes : (a b : Size) → Decides (is_same_size a b) (a ≡ b)
same_sizes a b =
    by_parts _ (Decides-and _ _ (Decides-int_eq a.width b.width) (Decides-int_eq a.height b.height)) (λ h i. record { width = h.0 i; height = h.1 i })
    (λ e. (ap (λ p. p.width) e, ap (λ p. p.height) e))

pub same_frames : (a b : Rect) → Decides (is_same_frame a b) (a ≡ b)
same_frames a b =
    by_parts _ (Decides-and _ _ (same_points a.origin b.origin) (same_sizes a.size b.size)) (λ h i. record { origin = h.0 i; size = h.1 i })
    (λ e. (ap (λ p. p.origin) e, ap (λ p. p.size) e))
