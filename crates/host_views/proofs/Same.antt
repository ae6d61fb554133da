-- Two views are the same exactly where they are equal.
use Rattle.std.proofs.Common.{true, ◌≡◌, ◌↔◌, IsTrue, Bool, Decides, refl, ap}
use Rattle.std.specs.Prelude.{nat_eq}
use Rattle.std.specs.Cmp.Lexicographic.{pointwise}
use Rattle.std.proofs.lemmas.Bool.{false≢true}
use Rattle.std.proofs.lemmas.Bool.Decides.{Decides-eqb, Decides-and}
use Rattle.std.proofs.lemmas.Slice.Eq.{slice_eq-Decides}
use Rattle.shadow_kinds.specs.declared.Kind.{Kind}
use Rattle.shadow_kinds.specs.declared.Kind.TheVariants.{View, Text, Image, Scroll, Input}
use Rattle.host_views.specs.declared.HostView.{HostView}
use Rattle.shadow_frame.proofs.Same.{by_parts, same_options, same_frames}
use Rattle.native_state.proofs.Same.{same_cells}
use Rattle.native_state.specs.Same.{is_same_cell}
use Rattle.shadow_kinds.proofs.SameProps.{same_props}
use Rattle.host_views.specs.Same.{is_same_view}
use Rattle.shadow_kinds.specs.Words.{code_of}

same_kinds : (a b : Kind) → Decides (nat_eq (code_of a) (code_of b)) (a ≡ b)
same_kinds View View = (λ e. refl, λ e. refl)
same_kinds Text Text = (λ e. refl, λ e. refl)
same_kinds Image Image = (λ e. refl, λ e. refl)
same_kinds Scroll Scroll = (λ e. refl, λ e. refl)
same_kinds Input Input = (λ e. refl, λ e. refl)
same_kinds _ _ = (λ e. absurd (false≢true e), λ e. cc)

-- the test of two views decides their equality
pub same_views : (a b : HostView) → Decides (is_same_view a b) (a ≡ b)
same_views a b =
    by_parts _
    (Decides-and _ _
    (Decides-and _ _
    (Decides-and _ _
    (Decides-and _ _ (same_kinds a.kind b.kind) (same_props a.props b.props))
    (slice_eq-Decides Decides-eqb a.label b.label (pointwise nat_eq a.label b.label) refl))
    (same_options is_same_cell same_cells a.state b.state))
    (same_frames a.frame b.frame))
    (λ h i. record { kind = h.0.0.0.0 i; props = h.0.0.0.1 i; label = h.0.0.1 i; state = h.0.1 i; frame = h.1 i })
    (λ e. ((((ap (λ v. v.kind) e, ap (λ v. v.props) e), ap (λ v. v.label) e), ap (λ v. v.state) e), ap (λ v. v.frame) e))

-- a view is the same as itself
pub same_itself : (a : HostView) → is_same_view a a ≡ true
same_itself a = (same_views a a).1 refl

-- a test with that answer is true exactly where the views are equal
pub told_same : (r : Bool) (a b : HostView) → r ≡ is_same_view a b → IsTrue r ↔ (a ≡ b)
told_same r a b e = rw e (same_views a b)
