-- The codes of nodes and forests, by which a proof tells two apart.
use Rattle.std.specs.Prelude.{◌≡◌, ℕ, refl, List, Option}
use Rattle.std.specs.Coded.{Coded, code_by, coded×, coded_ℕ, coded_ℤ, coded_list, coded_option}
use Rattle.std.proofs.Common.{ap, subst, sym}
use base.Stored.{Gv, gnil, gnum, gcons}
use Rattle.shadow_frame.specs.declared.Rect.{Rect}
use Rattle.native_state.specs.declared.StateCell.{StateCell}
use Rattle.prop_table.specs.Props.{PropList}
use Rattle.shadow_kinds.specs.declared.Kind.{Kind}
use Rattle.shadow_kinds.specs.contracts.Kind as kind
use Rattle.shadow_frame.specs.contracts.Rect as rect
use Rattle.native_state.specs.contracts.StateCell as state
use Rattle.shadow_node.specs.Forest.{PlainForest, none, node, PlainNode}
use Rattle.shadow_node.specs.Fields.{NodeFields, SettledFields}

abbrev pub coded_fields : Coded NodeFields
coded_fields = code_by (ℕ × (Kind × (PropList × List ℕ)))
    (coded× coded_ℕ (coded× (kind.the_row).coded (coded× (coded_list (coded_option coded_ℤ)) (coded_list coded_ℕ))))
    (λ f. (f.tag, (f.kind, (f.props, f.label))))
    (λ p. record { tag = p.0; kind = p.1.0; props = p.1.1.0; label = p.1.1.1 }) (λ _. refl)

abbrev pub coded_settled : Coded SettledFields
coded_settled = code_by (NodeFields × (Option StateCell × Rect))
    (coded× coded_fields (coded× (coded_option (state.the_row).coded) (rect.the_row).coded))
    (λ f. (f.fields, (f.state, f.frame)))
    (λ p. record { fields = p.0; state = p.1.0; frame = p.1.1 }) (λ _. refl)

abbrev head : Gv → Gv
head gnil = gnil
head (gnum n) = gnil
head (gcons a b) = a

abbrev tail : Gv → Gv
tail gnil = gnil
tail (gnum n) = gnil
tail (gcons a b) = b

abbrev IsCons : Gv → Type 0
IsCons gnil = ⊥
IsCons (gnum n) = ⊥
IsCons (gcons a b) = Unit {0}

pub code_forest : {A : Type 0} → Coded A → PlainForest A → Gv
code_forest c none = gnil
code_forest c (node f k s) = gcons (c.code f) (gcons (code_forest c k) (code_forest c s))

pub code_forest-inj : {A : Type 0} (c : Coded A) (x y : PlainForest A) → code_forest c x ≡ code_forest c y → x ≡ y
unfolding code_forest
code_forest-inj c none none p = refl
code_forest-inj c (node f k s) (node g l t) p =
    λ i. node (c.inj f g (ap head p) i) (code_forest-inj c k l (ap (λ v. head (tail v)) p) i) (code_forest-inj c s t (ap (λ v. tail (tail v)) p) i)
code_forest-inj c none (node g l t) p = absurd (subst IsCons (sym p) tt)
code_forest-inj c (node f k s) none p = absurd (subst IsCons p tt)

-- a forest is coded by its nodes' codes
abbrev pub coded_forest : {A : Type 0} → Coded A → Coded (PlainForest A)
coded_forest c = record { code = code_forest c; inj = code_forest-inj c }

abbrev pub coded_node : {A : Type 0} → Coded A → Coded (PlainNode A)
coded_node {A} c = code_by (A × PlainForest A) (coded× c (coded_forest c)) (λ t. (t.fields, t.children)) (λ p. record { fields = p.0; children = p.1 }) (λ _. refl)
