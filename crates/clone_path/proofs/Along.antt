-- Where the way to a tag leads, tree by tree.
use Rattle.std.proofs.Common.{◌≡◌, ◌≢◌, ℕ, List, [], ◌∷◌, ◌++◌, length, true, false, refl, ap, sym, ◌∙◌, subst, inl, inr}
use Rattle.std.specs.Prelude.{Option, Some, None, nat_eq, is_some}
use Rattle.std.specs.List.{IsDistinct}
use Rattle.std.specs.Option.{option_or}
use Rattle.std.proofs.lemmas.Bool.{cases_eq, eq-eqb, ne_eqb, false≢true}
use Rattle.shadow_node.specs.Forest.{PlainForest, none, node}
use Rattle.shadow_node.specs.Fields.{SettledFields}
use Rattle.shadow_node.specs.Find.{first_settled, way_to}
use Rattle.clone_path.proofs.Tags.{IsNone, all_tags, all_tags-node, each_in_second, found_here, found_past, none_found}
use Rattle.clone_path.proofs.Ways.{way_found, way_past}

-- where the way to a tag leads: to the first node, below it, or past its tree
pub data Leads (tag : ℕ) (f : SettledFields) (k s : PlainForest SettledFields) (way : List ℕ) : Type 0 where
  here : f.fields.tag ≡ tag → way ≡ f.fields.tag ∷ [] → Leads tag f k s way
  below : f.fields.tag ≢ tag → (rest : List ℕ) → way_to tag k ≡ Some rest → way ≡ f.fields.tag ∷ rest → Leads tag f k s way
  past : f.fields.tag ≢ tag → is_some (first_settled tag k) ≡ false → way_to tag s ≡ Some way → Leads tag f k s way

-- a way leads to one of the three
pub leads : (tag : ℕ) (f : SettledFields) (k s : PlainForest SettledFields) (way : List ℕ) → way_to tag (node f k s) ≡ Some way → Leads tag f k s way
leads tag f k s way e =
    elim (cases_eq f.fields.tag tag) as (λ c. Leads tag f k s way) [
      | inl same ↦
          let top : way_to tag (node f k s) ≡ Some (f.fields.tag ∷ []) = rw (eq-eqb f.fields.tag tag same) refl in
          let both : Some way ≡ Some (f.fields.tag ∷ []) = sym e ∙ top in
          here same cc
      | inr other ↦ elim (way_to tag k) as (λ o. way_to tag k ≡ o → Leads tag f k s way) [
        | None ↦ λ absent.
            let gone : is_some (first_settled tag k) ≡ false = sym (way_found tag k) ∙ ap is_some absent in
            past other gone (sym (way_past tag f k s other gone) ∙ e)
        | Some rest ↦ λ there.
            let inside : way_to tag (node f k s) ≡ Some (f.fields.tag ∷ rest) = rw (ne_eqb f.fields.tag tag other, there) refl in
            let both : Some way ≡ Some (f.fields.tag ∷ rest) = sym e ∙ inside in
            below other rest there cc
      ] refl
    ]

second_there : {A : Type 0} (a b : Option A) → is_some b ≡ true → is_some (option_or a b) ≡ true
second_there (Some x) b h = refl
second_there None b h = h

-- a tag that is found after the first tree is found
found_later : (tag : ℕ) (f : SettledFields) (k s : PlainForest SettledFields) → is_some (first_settled tag s) ≡ true → is_some (first_settled tag (node f k s)) ≡ true
found_later tag f k s found =
    elim (cases_eq f.fields.tag tag) as (λ c. is_some (first_settled tag (node f k s)) ≡ true) [
      | inl same ↦ found_here tag f k s same
      | inr other ↦ ap is_some (found_past tag f k s other) ∙ second_there (first_settled tag k) (first_settled tag s) found
    ]

-- the first tag on a way is found
way_begins : (tag first : ℕ) (rest : List ℕ) (forest : PlainForest SettledFields) → way_to tag forest ≡ Some (first ∷ rest) → is_some (first_settled first forest) ≡ true
way_begins tag first rest none h = cc
way_begins tag first rest (node f k s) h =
    elim (leads tag f k s (first ∷ rest) h) as (λ c. is_some (first_settled first (node f k s)) ≡ true) [
      | here same is ↦ found_here first f k s cc
      | below other inside there is ↦ found_here first f k s cc
      | past other absent there ↦ found_later first f k s (way_begins tag first rest s there)
    ]

module _ (tag : ℕ) (f : SettledFields) (k s : PlainForest SettledFields) where
  -- the way to the first node has its tag alone
  pub led_here : (way : List ℕ) → f.fields.tag ≡ tag → way_to tag (node f k s) ≡ Some way → length way ≡ 1
  led_here way same h =
      elim (leads tag f k s way h) [
        | here _ is ↦ ap length is
        | below other rest there is ↦ absurd (other same)
        | past other absent there ↦ absurd (other same)
      ]

  module _ (first : ℕ) (rest : List ℕ) (other : f.fields.tag ≢ tag) (h : way_to tag (node f k s) ≡ Some (first ∷ rest)) where
    -- where the first node has another tag than the way's first, the way leads past its tree
    pub led_past : f.fields.tag ≢ first → (is_some (first_settled tag k) ≡ false) × (way_to tag s ≡ Some (first ∷ rest))
    led_past apart =
        elim (leads tag f k s (first ∷ rest) h) [
          | here same is ↦ absurd (other same)
          | below _ inside there is ↦ let same : f.fields.tag ≡ first = cc in absurd (apart same)
          | past _ absent there ↦ (absent, there)
        ]

    -- where it has the way's first tag and tags differ, the way leads below it
    pub led_below : f.fields.tag ≡ first → IsDistinct nat_eq (all_tags (node f k s)) → (is_some (first_settled tag k) ≡ true) × (way_to tag k ≡ Some rest)
    unfolding IsDistinct
    led_below same differ =
        elim (leads tag f k s (first ∷ rest) h) [
          | here same is ↦ absurd (other same)
          | below _ inside there is ↦ let same : inside ≡ rest = cc in (sym (way_found tag k) ∙ ap is_some there, there ∙ ap Some same)
          | past _ absent there ↦
              let apart : IsDistinct nat_eq (f.fields.tag ∷ all_tags k ++ all_tags s) = subst (IsDistinct nat_eq) (all_tags-node f k s) differ in
              let each : IsNone first (all_tags k ++ all_tags s) = subst (λ t. IsNone t (all_tags k ++ all_tags s)) same apart.0 in
              absurd (false≢true (sym (none_found first s (each_in_second _ (all_tags k) (all_tags s) each)) ∙ way_begins tag first rest s there))
        ]

-- no way is empty
pub way_not_empty : (tag : ℕ) (forest : PlainForest SettledFields) → way_to tag forest ≡ Some [] → ⊥
way_not_empty tag none h = cc
way_not_empty tag (node f k s) h =
    elim (leads tag f k s [] h) [
      | here same is ↦ cc
      | below other rest there is ↦ cc
      | past other absent there ↦ way_not_empty tag s there
    ]

in_first : {A : Type 0} (a b : Option A) → is_some a ≡ true → option_or a b ≡ a
in_first (Some x) b h = refl
in_first None b h = cc

in_second : {A : Type 0} (a b : Option A) → is_some a ≡ false → option_or a b ≡ b
in_second (Some x) b h = cc
in_second None b h = refl

module _ (tag : ℕ) (f : SettledFields) (k s : PlainForest SettledFields) (other : f.fields.tag ≢ tag) where
  -- a node that is found below the first one
  pub found_below : is_some (first_settled tag k) ≡ true → first_settled tag (node f k s) ≡ first_settled tag k
  found_below there = found_past tag f k s other ∙ in_first (first_settled tag k) (first_settled tag s) there

  -- a node that is looked for past the first tree
  pub found_beyond : is_some (first_settled tag k) ≡ false → first_settled tag (node f k s) ≡ first_settled tag s
  found_beyond absent = found_past tag f k s other ∙ in_second (first_settled tag k) (first_settled tag s) absent
