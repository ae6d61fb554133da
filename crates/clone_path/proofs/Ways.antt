-- How long the way to a tag is.
use Rattle.std.proofs.Common.{◌≡◌, ◌≢◌, ℕ, ◌+◌, [], ◌∷◌, List, length, true, false, refl, ap, sym, ◌∙◌, add-one}
use Rattle.std.specs.Prelude.{Bool, Option, Some, None, nat_eq, is_some, unwrap_or, cond}
use Rattle.std.proofs.lemmas.Bool.{ne_eqb}
use Rattle.shadow_node.specs.Forest.{PlainForest, none, node}
use Rattle.shadow_node.specs.Fields.{SettledFields}
use Rattle.std.specs.Option.{option_or}
use Rattle.shadow_node.specs.Find.{first_settled, way_from, way_to}

-- the first of two answers is there where the first of two others is
same_of_two : {A B : Type 0} (a b : Option A) (c d : Option B) → is_some a ≡ is_some c → is_some b ≡ is_some d → is_some (option_or a b) ≡ is_some (option_or c d)
same_of_two (Some x) b (Some y) d h k = refl
same_of_two (Some x) b None d h k = cc
same_of_two None b (Some y) d h k = cc
same_of_two None b None d h k = k

way_from-there : (tag : ℕ) (way : Option (List ℕ)) → is_some (way_from tag way) ≡ is_some way
way_from-there tag None = refl
way_from-there tag (Some way) = refl

-- there is a way exactly where the tag is found
pub way_found : (tag : ℕ) (forest : PlainForest SettledFields) → is_some (way_to tag forest) ≡ is_some (first_settled tag forest)
way_found tag none = refl
way_found tag (node settled children siblings) =
    elim (nat_eq settled.fields.tag tag) as (λ (b : Bool). is_some (cond b (Some (settled.fields.tag ∷ [])) (option_or (way_from settled.fields.tag (way_to tag children)) (way_to tag siblings)))
    ≡ is_some (cond b (Some (record { fields = settled; children = children })) (option_or (first_settled tag children) (first_settled tag siblings)))) [
      | true ↦ refl
      | false ↦ same_of_two (way_from settled.fields.tag (way_to tag children)) (way_to tag siblings) (first_settled tag children) (first_settled tag siblings)
          (way_from-there settled.fields.tag (way_to tag children) ∙ way_found tag children) (way_found tag siblings)
    ]

no_length : (way : Option (List ℕ)) → is_some way ≡ false → length (unwrap_or way []) ≡ 0
no_length None h = refl
no_length (Some way) h = cc

-- the way to a tag that is not found has no length
pub no_way : (tag : ℕ) (forest : PlainForest SettledFields) → is_some (first_settled tag forest) ≡ false → length (unwrap_or (way_to tag forest) []) ≡ 0
no_way tag forest h = no_length (way_to tag forest) (way_found tag forest ∙ h)

module _ (tag : ℕ) (settled : SettledFields) (children siblings : PlainForest SettledFields) where
  below : (way other : Option (List ℕ)) → is_some way ≡ true → length (unwrap_or (option_or (way_from settled.fields.tag way) other) []) ≡ length (unwrap_or way []) + 1
  below (Some way) other h = rw add-one refl
  below None other h = cc

  past : (way other : Option (List ℕ)) → is_some way ≡ false → option_or (way_from settled.fields.tag way) other ≡ other
  past None other h = refl
  past (Some way) other h = cc

  -- the way to a node below the first one is longer by one than from below it
  pub way_below : settled.fields.tag ≢ tag → is_some (first_settled tag children) ≡ true
      → length (unwrap_or (way_to tag (node settled children siblings)) []) ≡ length (unwrap_or (way_to tag children) []) + 1
  way_below other found = rw (ne_eqb settled.fields.tag tag other) (below (way_to tag children) (way_to tag siblings) (way_found tag children ∙ found))

  -- the way past the first tree
  pub way_past : settled.fields.tag ≢ tag → is_some (first_settled tag children) ≡ false → way_to tag (node settled children siblings) ≡ way_to tag siblings
  way_past other absent = rw (ne_eqb settled.fields.tag tag other) (past (way_to tag children) (way_to tag siblings) (way_found tag children ∙ absent))

  -- and the node past it
  pub search_past : settled.fields.tag ≢ tag → is_some (first_settled tag children) ≡ false → is_some (first_settled tag (node settled children siblings)) ≡ is_some (first_settled tag siblings)
  search_past other absent = sym (way_found tag (node settled children siblings)) ∙ ap is_some (way_past other absent) ∙ way_found tag siblings
