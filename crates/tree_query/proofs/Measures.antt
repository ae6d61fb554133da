-- A node that a walk found is measured as the definition says.
use Rattle.std.proofs.Common.{◌≡◌, ◌++◌, ℕ, List, [], ◌∷◌, Bool, true, false, cond, Option, Some, None, nat_eq, refl, ap, sym, ◌∙◌}
use Rattle.std.proofs.lemmas.List.Folds.{find-append}
use Rattle.std.specs.List.{find}
use Rattle.std.specs.Option.{option_map, option_or}
use Rattle.std.specs.Prelude.{pos, option_and_then}
use Rattle.shadow_frame.specs.declared.Point.{Point}
use Rattle.shadow_frame.specs.declared.Rect.{Rect}
use Rattle.shadow_node.specs.Forest.{PlainForest, none, node}
use Rattle.shadow_node.specs.Fields.{SettledFields}
use Rattle.shadow_node.specs.Shown.{Descendant, descendants, descendants_below}
use Rattle.view_flatten.specs.HostTree.{moved}
use Rattle.tree_query.specs.declared.measuring.Found.{Found}
use Rattle.tree_query.specs.Found.{begin_below, begin_inside, found_from, rectangle_of}
use Rattle.tree_query.specs.Measured.{below_ancestor, measured, measured_against, sum_of_origins}

-- whether a node has a tag
abbrev has_tag : ℕ → Descendant → Bool
has_tag tag here = nat_eq here.settled.fields.tag tag

-- where what lies in a node begins is where what lies below it and its ancestors does
inside_is_below : (against : ℕ) (settled : SettledFields) (above : List SettledFields)
    → begin_inside against (begin_below against above) settled ≡ begin_below against (settled ∷ above)
inside_is_below against settled above =
    elim (nat_eq settled.fields.tag against) as (λ b. cond b (Some (record { x = pos 0; y = pos 0 })) (option_map (λ place. moved place settled.frame.origin) (begin_below against above))
    ≡ option_map sum_of_origins (cond b (Some []) (option_map (λ below. settled ∷ below) (below_ancestor against above)))) [
      | true ↦ refl
      | false ↦
          elim (below_ancestor against above) as (λ below. option_map (λ place. moved place settled.frame.origin) (option_map sum_of_origins below) ≡ option_map sum_of_origins (option_map (λ below. settled ∷ below) below)) [
            | None ↦ refl
            | Some below ↦ refl
          ]
    ]

-- a node is measured by where its ancestors lead
measured_here : (against : ℕ) (settled : SettledFields) (above : List SettledFields)
    → rectangle_of (record { begin = begin_below against above; frame = settled.frame }) ≡ measured_against against (record { settled = settled; above = above })
measured_here against settled above =
    let at_place : Point → Rect = λ place. record { origin = moved place settled.frame.origin; size = settled.frame.size } in
    let at_sum : List SettledFields → Rect = λ below. record { origin = sum_of_origins (settled ∷ below); size = settled.frame.size } in
    elim (below_ancestor against above) as (λ below. option_map at_place (option_map sum_of_origins below) ≡ option_map at_sum below) [
      | None ↦ refl
      | Some below ↦ refl
    ]

-- the first of two is changed as the first of two that are changed
mapped_or : {A B : Type 0} (f : A → B) (one other : Option A) → option_map f (option_or one other) ≡ option_or (option_map f one) (option_map f other)
mapped_or f None other = refl
mapped_or f (Some a) other = refl

-- what is found below some ancestors
found_below : (tag against : ℕ) (above : List SettledFields) (forest : PlainForest SettledFields)
    → option_map rectangle_of (found_from tag against (begin_below against above) forest) ≡ option_map (measured_against against) (find (has_tag tag) (descendants_below above forest))
found_below tag against above none = refl
found_below tag against above (node settled children siblings) =
    let here : Descendant = record { settled = settled; above = above } in
    let begin = begin_below against above in
    let inner = descendants_below (settled ∷ above) children in
    let later = descendants_below above siblings in
    let own : Found = record { begin = begin; frame = settled.frame } in
    elim (nat_eq settled.fields.tag tag) as (λ b. option_map rectangle_of (cond b (Some own) (option_or (found_from tag against (begin_inside against begin settled) children) (found_from tag against begin siblings)))
    ≡ option_map (measured_against against) (cond b (Some here) (find (has_tag tag) (inner ++ later)))) [
      | true ↦ ap Some (measured_here against settled above)
      | false ↦
          ap (λ place. option_map rectangle_of (option_or (found_from tag against place children) (found_from tag against begin siblings))) (inside_is_below against settled above)
          ∙ mapped_or rectangle_of (found_from tag against (begin_below against (settled ∷ above)) children) (found_from tag against begin siblings)
          ∙ (λ i. option_or (found_below tag against (settled ∷ above) children i) (found_below tag against above siblings i))
          ∙ sym (mapped_or (measured_against against) (find (has_tag tag) inner) (find (has_tag tag) later))
          ∙ ap (option_map (measured_against against)) (sym (find-append (has_tag tag) inner later))
    ]

-- what two find is measured alike, where it is so one by one
then_alike : {A B C : Type 0} (f : A → Option C) (g : B → Option C) (a : Option A) (b : Option B) → option_map f a ≡ option_map g b → option_and_then f a ≡ option_and_then g b
then_alike f g a b e = sym (flat f a) ∙ ap (option_and_then (λ found. found)) e ∙ flat g b
  where
    flat : {A C : Type 0} (f : A → Option C) (a : Option A) → option_and_then (λ found. found) (option_map f a) ≡ option_and_then f a
    flat f None = refl
    flat f (Some a) = refl

-- the rectangle of what is found from the top
pub found_at_top : (tag against : ℕ) (forest : PlainForest SettledFields)
    → option_and_then rectangle_of (found_from tag against (begin_below against []) forest) ≡ measured forest tag against
found_at_top tag against forest =
    then_alike rectangle_of (measured_against against) (found_from tag against (begin_below against []) forest) (find (has_tag tag) (descendants forest)) (found_below tag against [] forest)
