-- How many families there are after those of new nodes.
use Rattle.std.proofs.Common.{◌≡◌, ℕ, ◌+◌, List, [], ◌∷◌, length, map, true, false, cond, is_none, is_some, Option, Some, None, nat_eq, arith, refl, ap, ◌∙◌}
use Rattle.std.specs.List.{AllByRecursion, IsDistinct}
use Rattle.std.specs.Ordering.{nat_cmp}
use Rattle.std.specs.Cmp.{nat_cmp_total}
use Rattle.std.specs.FinMap.{FinMap, get, insert, len, get-insert, len-insert}
use Rattle.std.proofs.lemmas.List.{length-map}
use Rattle.native_state.specs.declared.Family.{Family}
use Rattle.page_map.specs.Entries.{all_added}
use Rattle.shadow_node.specs.Fields.{NodeFields}
use Rattle.tree_revision.specs.Prepared.{new_nodes, first_family, families_grown}
use Rattle.tree_revision.proofs.Counts.{ties-nat_eq}

-- two tables have the same at the tags of nodes
abbrev AreAlikeAt : (one other : FinMap nat_cmp Family) → List NodeFields → Type 0
AreAlikeAt one other nodes = AllByRecursion (λ fields. get one fields.tag ≡ get other fields.tag) nodes

-- a family at another tag than theirs changes nothing of it
alike_inserted : (one other : FinMap nat_cmp Family) (tag : ℕ) (family : Family) (nodes : List NodeFields)
    → AllByRecursion (λ later. nat_eq tag later ≡ false) (map (λ fields. fields.tag) nodes) → AreAlikeAt one other nodes → AreAlikeAt (insert one tag family) other nodes
alike_inserted one other tag family [] apart alike = tt
alike_inserted one other tag family (fields ∷ nodes) apart alike = (
  get-insert nat_cmp_total one tag family fields.tag ∙ ap (λ b. cond b (Some family) (get one fields.tag)) (ties-nat_eq fields.tag tag ∙ apart.0) ∙ alike.0,
  alike_inserted one other tag family nodes apart.1 alike.1,
)

-- nothing is found
none_is_none : {A : Type 0} (o : Option A) → is_none o ≡ true → is_some o ≡ false
none_is_none None e = refl
none_is_none (Some x) e = absurd cc

-- each new node brings one more family
len_added : (families now : FinMap nat_cmp Family) (nodes : List NodeFields) → IsDistinct nat_eq (map (λ fields. fields.tag) nodes) → AreAlikeAt now families nodes
    → len (all_added now (map first_family (new_nodes families nodes))) ≡ len now + length (new_nodes families nodes)
unfolding IsDistinct
len_added families now [] differ alike = omega arith
len_added families now (fields ∷ nodes) differ alike =
    let family = (first_family fields).1 in
    elim (is_none (get families fields.tag)) as (λ b. is_none (get families fields.tag) ≡ b
    → len (all_added now (map first_family (cond b (fields ∷ new_nodes families nodes) (new_nodes families nodes)))) ≡ len now + length (cond b (fields ∷ new_nodes families nodes) (new_nodes families nodes))) [
      | true ↦ λ new.
          let one : len (insert now fields.tag family) ≡ len now + 1 =
          len-insert nat_cmp_total now fields.tag family ∙ ap (λ b. cond b (len now) (len now + 1)) (ap is_some alike.0 ∙ none_is_none (get families fields.tag) new) in
          len_added families (insert now fields.tag family) nodes differ.1 (alike_inserted now families fields.tag family nodes differ.0 alike.1) ∙ omega (arith, one)
      | false ↦ λ old. len_added families now nodes differ.1 alike.1
    ] refl

-- a table is like itself
alike_itself : (families : FinMap nat_cmp Family) (nodes : List NodeFields) → AreAlikeAt families families nodes
alike_itself families [] = tt
alike_itself families (fields ∷ nodes) = (refl, alike_itself families nodes)

-- as many families come to be as there are new nodes, whose tags differ
pub len_grown : (families : FinMap nat_cmp Family) (nodes : List NodeFields) → IsDistinct nat_eq (map (λ fields. fields.tag) nodes)
    → len (families_grown families nodes) ≡ len families + length (new_nodes families nodes)
len_grown families nodes differ = len_added families families nodes differ (alike_itself families nodes)

-- and as many are new as are new nodes
pub length_first : (families : FinMap nat_cmp Family) (nodes : List NodeFields) → length (map first_family (new_nodes families nodes)) ≡ length (new_nodes families nodes)
length_first families nodes = length-map (new_nodes families nodes) first_family
