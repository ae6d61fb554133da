-- Which tags keep their stamps.
use Rattle.std.proofs.Common.{◌≡◌, ℕ, Bool, true, false, Decides, Option, Some, None, is_some, inl, inr, refl, ap, sym, ◌∙◌}
use Rattle.std.specs.Prelude.{unwrap_or}
use Rattle.std.specs.Option.{option_map}
use Rattle.std.specs.FinMap.{get}
use Rattle.std.proofs.lemmas.Bool.{false≢true}
use Rattle.std.proofs.Math.Bool.{beq}
use Rattle.shadow_node.specs.Forest.{PlainForest, PlainNode}
use Rattle.shadow_node.specs.Fields.{SettledFields}
use Rattle.shadow_node.specs.Find.{first_settled}
use Rattle.shadow_node.specs.Stamps.{StampMap}
use Rattle.tree_revision.specs.ForestStamps.{HasTagsOf, IsStampAfter}
use Rattle.tree_revision.specs.Unchanged.{SeenNode, seen_below, seen_place}
use Rattle.tree_revision.specs.declared.stamping.Place.{Place}
use Rattle.tree_revision.proofs.Seen.{tree_seen, same_sights, same_seen, is_some_seen}

-- the first node of a tag, by what is seen of it
pub first_is : (tag : ℕ) (forest : PlainForest SettledFields) (seen : Option SeenNode) → seen_below true tag forest ≡ seen
    → first_settled tag forest ≡ option_map (λ seen. seen.tree) seen
first_is tag forest seen e = sym (tree_seen true tag forest) ∙ ap (option_map (λ seen. seen.tree)) e

-- what is seen at a place that was found
pub found_place : (tag asked : ℕ) (old : PlainForest SettledFields) (result : Option Place) (place : Place) → asked ≡ tag
    → option_map seen_place result ≡ seen_below true asked old → result ≡ Some place → seen_below true tag old ≡ Some (seen_place place)
found_place tag asked old result place same found is = ap (λ t. seen_below true t old) (sym same) ∙ sym found ∙ ap (option_map seen_place) is

-- flags that compare as equal are
pub same_flags : (a b : Bool) → beq a b ≡ true → a ≡ b
same_flags true true e = refl
same_flags false false e = refl
same_flags true false e = absurd (false≢true e)
same_flags false true e = absurd (false≢true e)

pub other_flags : (a b : Bool) → beq a b ≡ false → a ≡ b → ⊥
other_flags true true e same = false≢true (sym e)
other_flags false false e same = false≢true (sym e)
other_flags true false e same = false≢true (sym same)
other_flags false true e same = false≢true same

-- a test of the old node decides whether a node is the old one of its tag
pub decides_first : (tag : ℕ) (old : PlainForest SettledFields) (was : SeenNode) (tree : PlainNode SettledFields) (same : Bool) → seen_below true tag old ≡ Some was
    → Decides same (was.tree ≡ tree) → Decides same (first_settled tag old ≡ Some tree)
decides_first tag old was tree same e d =
    (λ yes. first_is tag old (Some was) e ∙ ap Some (d.0 yes), λ first. let both : Some was.tree ≡ Some tree = sym (first_is tag old (Some was) e) ∙ first in d.1 cc)

-- a node is not the old one of its tag where there is none
pub decides_none : (tag : ℕ) (old : PlainForest SettledFields) (tree : PlainNode SettledFields) → seen_below true tag old ≡ None
    → Decides false (first_settled tag old ≡ Some tree)
decides_none tag old tree e =
    (λ no. absurd (false≢true no), λ first. let both : None ≡ Some tree = sym (first_is tag old None e) ∙ first in absurd cc)

-- an answer that is there
is_there : (o : Option ℕ) (otherwise : ℕ) → is_some o ≡ true → o ≡ Some (unwrap_or o otherwise)
is_there None otherwise e = absurd (false≢true e)
is_there (Some x) otherwise e = refl

module _ (old new : PlainForest SettledFields) (before : StampMap) (number tag : ℕ) where
  -- a tag whose node is the old one, and shown alike, keeps its stamp
  pub stamp_stays : (was : SeenNode) → HasTagsOf before old → seen_below true tag old ≡ Some was → seen_below true tag new ≡ Some was
      → IsStampAfter old new before number tag (unwrap_or (get before tag) number)
  stamp_stays was mounted in_old in_new =
      let there : is_some (get before tag) ≡ true = mounted tag ∙ sym (is_some_seen true tag old) ∙ ap is_some in_old in
      inl (same_sights tag old new (in_old ∙ sym in_new), is_there (get before tag) number there)

  -- a tag without an old node has the new number
  pub stamp_begins : (is : SeenNode) → seen_below true tag old ≡ None → seen_below true tag new ≡ Some is → IsStampAfter old new before number tag number
  stamp_begins is in_old in_new =
      inr (λ same. let both : None ≡ Some is.tree = sym (first_is tag old None in_old) ∙ ap (λ sight. sight.tree) same ∙ first_is tag new (Some is) in_new in absurd cc, refl)

  -- so does one whose node is another, or is shown otherwise
  pub stamp_renews : (was is : SeenNode) → seen_below true tag old ≡ Some was → seen_below true tag new ≡ Some is
      → (was.tree ≡ is.tree → was.shown ≡ is.shown → ⊥) → IsStampAfter old new before number tag number
  stamp_renews was is in_old in_new differ =
      inr (λ same. let parts = same_seen tag old new was is in_old in_new same in differ parts.0 parts.1, refl)
