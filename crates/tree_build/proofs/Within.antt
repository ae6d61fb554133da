-- Forests that keep the limits.
use Rattle.std.proofs.Common.{◌≡◌, ℕ, ◌≤◌, ◌<◌, Bool, true, false, cond, List, [], ◌∷◌, refl, ap, sym, subst, ◌∙◌}
use Rattle.std.specs.Prelude.{Option, Some, None, nat_eq, nat_lt, option_map, if◌then◌else◌, ◌||◌}
use Rattle.std.specs.Option.{option_or}
use Rattle.std.specs.List.{list_any, IsDistinct, AllByRecursion}
use Rattle.std.proofs.lemmas.Bool.{eq-eqb, eqb-true, ne_eqb, ltb-false, lt-ltb, le-ltb, false≢true}
use Rattle.shadow_node.specs.Forest.{PlainForest, depth_of, node_count}
use Rattle.shadow_node.specs.Fields.{NodeFields, SettledFields, contents_of, tags_of}
use Rattle.shadow_node.specs.Limits.{IsForestWithin}
use Rattle.shadow_node.proofs.Maps.{depth_of-forest_map, node_count-forest_map}
use Rattle.tree_build.specs.Refusals.{repeated_after, repeated, forest_refusal_of}
use Rattle.tree_build.specs.declared.builds.BuildRefusal.TheVariants.{TwiceTag, TooDeep, TooManyNodes}

or_right : (a b : Bool) → b ≡ true → (a || b) ≡ true
or_right true b h = refl
or_right false b h = h

-- none of the tags is that one
abbrev IsApart : ℕ → List ℕ → Type 0
IsApart tag tags = AllByRecursion (λ other. nat_eq tag other ≡ false) tags

-- the tags differ, and none is among the earlier ones
abbrev AreNew : List ℕ → List ℕ → Type 0
AreNew earlier tags = IsDistinct nat_eq tags × ((tag : ℕ) → list_any (nat_eq tag) earlier ≡ true → IsApart tag tags)

one_more_new : (earlier tags : List ℕ) (tag : ℕ) → list_any (nat_eq tag) earlier ≡ false → AreNew (tag ∷ earlier) tags → AreNew earlier (tag ∷ tags)
unfolding IsDistinct
one_more_new earlier tags tag e later =
    let apart : (q : ℕ) → list_any (nat_eq q) earlier ≡ true → nat_eq q tag ≡ false =
    λ q among. ne_eqb q tag (λ same. absurd (false≢true (sym e ∙ ap (λ t. list_any (nat_eq t) earlier) (sym same) ∙ among))) in (
      (later.1 tag (rw (eq-eqb tag tag refl) refl), later.0),
      λ q among. (apart q among, later.1 q (or_right (nat_eq q tag) (list_any (nat_eq q) earlier) among)),
    )

-- where no tag repeats an earlier one, they are new
new_after : (earlier tags : List ℕ) → repeated_after earlier tags ≡ None → AreNew earlier tags
unfolding IsDistinct
new_after earlier [] h = (tt, λ _ _. tt)
new_after earlier (tag ∷ tags) h = by (list_any (nat_eq tag) earlier) refl (new_after (tag ∷ earlier) tags) h
  where
    by : (b : Bool) → list_any (nat_eq tag) earlier ≡ b → (repeated_after (tag ∷ earlier) tags ≡ None → AreNew (tag ∷ earlier) tags)
        → cond b (Some tag) (repeated_after (tag ∷ earlier) tags) ≡ None → AreNew earlier (tag ∷ tags)
    by true e later r = absurd (cc)
    by false e later r = one_more_new earlier tags tag e (later r)

-- no tag differs from itself
apart_from_itself : (tag : ℕ) (tags : List ℕ) → IsApart tag (tag ∷ tags) → ⊥
apart_from_itself tag tags h = false≢true (sym h.0 ∙ eq-eqb tag tag refl)

-- behind a new tag, those after it are still new
later_new : (earlier tags : List ℕ) (tag : ℕ) → AreNew earlier (tag ∷ tags) → AreNew (tag ∷ earlier) tags
unfolding IsDistinct
later_new earlier tags tag new = (new.0.1, λ q among. later q (nat_eq q tag) refl among)
  where
    later : (q : ℕ) (b : Bool) → nat_eq q tag ≡ b → (b || list_any (nat_eq q) earlier) ≡ true → IsApart q tags
    later q true e among = subst (λ n. IsApart n tags) (sym (eqb-true q tag e)) new.0.0
    later q false e among = (new.1 q among).1

-- new tags do not repeat an earlier one
none_repeats : (earlier tags : List ℕ) → AreNew earlier tags → repeated_after earlier tags ≡ None
none_repeats earlier [] new = refl
none_repeats earlier (tag ∷ tags) new = by (list_any (nat_eq tag) earlier) refl (none_repeats (tag ∷ earlier) tags (later_new earlier tags tag new))
  where
    by : (b : Bool) → list_any (nat_eq tag) earlier ≡ b → repeated_after (tag ∷ earlier) tags ≡ None → cond b (Some tag) (repeated_after (tag ∷ earlier) tags) ≡ None
    by true e later = absurd (apart_from_itself tag tags (new.1 tag e))
    by false e later = later

-- tags that differ do not repeat
pub differing_unrepeated : (tags : List ℕ) → IsDistinct nat_eq tags → repeated tags ≡ None
differing_unrepeated tags differ = none_repeats [] tags (differ, λ tag among. absurd (false≢true among))

-- why a forest is refused: by its first repeated tag
pub refused_twice : (forest : PlainForest SettledFields) (tag : ℕ) → repeated (tags_of (contents_of forest)) ≡ Some tag
    → forest_refusal_of (contents_of forest) ≡ Some (TwiceTag tag)
refused_twice forest tag r = rw r refl

-- by its depth
pub refused_deep : (forest : PlainForest SettledFields) → repeated (tags_of (contents_of forest)) ≡ None → 48 < depth_of forest
    → forest_refusal_of (contents_of forest) ≡ Some TooDeep
refused_deep forest r d = rw (r, depth_of-forest_map, lt-ltb 48 (depth_of forest) d) refl

-- by its number of nodes
pub refused_many : (forest : PlainForest SettledFields) → repeated (tags_of (contents_of forest)) ≡ None → depth_of forest ≤ 48 → 2000 < node_count forest
    → forest_refusal_of (contents_of forest) ≡ Some TooManyNodes
refused_many forest r d n =
    rw (r, depth_of-forest_map, node_count-forest_map, le-ltb 48 (depth_of forest) d, lt-ltb 2000 (node_count forest) n) refl

-- or it is not
pub unrefused : (forest : PlainForest SettledFields) → repeated (tags_of (contents_of forest)) ≡ None → depth_of forest ≤ 48 → node_count forest ≤ 2000
    → forest_refusal_of (contents_of forest) ≡ None
unrefused forest r d n =
    rw (r, depth_of-forest_map, node_count-forest_map, le-ltb 48 (depth_of forest) d, le-ltb 2000 (node_count forest) n) refl

-- a forest that is not refused keeps the limits
pub within_from_refusal : (forest : PlainForest NodeFields) → forest_refusal_of forest ≡ None → IsForestWithin forest
within_from_refusal forest h = by (repeated (tags_of forest)) (nat_lt 48 (depth_of forest)) (nat_lt 2000 (node_count forest)) refl refl refl h
  where
    by : (found : Option ℕ) (deep many : Bool) → repeated (tags_of forest) ≡ found → nat_lt 48 (depth_of forest) ≡ deep → nat_lt 2000 (node_count forest) ≡ many
        → option_or (option_map (λ tag. TwiceTag tag) found) (if deep then Some TooDeep else (if many then Some TooManyNodes else None)) ≡ None → IsForestWithin forest
    by (Some tag) deep many r d n h = absurd (cc)
    by None true many r d n h = absurd (cc)
    by None false true r d n h = absurd (cc)
    by None false false r d n h = record {
      differ = (new_after [] (tags_of forest) r).0;
      depth = ltb-false 48 (depth_of forest) d;
      count = ltb-false 2000 (node_count forest) n;
    }
