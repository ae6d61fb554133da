-- Passes are joined surface by surface, and coordinators are kept.
use Rattle.std.proofs.Common.{◌≡◌, ℕ, zero, suc, ◌<◌, List, [], ◌∷◌, length, slice_get, slice_set, arith, refl, ap, sym, subst, ◌∙◌}
use Rattle.std.specs.Prelude.{Some, Option, unwrap_or}
use Rattle.std.specs.Map.{keys_of, values_of}
use Rattle.std.proofs.lemmas.List.{length-set}
use Rattle.std.proofs.lemmas.Option.{same_Some, slice_get_within}
use Rattle.indexmap.specs.IndexMap.{set_value_at}
use Rattle.mount_coordinator.specs.Mounted.{PlainCoordinator}
use Rattle.commit_spine.specs.declared.spine_parts.Spine.{Spine}
use Rattle.commit_spine.specs.Calls.{IsPassOf}
use Rattle.commit_spine.specs.SpinePasses.{PassValue}
use Rattle.run_engine.specs.Jobs.{AreJoined, AreKept, IsJoin, MayJoin}
use Rattle.run_engine.proofs.Found.{set_entry}
use Rattle.run_engine.proofs.JobsGather.{same_length, there_too}
use Rattle.run_engine.proofs.Places.{AreChangedBelow, StandFrom, changed_below_next, stand_from_next, value_is}

-- the keys stay where a value is set
keys_set : {A : Type 0} (es : List (ℕ × A)) (i : ℕ) (w : A) → keys_of (set_value_at es i w) ≡ keys_of es
keys_set [] i w = refl
keys_set (e ∷ es) zero w = refl
keys_set (e ∷ es) (suc i) w = ap (λ l. e.0 ∷ l) (keys_set es i w)

-- which passes were joined so far
abbrev pub IsJoinedAt : List PassValue → ℕ → (was is : ℕ × PassValue) → Type 0
IsJoinedAt own k was is = (gone : PassValue) → slice_get own k ≡ Some gone → IsJoin was.1 gone is.1

-- the pass of a surface, and the one that is joined to it
module _ (spines : List (ℕ × Spine)) (old now : List (ℕ × PassValue)) (own : List PassValue) (place : ℕ) (spine : ℕ × Spine) (keep gone : PassValue) (may : MayJoin spines old own)
    (keys : keys_of now ≡ keys_of old) (stand : StandFrom old now place) (at : slice_get spines place ≡ Some spine) (value : slice_get (values_of now) place ≡ Some keep) (gone_at : slice_get own place ≡ Some gone) where
  entry : (e : ℕ × PassValue) × (slice_get now place ≡ Some e)
  entry = there_too spines now place spine at (same_length now old keys ∙ may.count)

  keep_is : keep ≡ entry.0.1
  keep_is = value_is now place entry.0 keep entry.1 value

  stood : slice_get old place ≡ Some entry.0
  stood = sym (stand place (omega arith)) ∙ entry.1

  pub keep_of_spine : IsPassOf spine.1 keep
  keep_of_spine = ap (λ (v : PassValue). v.spine) keep_is ∙ may.kept place spine entry.0 at stood

  pub gone_of_spine : IsPassOf spine.1 gone
  gone_of_spine = may.own_passes.each place spine gone at gone_at

  pub join_next : (new : PassValue) (m : ℕ) → m ≡ suc place → new.spine ≡ keep.spine → IsJoin keep gone new → AreChangedBelow (IsJoinedAt own) old now place
      → (keys_of (set_value_at now place new) ≡ keys_of old) × AreChangedBelow (IsJoinedAt own) old (set_value_at now place new) m × StandFrom old (set_value_at now place new) m
  join_next new m s spine_is join before =
      let set : set_value_at now place new ≡ slice_set now place (entry.0.0, new) = set_entry now place entry.0.0 entry.0.1 new entry.1 in
      let here : IsJoinedAt own place entry.0 (entry.0.0, new) =
      λ g to. subst (λ v. IsJoin v g new) keep_is (subst (λ g. IsJoin keep g new) (same_Some gone g (sym gone_at ∙ to)) join) in (
        keys_set now place new ∙ keys,
        subst (λ l. AreChangedBelow (IsJoinedAt own) old l m) (sym set) (changed_below_next (IsJoinedAt own) old now place m entry.0 (entry.0.0, new) s stood entry.1 before here),
        subst (λ l. StandFrom old l m) (sym set) (stand_from_next old now place m (entry.0.0, new) s stand),
      )

-- all were joined
pub all_joined : (spines : List (ℕ × Spine)) (old now : List (ℕ × PassValue)) (own : List PassValue) (place : ℕ) → MayJoin spines old own → keys_of now ≡ keys_of old → place ≡ length own
    → AreChangedBelow (IsJoinedAt own) old now place → AreJoined old now own
all_joined spines old now own place may keys end below = record {
  ids = keys;
  each = λ k was is gone w i g. let within : k < length own = slice_get_within own k gone g in below k was is (omega (arith, within, end)) w i gone g;
}

-- which coordinators were kept so far
abbrev pub IsKeptAt : List (Option PlainCoordinator) → ℕ → (was is : PlainCoordinator) → Type 0
IsKeptAt own k was is = (mine : Option PlainCoordinator) → slice_get own k ≡ Some mine → is ≡ unwrap_or mine was

pub keep_next : (old now : List PlainCoordinator) (own : List (Option PlainCoordinator)) (place m : ℕ) (was is : PlainCoordinator) (mine : Option PlainCoordinator) → m ≡ suc place → slice_get now place ≡ Some was
    → slice_get own place ≡ Some mine → is ≡ unwrap_or mine was → length now ≡ length old → AreChangedBelow (IsKeptAt own) old now place → StandFrom old now place
    → (length (slice_set now place is) ≡ length old) × AreChangedBelow (IsKeptAt own) old (slice_set now place is) m × StandFrom old (slice_set now place is) m
keep_next old now own place m was is mine s at to kept count before stand =
    let stood : slice_get old place ≡ Some was = sym (stand place (omega arith)) ∙ at in (
      length-set now place is ∙ count,
      changed_below_next (IsKeptAt own) old now place m was is s stood at before (λ other o. kept ∙ ap (λ m. unwrap_or m was) (same_Some mine other (sym to ∙ o))),
      stand_from_next old now place m is s stand,
    )

pub all_kept : (old now : List PlainCoordinator) (own : List (Option PlainCoordinator)) (place : ℕ) → length now ≡ length old → place ≡ length own → AreChangedBelow (IsKeptAt own) old now place → AreKept old now own
all_kept old now own place count end below = record {
  count = count;
  each = λ k was is mine w i m. let within : k < length own = slice_get_within own k mine m in below k was is (omega (arith, within, end)) w i mine m;
}
