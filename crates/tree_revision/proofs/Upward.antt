-- The tags of a forest, each after those below it.
use Rattle.std.proofs.Common.{◌≡◌, ◌≢◌, ℕ, List, [], ◌∷◌, ◌++◌, All, map, Bool, true, false, cond, ◌||◌, Option, Some, None, is_some, nat_eq, refl, ap, sym, ◌∙◌, subst, arith}
use Rattle.std.specs.List.{AllByRecursion, IsDistinct, list_any}
use Rattle.std.specs.Option.{option_or}
use Rattle.std.specs.Ordering.{nat_cmp}
use Rattle.std.specs.Cmp.{nat_cmp_total}
use Rattle.std.specs.FinMap.{find, from_entries, get-from_entries}
use Rattle.std.specs.List.Sorted.{IsPermutation}
use Rattle.std.proofs.lemmas.List.Sorted.{IsPermutation-refl, IsPermutation-sym, IsPermutation-trans, IsPermutation-cons, IsPermutation-middle, IsPermutation-append_left, IsPermutation-append_right}
use Rattle.std.proofs.lemmas.List.Elements.{All-nil, All-cons}
use Rattle.std.proofs.lemmas.List.Folds.{list_any-append}
use Rattle.std.proofs.lemmas.List.Kept.{AllPairs-cons}
use Rattle.std.proofs.lemmas.Map.Keys.{IsDistinct-IsPermutation}
use Rattle.std.proofs.lemmas.Bool.{eqb-true, eqb-false}
use Rattle.shadow_node.specs.Forest.{PlainForest, none, node}
use Rattle.shadow_node.specs.Fields.{SettledFields}
use Rattle.shadow_node.specs.Find.{first_settled}
use Rattle.shadow_node.specs.Stamps.{DoTagsDiffer}
use Rattle.clone_path.proofs.Tags.{all_tags, all_tags-node}
use Rattle.tree_revision.specs.ForestStamps.{AreStampsAfter}
use Rattle.tree_revision.specs.Unchanged.{tags_upward, StampChange, IsStampIn, AreStampsIn}
use Rattle.tree_revision.proofs.Counts.{nat_eq-turned, ties-nat_eq}

-- they are the tags in another order
pub permuted : (forest : PlainForest SettledFields) → IsPermutation (all_tags forest) (tags_upward forest)
permuted none = IsPermutation-refl []
permuted (node f k s) =
    subst (λ tags. IsPermutation tags (tags_upward (node f k s))) (sym (all_tags-node f k s))
    (IsPermutation-trans _ (f.fields.tag ∷ tags_upward k ++ tags_upward s) _
    (IsPermutation-cons f.fields.tag _ _
    (IsPermutation-trans _ (tags_upward k ++ all_tags s) _ (IsPermutation-append_left (all_tags s) _ _ (permuted k)) (IsPermutation-append_right (tags_upward k) _ _ (permuted s))))
    (IsPermutation-sym _ _ (IsPermutation-middle (tags_upward k) f.fields.tag (tags_upward s))))

-- so they differ where the tags do
pub upward_differ : (forest : PlainForest SettledFields) → IsDistinct nat_eq (all_tags forest) → IsDistinct nat_eq (tags_upward forest)
upward_differ forest differ = IsDistinct-IsPermutation nat_eq nat_eq-turned (all_tags forest) (tags_upward forest) (permuted forest) differ

-- one of two answers is there
pub some_or : {A : Type 0} (a b : Option A) → is_some (option_or a b) ≡ (is_some a || is_some b)
some_or None b = refl
some_or (Some x) b = refl

-- either is true, whatever their order
either_turned : (a b c : Bool) → (a || (b || c)) ≡ (b || (a || c))
either_turned true true c = refl
either_turned true false c = refl
either_turned false b c = refl

-- a tag is among them where it is in the forest
pub among_upward : (tag : ℕ) (forest : PlainForest SettledFields) → list_any (λ t. nat_eq t tag) (tags_upward forest) ≡ is_some (first_settled tag forest)
among_upward tag none = refl
among_upward tag (node f k s) =
    list_any-append (λ t. nat_eq t tag) (tags_upward k) (f.fields.tag ∷ tags_upward s)
    ∙ (λ i. among_upward tag k i || (nat_eq f.fields.tag tag || among_upward tag s i))
    ∙ either_turned (is_some (first_settled tag k)) (nat_eq f.fields.tag tag) (is_some (first_settled tag s))
    ∙ elim (nat_eq f.fields.tag tag) as (λ b. (b || (is_some (first_settled tag k) || is_some (first_settled tag s)))
    ≡ is_some (cond b (Some (record { fields = f; children = k })) (option_or (first_settled tag k) (first_settled tag s)))) [
      | true ↦ refl
      | false ↦ sym (some_or (first_settled tag k) (first_settled tag s))
    ]

-- a stamp is found where the tag is among those of the list
some_found : (tag : ℕ) (pairs : List (ℕ × ℕ)) → is_some (find nat_cmp tag pairs) ≡ list_any (λ t. nat_eq t tag) (map (λ pair. pair.0) pairs)
some_found tag [] = refl
some_found tag (pair ∷ pairs) =
    ap (λ b. is_some (cond b (Some pair.1) (find nat_cmp tag pairs))) (ties-nat_eq tag pair.0)
    ∙ elim (nat_eq pair.0 tag) as (λ b. is_some (cond b (Some pair.1) (find nat_cmp tag pairs)) ≡ (b || list_any (λ t. nat_eq t tag) (map (λ pair. pair.0) pairs))) [
      | true ↦ refl
      | false ↦ some_found tag pairs
    ]

-- what holds of each pair holds of the stamp that is found
each_found : (P : ℕ × ℕ → Type 0) (tag stamp : ℕ) (pairs : List (ℕ × ℕ)) → AllByRecursion P pairs → find nat_cmp tag pairs ≡ Some stamp → P (tag, stamp)
each_found P tag stamp [] all e = absurd cc
each_found P tag stamp (pair ∷ pairs) all e =
    elim (nat_eq pair.0 tag) as (λ b. nat_eq pair.0 tag ≡ b → cond b (Some pair.1) (find nat_cmp tag pairs) ≡ Some stamp → P (tag, stamp)) [
      | true ↦ λ same e. let stamps : pair.1 ≡ stamp = cc in subst P (λ i. (eqb-true pair.0 tag same i, stamps i)) all.0
      | false ↦ λ other e. each_found P tag stamp pairs all.1 e
    ] refl (sym (ap (λ b. cond b (Some pair.1) (find nat_cmp tag pairs)) (ties-nat_eq tag pair.0)) ∙ e)

-- a tag that is none of those of some pairs
apart_all : (tag : ℕ) (pairs : List (ℕ × ℕ)) → AllByRecursion (λ other. nat_eq tag other ≡ false) (map (λ pair. pair.0) pairs) → All (λ pair. tag ≢ pair.0) pairs
apart_all tag [] apart = All-nil (λ pair. tag ≢ pair.0)
apart_all tag (pair ∷ pairs) apart = All-cons (λ pair. tag ≢ pair.0) pair pairs (eqb-false tag pair.0 apart.0) (apart_all tag pairs apart.1)

-- no tag stands twice in pairs whose tags differ
pub pairs_differ : (pairs : List (ℕ × ℕ)) → IsDistinct nat_eq (map (λ pair. pair.0) pairs) → DoTagsDiffer pairs
unfolding IsDistinct
pairs_differ [] differ = λ i j d lt le. absurd (omega (arith, le))
pairs_differ (pair ∷ pairs) differ = AllPairs-cons (λ one other. one.0 ≢ other.0) pair pairs (apart_all pair.0 pairs differ.0) (pairs_differ pairs differ.1)

-- the map of the stamps of a forest's tags, each of which is one after a commit, are the stamps after it
pub stamps_made : (change : StampChange) (pairs : List (ℕ × ℕ)) → map (λ pair. pair.0) pairs ≡ tags_upward change.new → AreStampsIn change pairs
    → AreStampsAfter change.old change.new change.before change.number (from_entries pairs)
stamps_made change pairs tags are = record {
  mounted = λ tag. ap is_some (get-from_entries nat_cmp_total pairs tag) ∙ some_found tag pairs ∙ ap (list_any (λ t. nat_eq t tag)) tags ∙ among_upward tag change.new;
  each = λ tag stamp e. each_found (IsStampIn change) tag stamp pairs are (sym (get-from_entries nat_cmp_total pairs tag) ∙ e);
}
