-- Records at their numbers, and how often a number stands among them.
use Rattle.std.proofs.Common.{◌≡◌, ◌≢◌, ℕ, zero, suc, ◌+◌, ◌-◌, ◌<◌, ◌==◌, Bool, List, [], ◌∷◌, ◌++◌, length, drop, cond, slice_get, Some, arith, refl, ap, ◌∙◌, subst, ne_eqb}
use Rattle.std.proofs.lemmas.Option.{slice_get_within}
use Rattle.std.proofs.lemmas.List.Sums.{sum_by-cons, sum_by-append}
use Rattle.tree_revision.specs.Records.{PlainRecord}
use Rattle.tree_revision.specs.Ports.{BeginsWith}
use Rattle.commit_spine.specs.Passes.{times_own}
use Rattle.commit_spine.specs.SpineRule.{StandsAt, AllStandIn}
use Rattle.commit_spine.proofs.Begins.{begin_and_rest}

abbrev pub one_if : Bool → ℕ
one_if test = cond test 1 0

there_with_more : (entries more : List PlainRecord) (k : ℕ) (entry : PlainRecord)
    → slice_get entries k ≡ Some entry → slice_get (entries ++ more) k ≡ Some entry
there_with_more [] more k entry there = absurd (omega (arith, slice_get_within [] k entry there))
there_with_more (e ∷ entries) more zero entry there = there
there_with_more (e ∷ entries) more (suc k) entry there = there_with_more entries more k entry there

last_is_there : (entries : List PlainRecord) (entry : PlainRecord) → slice_get (entries ++ entry ∷ []) (length entries) ≡ Some entry
last_is_there [] entry = refl
last_is_there (e ∷ entries) entry = last_is_there entries entry

-- a record that was added stands at the new length
pub added_stands : (entries : List PlainRecord) (entry : PlainRecord) → StandsAt (entries ++ entry ∷ []) (length entries + 1, entry)
added_stands entries entry =
    let at : length entries ≡ length entries + 1 - 1 = omega arith in record {
      first = omega arith;
      there = subst (λ k. slice_get (entries ++ entry ∷ []) k ≡ Some entry) at (last_is_there entries entry);
    }

-- records that stand in a list stand in one that begins with it
pub stand_later : (longer shorter : List PlainRecord) (own : List (ℕ × PlainRecord)) → BeginsWith longer shorter → AllStandIn shorter own → AllStandIn longer own
stand_later longer shorter [] begins stand = tt
stand_later longer shorter (at ∷ own) begins stand =
    let here = there_with_more shorter (drop (length shorter) longer) (at.0 - 1) at.1 stand.0.there in (
      record {
        first = stand.0.first;
        there = subst (λ list. slice_get list (at.0 - 1) ≡ Some at.1) (begin_and_rest longer shorter begins) here;
      },
      stand_later longer shorter own begins stand.1,
    )

pub stand_both : (entries : List PlainRecord) (own more : List (ℕ × PlainRecord)) → AllStandIn entries own → AllStandIn entries more → AllStandIn entries (own ++ more)
stand_both entries [] more one other = other
stand_both entries (at ∷ own) more one other = (one.0, stand_both entries own more one.1 other)

-- a number beyond a list does not stand among the records that stand in it
pub none_beyond : (entries : List PlainRecord) (own : List (ℕ × PlainRecord)) (number : ℕ) → AllStandIn entries own → length entries < number → times_own number own ≡ 0
none_beyond entries [] number stand beyond = refl
none_beyond entries (at ∷ own) number stand beyond =
    let within : at.0 - 1 < length entries = slice_get_within entries (at.0 - 1) at.1 stand.0.there in
    let other : at.0 ≢ number = λ same. omega (arith, stand.0.first) in
    let no : one_if (at.0 == number) ≡ 0 = ap one_if (ne_eqb at.0 number other) in
    sum_by-cons (λ (x : ℕ × PlainRecord). cond (x.0 == number) 1 0) at own ∙ omega (arith, no, none_beyond entries own number stand.1 beyond)

pub times_in_both : (number : ℕ) (own more : List (ℕ × PlainRecord)) → times_own number (own ++ more) ≡ times_own number own + times_own number more
times_in_both number own more = sum_by-append (λ (x : ℕ × PlainRecord). cond (x.0 == number) 1 0) own more
