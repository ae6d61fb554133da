-- Lists that begin with others.
use Rattle.std.proofs.Common.{◌≡◌, ◌≤◌, ℕ, Bool, true, false, List, ◌++◌, length, take, drop, cond, max, leb, arith, refl, ap, sym, ◌∙◌, subst, length-append}
use Rattle.std.proofs.lemmas.List.{take-append-drop, take-append-le}
use Rattle.std.proofs.lemmas.Bool.Decides.{nat_tests}
use Rattle.std.proofs.Math.Seq.{take-length}
use Rattle.tree_revision.specs.Records.{PlainRecord}
use Rattle.shadow_frame.specs.declared.Size.{Size}
use Rattle.tree_revision.specs.Lawful.{IsLawful}
use Rattle.tree_revision.specs.Ports.{BeginsWith}
use Rattle.tree_revision.proofs.Histories.{IsLawful-front}
use Rattle.commit_spine.specs.StepKinds.{longer_of, shorter_of}

-- a list is what it begins with, and the rest
pub begin_and_rest : (longer shorter : List PlainRecord) → BeginsWith longer shorter
    → shorter ++ drop (length shorter) longer ≡ longer
begin_and_rest longer shorter begins =
    ap (λ front. front ++ drop (length shorter) longer) (sym begins.same) ∙ take-append-drop (length shorter) longer

pub begins_with_itself : (entries : List PlainRecord) → BeginsWith entries entries
begins_with_itself entries = record { within = omega arith; same = take-length entries }

pub more_begins : (entries more : List PlainRecord) → BeginsWith (entries ++ more) entries
more_begins entries more = record {
  within = omega (arith, length-append entries more);
  same = take-append-le (length entries) entries more (omega arith) ∙ take-length entries;
}

pub begins_through : (long middle short : List PlainRecord) → BeginsWith long middle → BeginsWith middle short → BeginsWith long short
begins_through long middle short outer inner =
    let rest : List PlainRecord = drop (length middle) long in
    subst (λ list. BeginsWith list short) (begin_and_rest long middle outer) record {
      within = omega (arith, inner.within, length-append middle rest);
      same = take-append-le (length short) middle rest inner.within ∙ inner.same;
    }

-- a list that begins another of its length is that one
pub begins_whole : (longer shorter : List PlainRecord) → BeginsWith longer shorter → length shorter ≡ length longer → shorter ≡ longer
begins_whole longer shorter begins long = sym begins.same ∙ (ap (λ n. take n longer) long ∙ take-length longer)

-- of two lists that begin a third, the one that is no longer begins the other
pub begins_among : (whole longer shorter : List PlainRecord) → BeginsWith whole longer → BeginsWith whole shorter
    → length shorter ≤ length longer → BeginsWith longer shorter
begins_among whole longer shorter one other le =
    let rest : List PlainRecord = drop (length longer) whole in
    let cut : take (length shorter) (longer ++ rest) ≡ take (length shorter) longer =
    take-append-le (length shorter) longer rest le in
    record {
      within = le;
      same = sym cut ∙ (ap (take (length shorter)) (begin_and_rest whole longer one) ∙ other.same);
    }

-- both of two lists that begin a third begin the longer of them, which begins the third as the shorter does
pub record JoinedIn (whole longer shorter us vs : List PlainRecord) : Type 0 where
  pub longer_begins : BeginsWith whole longer
  pub shorter_begins : BeginsWith whole shorter
  pub first : BeginsWith longer us
  pub second : BeginsWith longer vs

joined_by : (whole us vs : List PlainRecord) (test : Bool) → leb (length us) (length vs) ≡ test
    → BeginsWith whole us → BeginsWith whole vs → JoinedIn whole (cond test vs us) (cond test us vs) us vs
joined_by whole us vs true is one other =
    let le : length us ≤ length vs = grind (arith, nat_tests) in record {
      longer_begins = other;
      shorter_begins = one;
      first = begins_among whole vs us other one le;
      second = begins_with_itself vs;
    }
joined_by whole us vs false is one other =
    let le : length vs ≤ length us = grind (arith, nat_tests) in record {
      longer_begins = one;
      shorter_begins = other;
      first = begins_with_itself us;
      second = begins_among whole us vs one other le;
    }

pub joined_in : (whole us vs : List PlainRecord) → BeginsWith whole us → BeginsWith whole vs
    → JoinedIn whole (longer_of us vs) (shorter_of us vs) us vs
joined_in whole us vs one other = joined_by whole us vs (leb (length us) (length vs)) refl one other

-- where the shorter of two lists begins the longer, both do
both_by : (us vs : List PlainRecord) (test : Bool) → leb (length us) (length vs) ≡ test
    → (length (cond test us vs) ≤ length (cond test vs us) → BeginsWith (cond test vs us) (cond test us vs))
    → BeginsWith (cond test vs us) us × BeginsWith (cond test vs us) vs
both_by us vs true is begins = let le : length us ≤ length vs = grind (arith, nat_tests) in (begins le, begins_with_itself vs)
both_by us vs false is begins = let le : length vs ≤ length us = grind (arith, nat_tests) in (begins_with_itself us, begins le)

pub both_begin : (us vs : List PlainRecord) → (length (shorter_of us vs) ≤ length (longer_of us vs) → BeginsWith (longer_of us vs) (shorter_of us vs))
    → BeginsWith (longer_of us vs) us × BeginsWith (longer_of us vs) vs
both_begin us vs begins = both_by us vs (leb (length us) (length vs)) refl begins

length_by : (us vs : List PlainRecord) (test : Bool) → leb (length us) (length vs) ≡ test → length (cond test vs us) ≡ max (length us) (length vs)
length_by us vs true is = let le : length us ≤ length vs = grind (arith, nat_tests) in omega arith
length_by us vs false is = let le : length vs ≤ length us = grind (arith, nat_tests) in omega arith

pub length_of_longer : (us vs : List PlainRecord) → length (longer_of us vs) ≡ max (length us) (length vs)
length_of_longer us vs = length_by us vs (leb (length us) (length vs)) refl

-- where a list is lawful, so is one that begins it
pub lawful_begin : (first : Size) (longer shorter : List PlainRecord) → BeginsWith longer shorter → IsLawful first longer → IsLawful first shorter
lawful_begin first longer shorter begins lawful =
    let n : ℕ = length shorter in
    subst (IsLawful first) begins.same (IsLawful-front first (take n longer) (drop n longer) (subst (IsLawful first) (sym (take-append-drop n longer)) lawful))
