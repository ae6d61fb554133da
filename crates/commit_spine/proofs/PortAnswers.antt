-- What a port says of a look and an offer, from what a spine says of them.
use Rattle.std.proofs.Common.{◌≡◌, ◌==◌, ℕ, ◌+◌, ◌≤◌, List, [], ◌∷◌, ◌++◌, length, cond, Bool, Result, Ok, Err, arith, refl, ap, ap₂, sym, ◌∙◌, subst, length-append, eq-eqb}
use Rattle.std.proofs.lemmas.Option.{none-some}
use base.Stored.{gnum, gcons}
use Rattle.atomic_table.specs.Seated.{TableId, table_id_coded}
use Rattle.tree_revision.specs.Records.{PlainRecord, plain_record}
use Rattle.tree_revision.specs.Settled.{KeptRevision}
use Rattle.tree_revision.specs.Stands.{StandsFor}
use Rattle.tree_revision.specs.Ports.{BeginsWith, Lasts, Stays, IsLookAnswer, IsOfferAnswer}
use Rattle.tree_revision.specs.declared.record.Record.{Record}
use Rattle.tree_revision.specs.declared.port.LookRefusal.{LookRefusal}
use Rattle.tree_revision.specs.declared.port.LookRefusal.TheVariants.{Busy as LookBusy, Memory as LookMemory}
use Rattle.tree_revision.specs.declared.port.OfferRefusal.{OfferRefusal}
use Rattle.tree_revision.specs.declared.port.OfferRefusal.TheVariants.{Busy as OfferBusy, Behind}
use Rattle.commit_spine.specs.Passes.{KeptByPass}
use Rattle.commit_spine.specs.SpinePasses.{PassValue}
use Rattle.commit_spine.specs.SpinePorts.{spine_told}
use Rattle.commit_spine.specs.Calls.{IsLookOf, IsOfferOf}
use Rattle.commit_spine.proofs.Begins.{begins_with_itself, more_begins}

abbrev one_if : Bool → ℕ
one_if test = cond test 1 0

-- what was seen begins what is seen where it stays
stays_begun : (new old : List PlainRecord) → new ≡ old → BeginsWith new old
stays_begun new old same = subst (λ (list : List PlainRecord). BeginsWith list old) (sym same) (begins_with_itself old)

module _ (old new : PassValue) (same : new.spine ≡ old.spine) (reached : length new.kept.seen ≤ new.kept.floor) where
  lasts : new.kept.mark ≡ old.kept.mark → new.kept.shares ≡ old.kept.shares → BeginsWith new.kept.seen old.kept.seen
      → old.kept.busy ≤ new.kept.busy → old.kept.floor ≤ new.kept.floor → old.kept.looks ≤ new.kept.looks
      → Lasts (spine_told old) (spine_told new)
  lasts mark shares seen busy floor looks = record {
    mark = ap₂ (λ (id : TableId) (count : ℕ). gcons (table_id_coded.code id) (gnum count)) same shares;
    first = ap (λ m. m.first) mark;
    seen = seen;
    busy = busy;
    floor = floor;
    reached = reached;
    looks = looks;
  }

  pub look_lasts : (result : Result KeptRevision LookRefusal) → IsLookOf old.kept new.kept result → Lasts (spine_told old) (spine_told new)
  look_lasts (Ok front) look = lasts (ap (λ (k : KeptByPass). k.mark) look.keeps) (ap (λ (k : KeptByPass). k.shares) look.keeps)
      (subst (λ (k : KeptByPass). BeginsWith k.seen old.kept.seen) (sym look.keeps) look.seen)
      (omega (arith, ap (λ (k : KeptByPass). k.busy) look.keeps))
      (omega (arith, ap (λ (k : KeptByPass). k.floor) look.keeps, look.reached))
      (omega (arith, ap (λ (k : KeptByPass). k.looks) look.keeps))
  look_lasts (Err LookBusy) look = lasts (ap (λ (k : KeptByPass). k.mark) look.keeps) (ap (λ (k : KeptByPass). k.shares) look.keeps)
      (stays_begun new.kept.seen old.kept.seen (ap (λ (k : KeptByPass). k.seen) look.keeps))
      (omega (arith, ap (λ (k : KeptByPass). k.busy) look.keeps))
      (omega (arith, ap (λ (k : KeptByPass). k.floor) look.keeps, look.reached))
      (omega (arith, ap (λ (k : KeptByPass). k.looks) look.keeps))
  look_lasts (Err LookMemory) look = lasts (ap (λ (k : KeptByPass). k.mark) look.keeps) (ap (λ (k : KeptByPass). k.shares) look.keeps)
      (stays_begun new.kept.seen old.kept.seen (ap (λ (k : KeptByPass). k.seen) look.keeps))
      (omega (arith, ap (λ (k : KeptByPass). k.busy) look.keeps))
      (omega (arith, ap (λ (k : KeptByPass). k.floor) look.keeps, look.reached))
      (omega (arith, ap (λ (k : KeptByPass). k.looks) look.keeps))

  pub offer_lasts : (entry : Record) (next : KeptRevision) (result : Result ℕ OfferRefusal) → IsOfferOf old.kept new.kept entry next result → Lasts (spine_told old) (spine_told new)
  offer_lasts entry next (Ok number) offer = lasts (ap (λ (k : KeptByPass). k.mark) offer.keeps) (ap (λ (k : KeptByPass). k.shares) offer.keeps)
      (subst (λ (k : KeptByPass). BeginsWith k.seen old.kept.seen) (sym offer.keeps) (more_begins old.kept.seen (plain_record entry ∷ [])))
      (omega (arith, ap (λ (k : KeptByPass). k.busy) offer.keeps))
      (omega (arith, ap (λ (k : KeptByPass). k.floor) offer.keeps, offer.reached))
      (omega (arith, ap (λ (k : KeptByPass). k.looks) offer.keeps))
  offer_lasts entry next (Err (OfferBusy entry_back next_back)) offer =
      let refused = offer.2 in lasts (ap (λ (k : KeptByPass). k.mark) refused.keeps) (ap (λ (k : KeptByPass). k.shares) refused.keeps)
      (stays_begun new.kept.seen old.kept.seen (ap (λ (k : KeptByPass). k.seen) refused.keeps))
      (omega (arith, ap (λ (k : KeptByPass). k.busy) refused.keeps))
      (omega (arith, ap (λ (k : KeptByPass). k.floor) refused.keeps, refused.reached))
      (omega (arith, ap (λ (k : KeptByPass). k.looks) refused.keeps))
  offer_lasts entry next (Err (Behind found entry_back next_back)) offer =
      let refused = offer.2 in lasts (ap (λ (k : KeptByPass). k.mark) refused.keeps) (ap (λ (k : KeptByPass). k.shares) refused.keeps)
      (stays_begun new.kept.seen old.kept.seen (ap (λ (k : KeptByPass). k.seen) refused.keeps))
      (omega (arith, ap (λ (k : KeptByPass). k.busy) refused.keeps))
      (omega (arith, ap (λ (k : KeptByPass). k.floor) refused.keeps, refused.reached, refused.is_word))
      (omega (arith, ap (λ (k : KeptByPass). k.looks) refused.keeps))

  stays : new.kept.seen ≡ old.kept.seen → new.kept.own ≡ old.kept.own → new.kept.permits ≡ old.kept.permits → new.kept.looks ≡ old.kept.looks
      → Stays (spine_told old) (spine_told new)
  stays seen own permits looks = record { seen = seen; own = own; permits = permits; looks = looks; whole = refl }

  pub look_answers : (result : Result KeptRevision LookRefusal) → IsLookOf old.kept new.kept result → IsLookAnswer (spine_told old) (spine_told new) result
  look_answers (Ok front) look =
      let seen : new.kept.seen ≡ look.history = ap (λ (k : KeptByPass). k.seen) look.keeps in
      let at = look.stands.newest.number in record {
        stands = subst (λ (list : List PlainRecord). StandsFor old.kept.mark.first front list) (sym seen) look.stands;
        fresh = omega (arith, look.reached, at);
        looks = ap (λ (k : KeptByPass). k.looks) look.keeps;
        own = ap (λ (k : KeptByPass). k.own) look.keeps;
        permits = ap (λ (k : KeptByPass). k.permits) look.keeps;
        whole = refl;
        seen_whole = λ entries is. absurd (none-some entries is);
        room = λ permit. omega (arith, at, look.small);
      }
  look_answers (Err LookBusy) look = (
    stays (ap (λ (k : KeptByPass). k.seen) look.keeps) (ap (λ (k : KeptByPass). k.own) look.keeps) (ap (λ (k : KeptByPass). k.permits) look.keeps) (ap (λ (k : KeptByPass). k.looks) look.keeps),
    omega (arith, ap (λ (k : KeptByPass). k.busy) look.keeps, look.odd),
  )
  look_answers (Err LookMemory) look = (
    stays (ap (λ (k : KeptByPass). k.seen) look.keeps) (ap (λ (k : KeptByPass). k.own) look.keeps) (ap (λ (k : KeptByPass). k.permits) look.keeps) (ap (λ (k : KeptByPass). k.looks) look.keeps),
    tt,
  )

  pub offer_answers : (entry : Record) (next : KeptRevision) (result : Result ℕ OfferRefusal) → 1 ≤ old.kept.permits → IsOfferOf old.kept new.kept entry next result
      → IsOfferAnswer (spine_told old) (spine_told new) entry next result
  offer_answers entry next (Ok number) permit offer =
      let long = length-append old.kept.seen (plain_record entry ∷ []) in
      let seen : new.kept.seen ≡ old.kept.seen ++ plain_record entry ∷ [] = ap (λ (k : KeptByPass). k.seen) offer.keeps in
      let own : new.kept.own ≡ old.kept.own ++ (length old.kept.seen + 1, plain_record entry) ∷ [] = ap (λ (k : KeptByPass). k.own) offer.keeps in record {
        seen = seen;
        number = omega (arith, offer.number, long, ap length seen);
        own = own ∙ ap (λ (n : ℕ). old.kept.own ++ (n, plain_record entry) ∷ []) (sym offer.number);
        permits = omega (arith, ap (λ (k : KeptByPass). k.permits) offer.keeps);
        looks = ap (λ (k : KeptByPass). k.looks) offer.keeps;
        whole = λ entries is. absurd (none-some entries is);
      }
  offer_answers entry next (Err (OfferBusy entry_back next_back)) permit offer =
      let refused = offer.2 in
      let word : ℕ = length old.kept.seen + length old.kept.seen + 1 in
      let one : one_if (word == word) ≡ 1 = ap one_if (eq-eqb word word refl) in (
        stays (ap (λ (k : KeptByPass). k.seen) refused.keeps) (ap (λ (k : KeptByPass). k.own) refused.keeps) (ap (λ (k : KeptByPass). k.permits) refused.keeps) (ap (λ (k : KeptByPass). k.looks) refused.keeps),
        (offer.0, offer.1, omega (arith, ap (λ (k : KeptByPass). k.busy) refused.keeps, one)),
        λ entries is. absurd (none-some entries is),
      )
  offer_answers entry next (Err (Behind found entry_back next_back)) permit offer =
      let refused = offer.2 in (
        stays (ap (λ (k : KeptByPass). k.seen) refused.keeps) (ap (λ (k : KeptByPass). k.own) refused.keeps) (ap (λ (k : KeptByPass). k.permits) refused.keeps) (ap (λ (k : KeptByPass). k.looks) refused.keeps),
        (offer.0, offer.1, refused.above, omega (arith, ap (λ (k : KeptByPass). k.floor) refused.keeps, refused.is_word)),
        λ entries is. absurd (none-some entries is),
      )
