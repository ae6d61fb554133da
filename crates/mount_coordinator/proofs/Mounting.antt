-- The base and the revision that may be mounted: the one is among the first records of the other.
use Rattle.std.proofs.Common.{◌≡◌, ◌≢◌, ◌≤◌, ◌⊎◌, inl, inr, ℕ, suc, ◌+◌, ◌-◌, List, [], ◌∷◌, ◌++◌, length, map, take, drop, arith, refl, ap, sym, ◌∙◌, subst}
use Rattle.std.proofs.Common.{length-take, length-take-le, take-append-drop, take_all}
use Rattle.std.proofs.lemmas.List.{take-take}
use Rattle.std.proofs.lemmas.Option.{same_Some}
use Rattle.std.specs.Prelude.{Option, Some, None, unwrap_or}
use Rattle.shadow_frame.specs.declared.Size.{Size}
use Rattle.host_views.specs.Plain.{plain_mutation}
use Rattle.view_flatten.specs.HostTree.{host_tree_of}
use Rattle.view_mutation.specs.Mutations.{mutations_between}
use Rattle.view_mutation.specs.Leads.{LeadOn}
use Rattle.view_mutation.specs.Since.{AreTagged}
use Rattle.counts.specs.Raised.{raised}
use Rattle.shadow_node.specs.Stamps.{stamp_in}
use Rattle.shadow_node.specs.Entered.{AreAlikeSince}
use Rattle.tree_revision.specs.Records.{PlainOp, complete, state, props, resize, stop, suspend, resume, PlainRecord}
use Rattle.tree_revision.specs.Mountable.{mountable_of}
use Rattle.tree_revision.specs.Lawful.{IsLawful}
use Rattle.tree_revision.specs.Settled.{SettledRevision, KeptRevision}
use Rattle.tree_revision.specs.Stands.{HasContentOf, StandsFor, settled_of}
use Rattle.tree_revision.specs.Ports.{BeginsWith}
use Rattle.tree_revision.proofs.Histories.{IsLawful-front}
use Rattle.tree_revision.proofs.Mountable.{still_after, still_from, mountable_of-still, mountable_of-within, mountable_of-rises}
use Rattle.mount_coordinator.specs.declared.coordinator.Transaction.{Transaction}
use Rattle.mount_coordinator.specs.Mounted.{PlainCoordinator, IsBaseOf, IsBaseIn, entered_from}
use Rattle.mount_coordinator.specs.Answers.{IsTransaction, IsNothingNewer}
use Rattle.mount_coordinator.proofs.HostTrees.{lawful_tagged, histories_lead_on}
use Rattle.mount_coordinator.proofs.Alike.{alike_since}

-- mounting stood still at that number before some records, or it went on up to there
abbrev StoodStill : (number : ℕ) → Option ℕ → List PlainRecord → ℕ → Type 0
StoodStill number still entries at = (still ≡ Some at) ⊎ ((number ≤ at) × (still_from number still (take (at - number) entries) ≡ None))

-- where it stands still after one change, it did so before, or this change begins it
one_change : (number : ℕ) (op : PlainOp) (still : Option ℕ) (at : ℕ) → still_after number op still ≡ Some at → (still ≡ Some at) ⊎ ((still ≡ None) × (number ≡ at))
one_change number (complete nodes) still at e = inl e
one_change number (state tag change) still at e = inl e
one_change number (props tag change) still at e = inl e
one_change number (resize size) still at e = inl e
one_change number stop still at e = inl e
one_change number suspend None at e = inr (refl, same_Some number at e)
one_change number suspend (Some still) at e = inl e
one_change number resume still at e = absurd cc

-- where it stands still after some records, it did so before, or went on up to there
stood_still : (number : ℕ) (still : Option ℕ) (entries : List PlainRecord) (at : ℕ) → still_from number still entries ≡ Some at → StoodStill number still entries at
stood_still number still [] at e = inl e
stood_still number still (entry ∷ entries) at e =
    elim (stood_still (number + 1) (still_after number entry.op still) entries at e) as (λ s. StoodStill number still (entry ∷ entries) at) [
      | inl here ↦
          elim (one_change number entry.op still at here) as (λ s. StoodStill number still (entry ∷ entries) at) [
            | inl before ↦ inl before
            | inr begun ↦
                let none : at - number ≡ 0 = omega arith in
                inr (omega arith, rw none begun.0)
          ]
      | inr later ↦
          let more : at - number ≡ suc (at - (number + 1)) = omega arith in
          inr (omega arith, ap (λ n. still_from number still (take n (entry ∷ entries))) more ∙ later.1)
    ]

-- of as many records as mounting stands still at all may be mounted
all_mountable : (entries : List PlainRecord) (still : Option ℕ) → still_from 0 None entries ≡ still → unwrap_or still (length entries) ≤ length entries
    → mountable_of (take (unwrap_or still (length entries)) entries) ≡ unwrap_or still (length entries)
all_mountable entries None e within =
    ap mountable_of (take_all (length entries) entries (omega arith)) ∙ mountable_of-still entries ∙ ap (λ still. unwrap_or still (length entries)) e
all_mountable entries (Some at) e within =
    elim (stood_still 0 None entries at e) as (λ s. mountable_of (take at entries) ≡ at) [
      | inl impossible ↦ absurd cc
      | inr on ↦
          let none : still_from 0 None (take at entries) ≡ None = subst (λ n. still_from 0 None (take n entries) ≡ None) (omega arith) on.1 in
          mountable_of-still (take at entries) ∙ ap (λ still. unwrap_or still (length (take at entries))) none ∙ length-take-le at entries within
    ]

-- of the first records that may be mounted all may be mounted
pub mountable_of-mountable : (entries : List PlainRecord) → mountable_of (take (mountable_of entries) entries) ≡ mountable_of entries
mountable_of-mountable entries =
    let still = still_from 0 None entries in
    let number = mountable_of-still entries in
    let within : unwrap_or still (length entries) ≤ length entries = omega (arith, number, mountable_of-within entries) in
    rw number (all_mountable entries still refl within)

-- a history of whose first records the base stands, with a front
module _ (first : Size) (entries : List PlainRecord) (base : SettledRevision) (front : KeptRevision) (stands : StandsFor first front entries)
    (mounted : IsBaseIn first entries base) where
  -- the base is one of the history
  base_within : base.number ≤ length entries
  base_within = omega (arith, mounted.newest.number, length-take base.number entries)

  -- all of its records may be mounted
  base_whole : mountable_of (take base.number entries) ≡ base.number
  base_whole =
      let all = take base.number entries in
      sym (mounted.mountable.number ∙ length-take-le (mountable_of all) all (mountable_of-within all))

  -- it is no newer than the revision that may be mounted
  base_below : base.number ≤ mountable_of entries
  base_below =
      let n = base.number in
      let rises = mountable_of-rises (take n entries) (drop n entries) in
      subst (λ m. m ≤ mountable_of entries) base_whole (subst (λ l. mountable_of (take n entries) ≤ mountable_of l) (take-append-drop n entries) rises)

  -- the number of the revision that may be mounted
  mountable_number : front.mountable.number ≡ mountable_of entries
  mountable_number = stands.mountable.number ∙ length-take-le (mountable_of entries) entries (mountable_of-within entries)

  -- the first records that may be mounted are lawful
  front_lawful : IsLawful first (take (mountable_of entries) entries)
  front_lawful =
      let m = mountable_of entries in
      IsLawful-front first (take m entries) (drop m entries) (subst (IsLawful first) (sym (take-append-drop m entries)) stands.lawful)

  -- the mutations from the base to the revision that may be mounted lead on
  pub leads : LeadOn (host_tree_of base.forest) (host_tree_of front.mountable.forest)
  leads =
      let n = base.number in
      let all = take (mountable_of entries) entries in
      let parts : take n entries ++ drop n all ≡ all =
      ap (λ l. l ++ drop n all) (sym (take-take n (mountable_of entries) entries base_below)) ∙ take-append-drop n all in
      let old = mounted.newest.forest in
      let new = stands.mountable.forest in
      let led = histories_lead_on first (take n entries) (drop n all) (subst (IsLawful first) (sym parts) front_lawful) in
      subst (λ forest. LeadOn (host_tree_of base.forest) (host_tree_of forest)) (sym new)
      (subst (λ forest. LeadOn (host_tree_of forest) (host_tree_of (settled_of first all))) (sym old)
      (subst (λ l. LeadOn (host_tree_of (settled_of first (take n entries))) (host_tree_of (settled_of first l))) parts led))

  -- the tags of both are at least 1
  pub base_tagged : AreTagged base.forest
  base_tagged = subst AreTagged (sym mounted.newest.forest) (lawful_tagged first (take base.number entries) mounted.lawful)

  pub front_tagged : AreTagged front.mountable.forest
  front_tagged = subst AreTagged (sym stands.mountable.forest) (lawful_tagged first (take (mountable_of entries) entries) front_lawful)

  -- what is unchanged since the base stands there as it stands now
  pub front_alike : AreAlikeSince (stamp_in front.mountable.stamps) base.number base.forest front.mountable.forest
  front_alike =
      let all = take (mountable_of entries) entries in
      let same : take base.number entries ≡ take base.number all = sym (take-take base.number (mountable_of entries) entries base_below) in
      let low : base.number ≤ length all = omega (arith, base_below, length-take-le (mountable_of entries) entries (mountable_of-within entries)) in
      alike_since first all base front.mountable (subst (HasContentOf first base) same mounted.newest) stands.mountable low

  -- the revision that may be mounted stands for the first records that may be mounted
  moved : IsBaseOf first front.mountable (take (mountable_of entries) entries)
  moved =
      let all = take (mountable_of entries) entries in
      let count : length all ≡ mountable_of entries = length-take-le (mountable_of entries) entries (mountable_of-within entries) in
      let again : take (mountable_of all) all ≡ all = take_all (mountable_of all) all (omega (arith, mountable_of-mountable entries, count)) in
      record {
        lawful = front_lawful;
        newest = stands.mountable;
        mountable = subst (HasContentOf first front.mountable) (sym again) stands.mountable;
      }

  -- where the revision that may be mounted has the base's number nothing is newer
  pub nothing_newer : (old : PlainCoordinator) → old.base ≡ base → front.mountable.number ≡ base.number → IsNothingNewer entries old old
  nothing_newer old from same = record { same = sym mountable_number ∙ same ∙ ap (λ base. base.number) (sym from); stays = refl }

  -- what leads from the base to the revision that may be mounted is a transaction
  pub finished : (transaction : Transaction) (old new : PlainCoordinator) → old.base ≡ base → transaction.base ≡ base.number
      → transaction.to ≡ front.mountable.number → front.mountable.number ≢ base.number
      → map plain_mutation transaction.mutations ≡ mutations_between (host_tree_of base.forest) (host_tree_of front.mountable.forest)
      → new.base ≡ front.mountable → new.entered ≡ raised old.entered (entered_from base front.mountable) → IsTransaction first entries old new transaction
  finished transaction old new from base_is to other led is entered =
      let at : transaction.to ≡ mountable_of entries = to ∙ mountable_number in
      let old_one : base.forest ≡ settled_of first (take transaction.base entries) =
      mounted.newest.forest ∙ ap (λ n. settled_of first (take n entries)) (sym base_is) in
      let new_one : front.mountable.forest ≡ settled_of first (take transaction.to entries) =
      stands.mountable.forest ∙ ap (λ n. settled_of first (take n entries)) (sym at) in
      record {
        base = base_is ∙ ap (λ base. base.number) (sym from);
        to = at;
        newer = omega (arith, base_is, to, other, at, base_below);
        mutations = led ∙ (λ i. mutations_between (host_tree_of (old_one i)) (host_tree_of (new_one i)));
        moved = ap (λ base. base.number) is ∙ sym to;
        mounted = subst (λ n. IsBaseOf first new.base (take n entries)) (sym at)
            (subst (λ base. IsBaseOf first base (take (mountable_of entries) entries)) (sym is) moved);
        entered = entered ∙ (λ i. raised old.entered (entered_from (sym from i) (sym is i)));
      }

-- after a transaction the base stands for the first records up to there
pub transacted : (first : Size) (entries : List PlainRecord) (old new : PlainCoordinator) (transaction : Transaction)
    → IsTransaction first entries old new transaction → IsBaseIn first entries new.base
transacted first entries old new transaction done = subst (λ n. IsBaseOf first new.base (take n entries)) (sym done.moved) done.mounted

-- a base stands for the first records as the history grows too
pub still_base : (first : Size) (entries longer : List PlainRecord) (base : SettledRevision) → BeginsWith longer entries
    → IsBaseIn first entries base → IsBaseIn first longer base
still_base first entries longer base begins mounted =
    let n = base.number in
    let within : n ≤ length entries = omega (arith, mounted.newest.number, length-take n entries) in
    let same : take n entries ≡ take n longer = ap (take n) (sym begins.same) ∙ take-take n (length entries) longer within in
    subst (IsBaseOf first base) same mounted
