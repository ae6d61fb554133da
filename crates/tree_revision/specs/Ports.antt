-- What a port tells, and what its answers say.
use Rattle.std.specs.Prelude.{◌≡◌, ◌≢◌, ℕ, ◌+◌, ◌-◌, ◌≤◌, ◌<◌, ◌^◌, List, [], ◌∷◌, ◌++◌, length, take, Result, Ok, Err, Option, Some}
use base.Stored.{Gv}
use Rattle.shadow_frame.specs.declared.Size.{Size}
use Rattle.counts.specs.Raised.{raised, HasRisen}
use Rattle.tree_revision.specs.Records.{PlainRecord, plain_record}
use Rattle.tree_revision.specs.Settled.{KeptRevision}
use Rattle.tree_revision.specs.Stands.{StandsFor}
use Rattle.tree_revision.specs.declared.record.Record.{Record}
use Rattle.tree_revision.specs.declared.port.LookRefusal.{LookRefusal}
use Rattle.tree_revision.specs.declared.port.LookRefusal.TheVariants.{Busy as LookBusy, Memory as LookMemory}
use Rattle.tree_revision.specs.declared.port.OfferRefusal.{OfferRefusal}
use Rattle.tree_revision.specs.declared.port.OfferRefusal.TheVariants.{Busy as OfferBusy, Behind}

-- what a port tells: a mark and the surface's first size, which no call changes; the records that it has seen, and those that it had admitted itself, each with its number; how many more may be admitted; how often it was found busy; a number that the surface has reached; how many looks were answered; and the whole list of records, where it tells that
pub record Told : Type 0 where
  pub mark : Gv
  pub first : Size
  pub seen : List PlainRecord
  pub own : List (ℕ × PlainRecord)
  pub permits : ℕ
  pub busy : ℕ
  pub floor : ℕ
  pub looks : ℕ
  pub whole : Option (List PlainRecord)

-- one list begins with another
pub record BeginsWith (longer shorter : List PlainRecord) : Type 0 where
  pub within : length shorter ≤ length longer
  pub same : take (length shorter) longer ≡ shorter

-- what stands over each call: mark and first size stay, what was seen is the beginning of what is seen then, and no count falls; a port has reached what it has seen
pub record Lasts (old new : Told) : Type 0 where
  pub mark : new.mark ≡ old.mark
  pub first : new.first ≡ old.first
  pub seen : BeginsWith new.seen old.seen
  pub busy : old.busy ≤ new.busy
  pub floor : old.floor ≤ new.floor
  pub reached : length new.seen ≤ new.floor
  pub looks : old.looks ≤ new.looks

-- an answered look: the revision stands for all that is seen then, which is the whole list where it is told, and is no older than what was reached; where there is a permit, its number is below the last of 64 bits
pub record IsLook (old new : Told) (revision : KeptRevision) : Type 0 where
  pub stands : StandsFor old.first revision new.seen
  pub fresh : old.floor ≤ revision.newest.number
  pub looks : new.looks ≡ raised old.looks 1
  pub own : new.own ≡ old.own
  pub permits : new.permits ≡ old.permits
  pub whole : new.whole ≡ old.whole
  pub seen_whole : (entries : List PlainRecord) → old.whole ≡ Some entries → new.seen ≡ entries
  pub room : 1 ≤ old.permits → revision.newest.number < 2 ^ 64 - 1

-- a look was answered, with some front
pub record HasLooked (old new : Told) : Type 0 where
  pub front : KeptRevision
  pub answered : IsLook old new front

-- what a refusal leaves as it is
pub record Stays (old new : Told) : Type 0 where
  pub seen : new.seen ≡ old.seen
  pub own : new.own ≡ old.own
  pub permits : new.permits ≡ old.permits
  pub looks : new.looks ≡ old.looks
  pub whole : new.whole ≡ old.whole

-- a look is refused as busy only where the port was found busy once more: that count rose, or stands at its last value
abbrev pub IsLookRefusal : (old new : Told) → LookRefusal → Type 0
IsLookRefusal old new LookBusy = HasRisen old.busy new.busy
IsLookRefusal old new LookMemory = Unit {0}

-- what the answer of a look says
abbrev pub IsLookAnswer : (old new : Told) → Result KeptRevision LookRefusal → Type 0
IsLookAnswer old new (Ok revision) = IsLook old new revision
IsLookAnswer old new (Err refusal) = Stays old new × IsLookRefusal old new refusal

-- an admitted offer: the record of that number, directly after what was seen, which was the whole list where that is told
pub record IsOffer (old new : Told) (entry : PlainRecord) (answer : ℕ) : Type 0 where
  pub seen : new.seen ≡ old.seen ++ entry ∷ []
  pub number : answer ≡ length new.seen
  pub own : new.own ≡ old.own ++ (answer, entry) ∷ []
  pub permits : new.permits + 1 ≡ old.permits
  pub looks : new.looks ≡ old.looks
  pub whole : (entries : List PlainRecord) → old.whole ≡ Some entries → (old.seen ≡ entries) × (new.whole ≡ Some new.seen)

-- an offer that is refused hands both values back: as busy only where the port was found busy once more, and as behind where a number above what was seen was found
abbrev pub IsOfferRefusal : (old new : Told) → Record → KeptRevision → OfferRefusal → Type 0
IsOfferRefusal old new entry next (OfferBusy entry_back next_back) = (entry_back ≡ entry) × (next_back ≡ next) × HasRisen old.busy new.busy
IsOfferRefusal old new entry next (Behind found entry_back next_back) =
    (entry_back ≡ entry) × (next_back ≡ next) × (length old.seen < found) × (found ≤ new.floor)

-- what the answer of an offer says; where the whole list is told, an offer is refused only where it was not all seen
abbrev pub IsOfferAnswer : (old new : Told) → Record → KeptRevision → Result ℕ OfferRefusal → Type 0
IsOfferAnswer old new entry next (Ok number) = IsOffer old new (plain_record entry) number
IsOfferAnswer old new entry next (Err refusal) =
    Stays old new × IsOfferRefusal old new entry next refusal × ((entries : List PlainRecord) → old.whole ≡ Some entries → old.seen ≢ entries)
