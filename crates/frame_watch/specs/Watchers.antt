-- What is told of a watcher, and what it hears.
use Rattle.std.specs.Prelude.{◌≡◌, ℕ, ◌≤◌, ◌⊎◌, List, [], ◌∷◌, ◌++◌, map, take, length, Option, Some, None, Result, Ok, Err}
use Rattle.std.specs.List.{AllZip}
use Rattle.std.specs.declared.alloc.AllocError.{AllocError}
use Rattle.counts.specs.Raised.{HasRisen}
use Rattle.frame_watch.specs.declared.FrameChange.{FrameChange}
use Rattle.frame_watch.specs.declared.watcher.Heard.{Heard}

-- what it heard, where that is told, in its order; and the count of refusals
pub record WatcherView : Type 0 where
  pub heard : Option (List Heard)
  pub refusals : ℕ

-- changes of frames, with the surface and the number of the revision that stands mounted there from now on
abbrev pub entries_of : (surface to : ℕ) → List FrameChange → List Heard
entries_of surface to list = map (λ change. record { surface = surface; to = to; change = change }) list

-- the told entries, and then more
abbrev pub plus : Option (List Heard) → List Heard → Option (List Heard)
plus None entries = None
plus (Some heard) entries = Some (heard ++ entries)

-- all of the entries are added in their order, and the count does not fall
pub record HearsAll (entries : List Heard) (old new : WatcherView) : Type 0 where
  pub heard : new.heard ≡ plus old.heard entries
  pub refusals : old.refusals ≤ new.refusals

-- the first of the entries are added, none or all perhaps, and the count does not fall
pub record HearsSome (entries : List Heard) (old new : WatcherView) : Type 0 where
  pub upto : ℕ
  pub within : upto ≤ length entries
  pub heard : new.heard ≡ plus old.heard (take upto entries)
  pub refusals : old.refusals ≤ new.refusals

-- the count of refusals rose
abbrev pub HasRefused : (old new : WatcherView) → Type 0
HasRefused old new = HasRisen old.refusals new.refusals

-- nothing is added, and the count of refusals rose
pub record Refuses (old new : WatcherView) : Type 0 where
  pub heard : new.heard ≡ old.heard
  pub rose : HasRefused old new
  pub refusals : old.refusals ≤ new.refusals

-- what a watcher hears of one entry: it is added, or refused
abbrev pub Hears : Heard → (old new : WatcherView) → Result (Unit {0}) AllocError → Type 0
Hears entry old new (Ok _) = HearsAll (entry ∷ []) old new
Hears entry old new (Err _) = Refuses old new

-- what one watcher hears of entries: all, or, where it refused one, the first of them
abbrev pub HearsEach : List Heard → (old new : WatcherView) → Result (Unit {0}) AllocError → Type 0
HearsEach entries old new (Ok _) = HearsAll entries old new
HearsEach entries old new (Err _) = HearsSome entries old new × HasRefused old new

-- the count of refusals of one of the watchers rose
abbrev pub OneRefused : (old new : List WatcherView) → Type 0
OneRefused (was ∷ old) (is ∷ new) = HasRefused was is ⊎ OneRefused old new
OneRefused _ _ = ⊥

-- what watchers hear of entries: each all of them, or, where one refused, each the first of them
abbrev pub AreTold : List Heard → (old new : List WatcherView) → Result (Unit {0}) AllocError → Type 0
AreTold entries old new (Ok _) = AllZip (HearsAll entries) old new
AreTold entries old new (Err _) = AllZip (HearsSome entries) old new × OneRefused old new
