-- A watcher that keeps what it hears in memory.
use Rattle.std.specs.Prelude.{◌≡◌, ℕ, List, [], ◌∷◌, ◌++◌, Some, Result, Ok, Err}
use Rattle.std.specs.declared.alloc.AllocError.{AllocError}
use Rattle.counts.specs.Raised.{raised}
use Rattle.frame_watch.specs.declared.watcher.Heard.{Heard}
use Rattle.frame_watch.specs.Watchers.{WatcherView}

-- what it heard, in its order, and the count of refusals
pub record MemoryWatcherState : Type 0 where
  pub heard : List Heard
  pub refusals : ℕ

-- what it tells as a watcher
abbrev pub watcher_view_of : MemoryWatcherState → WatcherView
watcher_view_of state = record { heard = Some state.heard; refusals = state.refusals }

-- what it keeps of one entry: the entry at the end, or, without memory, one more refusal
abbrev pub Keeps : Heard → (old new : MemoryWatcherState) → Result (Unit {0}) AllocError → Type 0
Keeps entry old new (Ok _) = new ≡ record old { heard = old.heard ++ entry ∷ [] }
Keeps entry old new (Err _) = new ≡ record old { refusals = raised old.refusals 1 }
