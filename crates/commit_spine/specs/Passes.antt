-- What the holder of a pass keeps.
use Rattle.std.specs.Prelude.{◌==◌, ℕ, pos, List, []}
use Rattle.std.specs.List.{count_by}
use Rattle.commit_spine.specs.declared.mark.SpineMark.{SpineMark}
use Rattle.tree_revision.specs.Records.{PlainRecord}

-- the turn that a pass has: none, or one for a look or for an offer.
-- With a turn the pass keeps the history as it was when the turn was taken
pub data Turn : Type 0 where
  no_turn : Turn
  look_turn : List PlainRecord → Turn
  offer_turn : List PlainRecord → Turn

-- the history that is kept with a turn
abbrev pub history_kept : Turn → List PlainRecord
history_kept no_turn = []
history_kept (look_turn history) = history
history_kept (offer_turn history) = history

-- what a pass keeps: its spine's mark; the records that it has seen, and at its last join the
-- shorter of the two lists that were joined; its own admitted records, each with its number; how
-- many more may be admitted; a number that the spine has reached; how often it was found busy, how
-- many of its looks were answered and how many loads it made; its shares of the spine, and its turn
pub record KeptByPass : Type 0 where
  pub mark : SpineMark
  pub seen : List PlainRecord
  pub joined : List PlainRecord
  pub own : List (ℕ × PlainRecord)
  pub permits : ℕ
  pub floor : ℕ
  pub busy : ℕ
  pub looks : ℕ
  pub loads : ℕ
  pub shares : ℕ
  pub turn : Turn

-- how often a number stands among a pass's own records
abbrev pub times_own : ℕ → List (ℕ × PlainRecord) → ℕ
times_own number own = count_by (λ at. at.0 == number) own

-- a pass that has seen nothing, with that mark and so many shares and permits
abbrev pub fresh_pass : SpineMark → (shares permits : ℕ) → KeptByPass
fresh_pass mark shares permits = record {
  mark = mark;
  seen = [];
  joined = [];
  own = [];
  permits = permits;
  floor = 0;
  busy = 0;
  looks = 0;
  loads = 0;
  shares = shares;
  turn = no_turn;
}

-- the mark of no spine
abbrev pub no_mark : SpineMark
no_mark = record { first = record { width = pos 0; height = pos 0 }; room = 0; seats = 0 }

-- what a pass keeps that was joined into another: nothing
abbrev pub joined_away : KeptByPass
joined_away = fresh_pass no_mark 0 0
