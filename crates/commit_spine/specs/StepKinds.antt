-- What a pass keeps after each kind of step. No step changes what another pass keeps, but a split
-- and a join, which change what two passes keep. With n for the number of records of the history:
--
--   step                             case                      kept afterwards
--   load of the number               any word                  after_load
--   load for a look                  any word                  after_load_for_look
--   take for a look, 2n to 2n + 1    it found 2n               after_take_for_look
--                                    it found another word     after_lost_look
--   take for an offer, 2n to 2n + 1  it found 2n, all seen     after_take_for_offer
--                                    it found another word     after_lost_offer
--   store of 2n                      the look is answered      after_answered_look
--                                    there was no memory       after_look_in_vain
--   store of 2n + 2                  the offer is admitted     after_admitted_offer
--   split                            the pass                  after_split
--                                    the new pass              split_off
--   join                             the pass                  after_join
--                                    the other pass            joined_away
use Rattle.std.specs.Prelude.{◌==◌, ℕ, ◌+◌, ◌-◌, ◌/◌, ◌%◌, List, [], ◌∷◌, ◌++◌, cond, leb, length, max}
use Rattle.counts.specs.Raised.{raised}
use Rattle.tree_revision.specs.Records.{PlainRecord}
use Rattle.commit_spine.specs.Passes.{KeptByPass, no_turn, look_turn, offer_turn}

-- of two lists the longer, and the other
abbrev pub longer_of : (us vs : List PlainRecord) → List PlainRecord
longer_of us vs = cond (leb (length us) (length vs)) vs us

abbrev pub shorter_of : (us vs : List PlainRecord) → List PlainRecord
shorter_of us vs = cond (leb (length us) (length vs)) us vs

-- after a load of the word, for its number
abbrev pub after_load : KeptByPass → (word : ℕ) → KeptByPass
after_load kept word = record kept { floor = word / 2; loads = raised kept.loads 1 }

-- after a load of the word for a look: an odd word is busy
abbrev pub after_load_for_look : KeptByPass → (word : ℕ) → KeptByPass
after_load_for_look kept word = record kept {
  floor = word / 2;
  loads = raised kept.loads 1;
  busy = raised kept.busy (word % 2);
}

-- after an exchange that took the turn for a look
abbrev pub after_take_for_look : KeptByPass → (history : List PlainRecord) → KeptByPass
after_take_for_look kept history = record kept { floor = length history; turn = look_turn history }

-- after an exchange for a look that found another word: an odd word is busy
abbrev pub after_lost_look : KeptByPass → (word : ℕ) → KeptByPass
after_lost_look kept word = record kept { floor = word / 2; busy = raised kept.busy (word % 2) }

-- after an exchange that took the turn for an offer
abbrev pub after_take_for_offer : KeptByPass → (history : List PlainRecord) → KeptByPass
after_take_for_offer kept history = record kept { turn = offer_turn history }

-- after an exchange for an offer that found another word: the number seen is busy with the turn out
abbrev pub after_lost_offer : KeptByPass → (word : ℕ) → KeptByPass
after_lost_offer kept word = record kept {
  floor = word / 2;
  busy = raised kept.busy (cond (word == length kept.seen + length kept.seen + 1) 1 0);
}

-- after the store that gives the turn back behind a look that is answered
abbrev pub after_answered_look : KeptByPass → (history : List PlainRecord) → KeptByPass
after_answered_look kept history = record kept {
  seen = history;
  looks = raised kept.looks 1;
  turn = no_turn;
}

-- after the store that gives the turn back behind a look that found no memory
abbrev pub after_look_in_vain : KeptByPass → KeptByPass
after_look_in_vain kept = record kept { turn = no_turn }

-- after the store that gives the turn back behind an offer, with its record
abbrev pub after_admitted_offer : KeptByPass → (history : List PlainRecord) → PlainRecord → KeptByPass
after_admitted_offer kept history entry = record kept {
  seen = history ++ entry ∷ [];
  own = kept.own ++ (length history + 1, entry) ∷ [];
  permits = kept.permits - 1;
  floor = length history + 1;
  turn = no_turn;
}

-- after a split that gave so many permits and one share away
abbrev pub after_split : (permits : ℕ) → KeptByPass → KeptByPass
after_split permits kept = record kept {
  permits = kept.permits - permits;
  shares = kept.shares - 1;
}

-- the new pass of a split: it has seen as much, and has no records of its own
abbrev pub split_off : (permits : ℕ) → KeptByPass → KeptByPass
split_off permits kept = record kept {
  own = [];
  permits = permits;
  busy = 0;
  looks = 0;
  loads = 0;
  shares = 1;
  turn = no_turn;
}

-- after a join with another pass
abbrev pub after_join : (kept gone : KeptByPass) → KeptByPass
after_join kept gone = record kept {
  seen = longer_of kept.seen gone.seen;
  joined = shorter_of kept.seen gone.seen;
  own = kept.own ++ gone.own;
  permits = kept.permits + gone.permits;
  floor = max kept.floor gone.floor;
  busy = raised kept.busy gone.busy;
  looks = raised kept.looks gone.looks;
  loads = raised kept.loads gone.loads;
  shares = kept.shares + gone.shares;
}
