-- What is heard of one entry after another.
use Rattle.std.proofs.Common.{◌≡◌, ℕ, ◌+◌, List, [], ◌∷◌, ◌++◌, ◌<◌, length, take, get_or, add-one, append_assoc, append-nil, refl, ap, sym, ◌∙◌, arith}
use Rattle.std.specs.Prelude.{Option, Some, None}
use Rattle.std.proofs.lemmas.List.{map-append, take-map, length-map}
use Rattle.std.proofs.Math.Seq.{take-length, take-suc}
use Rattle.frame_watch.specs.declared.FrameChange.{FrameChange}
use Rattle.frame_watch.specs.declared.watcher.Heard.{Heard}
use Rattle.frame_watch.specs.Watchers.{WatcherView, entries_of, plus, HearsAll, HearsSome, Refuses, HasRefused}

-- some entries, and then others
plus_plus : (heard : Option (List Heard)) (first then : List Heard) → plus (plus heard first) then ≡ plus heard (first ++ then)
plus_plus None first then = refl
plus_plus (Some heard) first then = ap Some (append_assoc heard first then)

-- no entry
plus_none : (heard : Option (List Heard)) → heard ≡ plus heard []
plus_none None = refl
plus_none (Some heard) = ap Some (sym (append-nil heard))

-- a change as an entry
abbrev entry_with : (surface to : ℕ) → FrameChange → Heard
entry_with surface to change = record { surface = surface; to = to; change = change }

-- one more entry was heard
pub one_heard : (surface to : ℕ) (list : List FrameChange) (i : ℕ) (d : FrameChange) (a b c : WatcherView) → i < length list
    → HearsAll (entries_of surface to (take i list)) a b → HearsAll (record { surface = surface; to = to; change = get_or list i d } ∷ []) b c
    → HearsAll (entries_of surface to (take (i + 1) list)) a c
one_heard surface to list i d a b c below so_far more =
    let split : entries_of surface to (take (i + 1) list) ≡ entries_of surface to (take i list) ++ entries_of surface to (get_or list i d ∷ []) =
    ap (entries_of surface to) (ap (λ n. take n list) (add-one i) ∙ take-suc list i d below) ∙ map-append (entry_with surface to) (take i list) (get_or list i d ∷ [])
    in
    record {
      heard = more.heard ∙ ap (λ heard. plus heard (entries_of surface to (get_or list i d ∷ []))) so_far.heard
          ∙ plus_plus a.heard (entries_of surface to (take i list)) (entries_of surface to (get_or list i d ∷ [])) ∙ ap (plus a.heard) (sym split);
      refusals = omega (arith, so_far.refusals, more.refusals);
    }

-- one entry was refused
pub one_refused : (surface to : ℕ) (list : List FrameChange) (i : ℕ) (a b c : WatcherView) → i < length list
    → HearsAll (entries_of surface to (take i list)) a b → Refuses b c
    → HearsSome (entries_of surface to list) a c × HasRefused a c
one_refused surface to list i a b c below so_far refuses = (
  record {
    upto = i;
    within = omega (arith, below, length-map list (entry_with surface to));
    heard = refuses.heard ∙ so_far.heard ∙ ap (plus a.heard) (sym (take-map (entry_with surface to) i list));
    refusals = omega (arith, so_far.refusals, refuses.refusals);
  },
  omega (arith, so_far.refusals, refuses.rose),
)

-- who heard all heard some
pub some_of_all : (entries : List Heard) (a b : WatcherView) → HearsAll entries a b → HearsSome entries a b
some_of_all entries a b hears = record {
  upto = length entries;
  within = omega arith;
  heard = hears.heard ∙ ap (plus a.heard) (sym (take-length entries));
  refusals = hears.refusals;
}

-- so did who heard none
pub some_of_none : (entries : List Heard) (a : WatcherView) → HearsSome entries a a
some_of_none entries a = record { upto = 0; within = omega arith; heard = plus_none a.heard; refusals = omega arith }
