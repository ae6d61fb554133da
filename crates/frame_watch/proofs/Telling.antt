-- What watchers hear that are told one after another.
use Rattle.std.proofs.Common.{◌≡◌, ℕ, zero, suc, ◌+◌, List, [], ◌∷◌, ◌<◌, ◌≤◌, length, get_or, set, map, add-one, refl, ap, sym, ◌∙◌, subst, arith, inl, inr}
use Rattle.std.specs.List.{AllZip}
use Rattle.std.proofs.lemmas.List.{get_or-map, length-map, map-set}
use Rattle.frame_watch.specs.declared.watcher.Heard.{Heard}
use Rattle.frame_watch.specs.Watchers.{WatcherView, HearsAll, HearsSome, HasRefused, OneRefused}
use Rattle.frame_watch.proofs.Hearing.{some_of_all, some_of_none}

-- the first so many watchers heard all of the entries, and the others are as they were
abbrev pub AreToldUpto : List Heard → ℕ → (old new : List WatcherView) → Type 0
AreToldUpto entries zero old new = new ≡ old
AreToldUpto entries (suc i) (was ∷ old) (is ∷ new) = HearsAll entries was is × AreToldUpto entries i old new
AreToldUpto entries (suc i) _ _ = ⊥

-- one more heard them all
told_more : (entries : List Heard) (i : ℕ) (old new : List WatcherView) (d w : WatcherView) → i < length new
    → AreToldUpto entries i old new → HearsAll entries (get_or new i d) w → AreToldUpto entries (suc i) old (set new i w)
told_more entries zero old (is ∷ new) d w below same hears = subst (λ old. AreToldUpto entries 1 old (w ∷ new)) same (hears, refl)
told_more entries zero old [] d w below same hears = absurd (omega (arith, below))
told_more entries (suc i) (was ∷ old) (is ∷ new) d w below told hears = (told.0, told_more entries i old new d w (omega (arith, below)) told.1 hears)
told_more entries (suc i) [] new d w below told hears = absurd told
told_more entries (suc i) (was ∷ old) [] d w below told hears = absurd told

-- all heard them
told_all : (entries : List Heard) (i : ℕ) (old new : List WatcherView) → length new ≤ i → AreToldUpto entries i old new → AllZip (HearsAll entries) old new
told_all entries zero old [] most same = subst (λ old. AllZip (HearsAll entries) old []) same tt
told_all entries zero old (is ∷ new) most same = absurd (omega (arith, most))
told_all entries (suc i) (was ∷ old) (is ∷ new) most told = (told.0, told_all entries i old new (omega (arith, most)) told.1)
told_all entries (suc i) [] new most told = absurd told
told_all entries (suc i) (was ∷ old) [] most told = absurd told

-- watchers that are not told hear none
none_told : (entries : List Heard) (views : List WatcherView) → AllZip (HearsSome entries) views views
none_told entries [] = tt
none_told entries (view ∷ views) = (some_of_none entries view, none_told entries views)

-- one refused an entry
told_some : (entries : List Heard) (i : ℕ) (old new : List WatcherView) (d w : WatcherView) → i < length new
    → AreToldUpto entries i old new → HearsSome entries (get_or new i d) w → HasRefused (get_or new i d) w
    → AllZip (HearsSome entries) old (set new i w) × OneRefused old (set new i w)
told_some entries zero old (is ∷ new) d w below same hears refused =
    subst (λ old. AllZip (HearsSome entries) old (w ∷ new) × OneRefused old (w ∷ new)) same ((hears, none_told entries new), inl refused)
told_some entries zero old [] d w below same hears refused = absurd (omega (arith, below))
told_some entries (suc i) (was ∷ old) (is ∷ new) d w below told hears refused =
    let rest = told_some entries i old new d w (omega (arith, below)) told.1 hears refused in
    ((some_of_all entries was is told.0, rest.0), inr rest.1)
told_some entries (suc i) [] new d w below told hears refused = absurd told
told_some entries (suc i) (was ∷ old) [] d w below told hears refused = absurd told

-- the same of things that are seen as watchers
module _ {X : Type 0} (view : X → WatcherView) where
  -- what is seen at a place
  seen : (items : List X) (i : ℕ) (was : X) → i < length items → was ≡ get_or items i was → get_or (map view items) i (view was) ≡ view was
  seen items i was below at = get_or-map view items i was (view was) below ∙ ap view (sym at)

  -- as many are seen
  within : (items : List X) (i : ℕ) → i < length items → i < length (map view items)
  within items i below = omega (arith, below, length-map items view)

  pub one_told : (entries : List Heard) (i : ℕ) (old : List WatcherView) (items : List X) (was is : X) → i < length items → was ≡ get_or items i was
      → AreToldUpto entries i old (map view items) → HearsAll entries (view was) (view is) → AreToldUpto entries (i + 1) old (map view (set items i is))
  one_told entries i old items was is below at told hears =
      rw (map-set view items i is, add-one)
      (told_more entries i old (map view items) (view was) (view is) (within items i below) told (rw (seen items i was below at) hears))

  pub one_refuses : (entries : List Heard) (i : ℕ) (old : List WatcherView) (items : List X) (was is : X) → i < length items → was ≡ get_or items i was
      → AreToldUpto entries i old (map view items) → HearsSome entries (view was) (view is) × HasRefused (view was) (view is)
      → AllZip (HearsSome entries) old (map view (set items i is)) × OneRefused old (map view (set items i is))
  one_refuses entries i old items was is below at told hears =
      rw (map-set view items i is)
      (told_some entries i old (map view items) (view was) (view is) (within items i below) told (rw (seen items i was below at) hears.0) (rw (seen items i was below at) hears.1))

  pub all_told : (entries : List Heard) (i : ℕ) (old : List WatcherView) (items : List X) → length items ≤ i
      → AreToldUpto entries i old (map view items) → AllZip (HearsAll entries) old (map view items)
  all_told entries i old items most told = told_all entries i old (map view items) (omega (arith, most, length-map items view)) told
