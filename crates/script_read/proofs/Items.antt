-- The items of an array, and where the first of them is refused.
use Rattle.std.proofs.Common.{◌≡◌, ℕ, ◌+◌, ◌<◌, ◌≤◌, List, [], ◌∷◌, ◌++◌, length, get_or, take, drop, arith, refl, ap, sym, ◌∙◌}
use Rattle.std.proofs.Math.ListN.{drop_of_length-le}
use Rattle.std.proofs.lemmas.List.{take_more, map-append, length-map}
use Rattle.std.proofs.Common.{length-take}
use Rattle.std.specs.Prelude.{Option, Some, None, map}
use Rattle.serde_json.specs.Data.{Data, null, boolean, number, string, array, object}
use Rattle.serde_json.specs.Find.{as_array}
use Rattle.serde_json.specs.View.{view, items_view}
use Rattle.serde_json.specs.declared.value.Value.{Value}
use Rattle.script_read.specs.Members.{item_list, items_in}
use Rattle.script_read.specs.Places.{Pointer, first_of, at_item, first_after}
use Rattle.script_read.proofs.Lists.{first_two, left_of}

-- the items of an array as a list
pub item_list-view : (xs : List Value) → item_list (items_view xs) ≡ map view xs
item_list-view [] = refl
item_list-view (x ∷ xs) = ap (λ rest. view x ∷ rest) (item_list-view xs)

-- what an array lists
pub array_items : (d : Data) (xs : List Value) → Some (items_view xs) ≡ as_array d → map view xs ≡ items_in d
array_items (array ds) xs h = let e : items_view xs ≡ ds = cc in rw (← e, item_list-view xs) refl
array_items null xs h = cc
array_items (boolean b) xs h = cc
array_items (number n) xs h = cc
array_items (string s) xs h = cc
array_items (object ms) xs h = cc

-- the search from the item at hand on
pub after_step : (refuse : List Data → Data → Option Pointer) (xs : List Value) (i : ℕ) (d : Value) → i < length xs → d ≡ get_or xs i d
    → first_after refuse (map view (take i xs)) (map view (drop i xs))
    ≡ first_of (at_item i (refuse (map view (take i xs)) (view d)) ∷ first_after refuse (map view (take (i + 1) xs)) (map view (drop (i + 1) xs)) ∷ [])
after_step refuse xs i d h e =
    let n : length (map view (take i xs)) ≡ i = simp (length-map, length-take) (omega arith) in
    let t : map view (take (i + 1) xs) ≡ map view (take i xs) ++ view d ∷ [] = rw (take_more xs i d h, ← e) (map-append view (take i xs) (d ∷ [])) in
    rw (left_of xs i d h e, t)
    (ap (λ index. first_of (at_item index (refuse (map view (take i xs)) (view d))
    ∷ first_after refuse (map view (take i xs) ++ view d ∷ []) (map view (drop (i + 1) xs)) ∷ [])) n)

-- the item at hand is not refused
pub after_more : (refuse : List Data → Data → Option Pointer) (xs : List Value) (i : ℕ) (d : Value) (place : Option Pointer) → i < length xs → d ≡ get_or xs i d
    → place ≡ at_item i (refuse (map view (take i xs)) (view d)) → place ≡ None
    → first_after refuse (map view (take i xs)) (map view (drop i xs)) ≡ first_after refuse (map view (take (i + 1) xs)) (map view (drop (i + 1) xs))
after_more refuse xs i d place h e p n =
    after_step refuse xs i d h e
    ∙ first_two (at_item i (refuse (map view (take i xs)) (view d))) (first_after refuse (map view (take (i + 1) xs)) (map view (drop (i + 1) xs))) (sym p ∙ n)

-- the item at hand is refused
pub after_found : (refuse : List Data → Data → Option Pointer) (xs : List Value) (i : ℕ) (d : Value) (place : Option Pointer) (pointer : Pointer)
    → i < length xs → d ≡ get_or xs i d → place ≡ at_item i (refuse (map view (take i xs)) (view d)) → place ≡ Some pointer
    → first_after refuse (map view (take i xs)) (map view (drop i xs)) ≡ Some pointer
after_found refuse xs i d place pointer h e p s = after_step refuse xs i d h e ∙ (rw (← p, s) refl)

-- no item was refused
pub after_end : (refuse : List Data → Data → Option Pointer) (xs : List Value) (i : ℕ) → length xs ≤ i
    → first_after refuse (map view (take i xs)) (map view (drop i xs)) ≡ None
after_end refuse xs i h = rw (drop_of_length-le xs h) refl
