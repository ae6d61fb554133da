-- Lists of JSON values, item by item.
use Rattle.std.proofs.Common.{◌≡◌, ℕ, ◌+◌, ◌<◌, ◌≤◌, List, [], ◌∷◌, ◌++◌, map, length, All, subst, get_or, take, take_all, refl, ap, sym, ◌∙◌}
use Rattle.std.proofs.lemmas.List.{take_more, map-append}
use Rattle.std.specs.Prelude.{Bool, true, false}
use Rattle.std.specs.Str.{is_utf8, IsUtf8}
use Rattle.std.proofs.lemmas.List.Elements.{All-map}
use Rattle.std.proofs.lemmas.Str.{IsUtf8-from_is_utf8}
use Rattle.std.proofs.lemmas.Simd.{map-map}
use Rattle.serde_json.specs.Data.{Data, Items, no_items, item}
use Rattle.serde_json.specs.View.{view, items_of, items_view}
use Rattle.serde_json.specs.declared.value.Value.{Value}

-- one value more
pub value_pushed : {X : Type 0} (json : X → Data) (xs : List X) (i : ℕ) (x : X) (vs ws : List Value) (v : Value) → i < length xs → x ≡ get_or xs i x
    → view v ≡ json x → ws ≡ vs ++ v ∷ [] → map view vs ≡ map json (take i xs) → map view ws ≡ map json (take (i + 1) xs)
value_pushed json xs i x vs ws v within is here pushed before =
    rw (pushed, map-append view vs (v ∷ []), take_more xs i x within, map-append json (take i xs) (get_or xs i x ∷ []), before, here, ← is) refl

-- the same where the item is read from the list
pub copy_pushed : {X : Type 0} (json : X → Data) (xs : List X) (i : ℕ) (d : X) (vs ws : List Value) (v : Value) → i < length xs → view v ≡ json (get_or xs i d)
    → ws ≡ vs ++ v ∷ [] → map view vs ≡ map json (take i xs) → map view ws ≡ map json (take (i + 1) xs)
copy_pushed json xs i d vs ws v within here pushed before =
    rw (pushed, map-append view vs (v ∷ []), take_more xs i d within, map-append json (take i xs) (get_or xs i d ∷ []), before, here) refl

-- all values
pub all_values : {X : Type 0} (json : X → Data) (xs : List X) (i : ℕ) (vs : List Value) → length xs ≤ i → map view vs ≡ map json (take i xs)
    → items_view vs ≡ items_of (map json xs)
all_values json xs i vs past before = ap items_of (before ∙ ap (map json) (take_all i xs past))

-- the same where what is written is first made plain
pub all_plain_values : {X Y : Type 0} (json : Y → Data) (plain : X → Y) (xs : List X) (i : ℕ) (vs : List Value) → length xs ≤ i
    → map view vs ≡ map (λ x. json (plain x)) (take i xs) → items_view vs ≡ items_of (map json (map plain xs))
all_plain_values json plain xs i vs past before =
    all_values (λ x. json (plain x)) xs i vs past before ∙ ap items_of (sym (map-map json plain xs))

-- items, and then others
abbrev pub items_then : List Data → Items → Items
items_then [] others = others
items_then (d ∷ ds) others = item d (items_then ds others)

pub items_then-pushed : (ds : List Data) (d : Data) (others : Items) → items_then (ds ++ d ∷ []) others ≡ items_then ds (item d others)
items_then-pushed [] d others = refl
items_then-pushed (first ∷ ds) d others = ap (item first) (items_then-pushed ds d others)

pub items_then-none : (ds : List Data) → items_then ds no_items ≡ items_of ds
items_then-none [] = refl
items_then-none (d ∷ ds) = ap (item d) (items_then-none ds)

no_text_by : (bytes : List ℕ) (b : Bool) → is_utf8 bytes ≡ b → (IsUtf8 bytes → ⊥) → b ≡ false
no_text_by bytes true e n = absurd (n (IsUtf8-from_is_utf8 bytes e))
no_text_by bytes false e n = refl

-- what is not UTF-8 does not pass the test
pub no_text : (bytes : List ℕ) → (IsUtf8 bytes → ⊥) → is_utf8 bytes ≡ false
no_text bytes n = no_text_by bytes (is_utf8 bytes) refl n

-- what holds of all that are taken holds of all that are made plain
pub all_fit : {X Y : Type 0} (plain : X → Y) (P : Y → Type 0) (xs : List X) (i : ℕ) → length xs ≤ i → All (λ x. P (plain x)) (take i xs) → All P (map plain xs)
all_fit plain P xs i past a = All-map P plain xs (subst (All (λ x. P (plain x))) (take_all i xs past) a)
