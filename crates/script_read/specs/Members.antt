-- What a JSON value has under a name. Where it has nothing of the form that is asked for, which is a fault of its own, 0 or something empty stands.
use Rattle.std.specs.Prelude.{ℕ, ◌+◌, ◌^◌, ℤ, pos, negsuc, List, [], ◌∷◌, length, count_by, slice_index_or, Bool, ◌&&◌, nat_eq, nat_lt, if◌then◌else◌, Option, is_some, option_map, option_and_then, unwrap_or}
use Rattle.serde_json.specs.Data.{Data, null, Items, no_items, item, Members, no_members, member}
use Rattle.serde_json.specs.Find.{get, as_number, as_i64, as_str, as_array, as_object}

-- items as a list
abbrev pub item_list : Items → List Data
item_list no_items = []
item_list (item value values) = value ∷ item_list values

-- how many members there are
abbrev pub member_count : Members → ℕ
member_count no_members = 0
member_count (member name value others) = member_count others + 1

-- how many of some names are those of members
abbrev pub names_found : List (List ℕ) → Data → ℕ
names_found names value = count_by (λ name. is_some (get name value)) names

-- a value is an object that has all of some members, and beside them only such as may be missing
abbrev pub has_form : List (List ℕ) → List (List ℕ) → Data → Bool
has_form required optional value =
    is_some (as_object value) && nat_eq (names_found required value) (length required)
    && nat_eq (unwrap_or (option_map member_count (as_object value)) 0) (length required + names_found optional value)

-- the integer that a value is
abbrev pub integer_of : Data → Option ℤ
integer_of value = option_and_then as_i64 (as_number value)

-- the integer of a value
abbrev pub integer_in : Data → ℤ
integer_in value = unwrap_or (integer_of value) (pos 0)

-- a number below 2^32; any other is as 0
abbrev pub natural_of : ℤ → ℕ
natural_of (pos n) = if nat_lt n (2 ^ 32) then n else 0
natural_of (negsuc n) = 0

-- the number below 2^32 of a value
abbrev pub natural_in : Data → ℕ
natural_in value = natural_of (integer_in value)

-- the text of a value
abbrev pub text_in : Data → List ℕ
text_in value = unwrap_or (as_str value) []

-- the items of a value
abbrev pub items_in : Data → List Data
items_in value = unwrap_or (option_map item_list (as_array value)) []

-- the value of a member
abbrev pub member_at : List ℕ → Data → Data
member_at name value = unwrap_or (get name value) null

-- the integer of a member
abbrev pub integer_at : List ℕ → Data → ℤ
integer_at name value = integer_in (member_at name value)

-- the number below 2^32 of a member
abbrev pub natural_at : List ℕ → Data → ℕ
natural_at name value = natural_in (member_at name value)

-- the text of a member
abbrev pub text_at : List ℕ → Data → List ℕ
text_at name value = text_in (member_at name value)

-- the items of a member
abbrev pub items_at : List ℕ → Data → List Data
items_at name value = items_in (member_at name value)

-- the item of that number
abbrev pub item_in : ℕ → Data → Data
item_in index value = slice_index_or (items_in value) index null
