-- What is wrong in a script of the right form: each fault at its first place in the order of the document.
use Rattle.std.specs.Prelude.{ℕ, ℤ, pos, List, [], ◌∷◌, ◌++◌, map, length, sum, position, count_by, codes, bytes_eq, Bool, not, ◌&&◌, ◌||◌, nat_eq, nat_le, nat_lt, int_le, nat_abs, if◌then◌else◌, Option, Some, None, is_some, is_none, option_map, option_and_then}
use Rattle.std.specs.List.{list_any, find}
use Rattle.std.specs.Ordering.{int_eq}
use Rattle.serde_json.specs.Data.{Data}
use Rattle.serde_json.specs.Find.{as_null, as_str}
use Rattle.prop_table.specs.Table.{RowRule, v1_rules, v2_rules}
use Rattle.shadow_kinds.specs.Words.{kind_of_word}
use Rattle.tree_revision.specs.Sound.{is_name}
use Rattle.script_read.specs.Members.{has_form, integer_of, integer_in, natural_at, text_in, integer_at, text_at, items_at}
use Rattle.script_read.specs.Places.{Pointer, unless, at_member, first_of, in_member, refused, in_items, nowhere, in_actors}
use Rattle.script_read.specs.Words.{is_version_two}

-- a script is of version 1 or 2
abbrev pub is_known_version : Data → Bool
is_known_version script = nat_eq (natural_at (codes "version") script) 1 || nat_eq (natural_at (codes "version") script) 2

-- how many items a member has
abbrev pub item_count : List ℕ → Data → ℕ
item_count name value = length (items_at name value)

-- how many steps some actors have in all
abbrev pub steps_in_all : List Data → ℕ
steps_in_all actors = sum (map (item_count (codes "steps")) actors)

-- an actor is the first at whose end the steps so far are more than 2,048
abbrev pub over_steps : List Data → Data → Option Pointer
over_steps before actor = at_member (codes "steps") (unless (nat_le (steps_in_all (before ++ actor ∷ [])) 2048))

-- 8 surfaces, 16 actors, 2,048 steps and 65,536 turns at most
abbrev pub too_many : Data → Option Pointer
too_many script = first_of (
    at_member (codes "surfaces") (unless (nat_le (item_count (codes "surfaces") script) 8)) ∷
    at_member (codes "actors") (unless (nat_le (item_count (codes "actors") script) 16)) ∷
    in_items (codes "actors") over_steps script ∷
    at_member (codes "turns") (unless (nat_le (item_count (codes "turns") script) 65536)) ∷
    []
    )

-- one of some actors has that name
abbrev pub is_named : List Data → List ℕ → Bool
is_named actors name = list_any (λ actor. bytes_eq (text_at (codes "name") actor) name) actors

-- an actor has a name, which none of those before it has
abbrev pub bad_name_in : List Data → Data → Option Pointer
bad_name_in before actor =
    at_member (codes "name") (unless (is_name (text_at (codes "name") actor) && not (is_named before (text_at (codes "name") actor))))

abbrev pub bad_name : Data → Option Pointer
bad_name script = in_items (codes "actors") bad_name_in script

-- a number from low to high
abbrev pub is_from : ℤ → ℤ → ℤ → Bool
is_from low high value = int_le low value && int_le value high

-- one of some surfaces has that id
abbrev pub is_surface : List Data → ℤ → Bool
is_surface surfaces id = list_any (λ surface. int_eq (integer_at (codes "id") surface) id) surfaces

-- a width and a height are from 0 to 1,000,000, where they are there
abbrev pub bad_size : Data → Option Pointer
bad_size value = first_of (
    refused (codes "width") (λ width. is_from (pos 0) (pos 1000000) (integer_in width)) value ∷
    refused (codes "height") (λ height. is_from (pos 0) (pos 1000000) (integer_in height)) value ∷
    []
    )

-- a surface has an id from 1 to 1,000,000, which none of those before it has, and a size in range
abbrev pub bad_plan : List Data → Data → Option Pointer
bad_plan before surface = first_of (
    at_member (codes "id")
    (unless (is_from (pos 1) (pos 1000000) (integer_at (codes "id") surface) && not (is_surface before (integer_at (codes "id") surface)))) ∷
    bad_size surface ∷
    []
    )

-- a step is on one of the script's surfaces, and has a size in range where it has one
abbrev pub bad_step : Data → Data → Option Pointer
bad_step script step = first_of (
    at_member (codes "on") (unless (is_surface (items_at (codes "surfaces") script) (integer_at (codes "on") step))) ∷ bad_size step ∷ []
    )

abbrev pub bad_surface : Data → Option Pointer
bad_surface script = first_of (
    in_items (codes "surfaces") bad_plan script ∷
    in_actors (record { of_actor = nowhere; of_step = bad_step script; of_node = nowhere }) script ∷
    []
    )

-- the kind of a node, where it has one, is one of the five words
abbrev pub no_kind : Data → Option Pointer
no_kind node = refused (codes "kind") (λ kind. is_some (kind_of_word (text_in kind))) node

abbrev pub bad_kind : Data → Option Pointer
bad_kind script = in_actors (record { of_actor = nowhere; of_step = nowhere; of_node = no_kind }) script

-- the table of a script's version
abbrev pub rules_for : (two : Bool) → List RowRule
rules_for two = if two then v2_rules else v1_rules

-- a row takes a number in its range, and stands empty where it may begin so
abbrev pub takes : RowRule → Option ℤ → Bool
takes rule None = is_none rule.start
takes rule (Some value) = is_from rule.low rule.high value

-- what a value says of a row: an integer, or null for an empty row; None where it says neither
abbrev pub row_value : Data → Option (Option ℤ)
row_value value = if is_some (as_null value) then Some None else option_map Some (integer_of value)

-- what a value says of a row, where the row takes it
abbrev pub taken : RowRule → Data → Option (Option ℤ)
taken rule value = option_and_then (λ number. if takes rule number then Some number else None) (row_value value)

-- the first row, in the table's order, that does not take what an object says of it
abbrev pub bad_row : List RowRule → Data → Option Pointer
bad_row [] props = None
bad_row (rule ∷ rules) props = first_of (refused rule.name (λ value. is_some (taken rule value)) props ∷ bad_row rules props ∷ [])

-- a text of at most 256 bytes
abbrev pub label_of : Data → Option (List ℕ)
label_of value = option_and_then (λ text. if nat_le (length text) 256 then Some text else None) (as_str value)

-- an object of props: it names rows and "label" alone, each row takes what is said of it, and the label is a short text
abbrev pub bad_props : List RowRule → Data → Option Pointer
bad_props rules props = first_of (
    unless (has_form [] (codes "label" ∷ map (λ rule. rule.name) rules) props) ∷
    bad_row rules props ∷
    refused (codes "label") (λ label. is_some (label_of label)) props ∷
    []
    )

-- the props of a node or a step, where there are any
abbrev pub bad_props_in : (two : Bool) → Data → Option Pointer
bad_props_in two value = in_member (codes "props") (bad_props (rules_for two)) value

abbrev pub bad_prop : Data → Option Pointer
bad_prop script =
    in_actors (record { of_actor = nowhere; of_step = bad_props_in (is_version_two script); of_node = bad_props_in (is_version_two script) }) script

-- a tag is from 1 to 2,147,483,647
abbrev pub is_tag : Data → Bool
is_tag value = is_from (pos 1) (pos 2147483647) (integer_in value)

-- the tag of a node or a step, where there is one, whether it is written or kept
abbrev pub bad_tag_in : Data → Option Pointer
bad_tag_in value = first_of (refused (codes "tag") is_tag value ∷ refused (codes "keep") is_tag value ∷ [])

abbrev pub bad_tag : Data → Option Pointer
bad_tag script = in_actors (record { of_actor = nowhere; of_step = bad_tag_in; of_node = bad_tag_in }) script

-- a step mounts a surface
abbrev pub is_mount_on : Data → Data → Bool
is_mount_on surface step =
    bytes_eq (text_at (codes "do") step) (codes "mount") && int_eq (integer_at (codes "on") step) (integer_at (codes "id") surface)

-- how many actors have steps that mount a surface
abbrev pub mounter_count : Data → Data → ℕ
mounter_count script surface = count_by (λ actor. list_any (is_mount_on surface) (items_at (codes "steps") actor)) (items_at (codes "actors") script)

-- two actors mount a surface
abbrev pub is_shared : Data → Data → Bool
is_shared script surface = nat_lt 1 (mounter_count script surface)

-- the id of the first surface that two actors mount
abbrev pub two_mounters : Data → Option ℕ
two_mounters script = option_map (natural_at (codes "id")) (find (is_shared script) (items_at (codes "surfaces") script))

-- a turn is the number of an actor
abbrev pub is_turn : Data → Data → Bool
is_turn script turn = int_le (pos 0) (integer_in turn) && nat_lt (nat_abs (integer_in turn)) (item_count (codes "actors") script)

-- the position of the first turn that is no actor's number
abbrev pub bad_turn : Data → Option ℕ
bad_turn script = position (λ turn. not (is_turn script turn)) (items_at (codes "turns") script)
