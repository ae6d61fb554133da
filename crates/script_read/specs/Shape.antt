-- Where a value first departs from the form of a script: an object before its members, and these in the order of the grammar.
use Rattle.std.specs.Prelude.{ℕ, pos, [], ◌∷◌, length, codes, Bool, false, ◌&&◌, ◌||◌, nat_eq, int_le, Option, is_some, option_map, unwrap_or}
use Rattle.serde_json.specs.Data.{Data}
use Rattle.serde_json.specs.Find.{get, as_str, as_array, as_object}
use Rattle.script_read.specs.Members.{has_form, integer_of, integer_in, items_in, item_in, text_at}
use Rattle.script_read.specs.Places.{Pointer, Refusals, unless, at_item, first_of, in_member, refused, first_after, in_items, in_actors}
use Rattle.script_read.specs.Words.{is_version_two, step_word, has_step_form}
use Rattle.script_read.specs.declared.words.Word.{Word}

abbrev pub is_integer : Data → Bool
is_integer value = is_some (integer_of value)

abbrev pub is_text : Data → Bool
is_text value = is_some (as_str value)

abbrev pub is_array : Data → Bool
is_array value = is_some (as_array value)

abbrev pub is_object : Data → Bool
is_object value = is_some (as_object value)

-- an array of that many items
abbrev pub has_items : ℕ → Data → Bool
has_items count value = is_array value && nat_eq (length (items_in value)) count

-- each item is an integer
abbrev pub not_integers : Data → Option Pointer
not_integers value = first_after (λ before item. unless (is_integer item)) [] (items_in value)

-- a point has an x and a y
abbrev pub misshapen_point : Data → Option Pointer
misshapen_point value = first_of (unless (has_items 2 value) ∷ not_integers value ∷ [])

-- a count is an integer that is not negative
abbrev pub is_count : Data → Bool
is_count value = is_integer value && int_le (pos 0) (integer_in value)

-- a conditional change has a count, an x and a y
abbrev pub misshapen_set_if : Data → Option Pointer
misshapen_set_if value = first_of (unless (has_items 3 value) ∷ at_item 0 (unless (is_count (item_in 0 value))) ∷ not_integers value ∷ [])

-- a node is written out, with a tag and a kind, or it is kept
abbrev pub has_node_form : Data → Bool
has_node_form node =
    has_form (codes "tag" ∷ codes "kind" ∷ []) (codes "props" ∷ codes "children" ∷ []) node
    || has_form (codes "keep" ∷ []) (codes "props" ∷ codes "children" ∷ []) node

-- a node, those below it aside
abbrev pub misshapen_node : Data → Option Pointer
misshapen_node node = first_of (
    unless (has_node_form node) ∷
    refused (codes "tag") is_integer node ∷
    refused (codes "keep") is_integer node ∷
    refused (codes "kind") is_text node ∷
    refused (codes "props") is_object node ∷
    refused (codes "children") is_array node ∷
    []
    )

-- the word of a step; None where it is unknown or no text
abbrev pub word_in : (two : Bool) → Data → Option Word
word_in two step = step_word two (text_at (codes "do") step)

-- what a step changes, whatever its word: the members after its surface and its tag
abbrev pub misshapen_change : Data → Option Pointer
misshapen_change step = first_of (
    in_member (codes "set") misshapen_point step ∷
    in_member (codes "add") misshapen_point step ∷
    in_member (codes "set_if") misshapen_set_if step ∷
    refused (codes "tree") is_array step ∷
    refused (codes "props") is_object step ∷
    refused (codes "width") is_integer step ∷
    refused (codes "height") is_integer step ∷
    []
    )

-- a step, the nodes of its tree aside: it has "do" and "on", "do" is a known word, and the members are those of the word
abbrev pub misshapen_step : (two : Bool) → Data → Option Pointer
misshapen_step two step = first_of (
    unless (is_some (get (codes "do") step) && is_some (get (codes "on") step)) ∷
    refused (codes "do") (λ word. is_some (word_in two step)) step ∷
    unless (unwrap_or (option_map (λ word. has_step_form word step) (word_in two step)) false) ∷
    refused (codes "on") is_integer step ∷
    refused (codes "tag") is_integer step ∷
    misshapen_change step ∷
    []
    )

-- an actor, its steps aside
abbrev pub misshapen_actor : Data → Option Pointer
misshapen_actor actor = first_of (
    unless (has_form (codes "name" ∷ codes "steps" ∷ []) [] actor) ∷
    refused (codes "name") is_text actor ∷
    refused (codes "steps") is_array actor ∷
    []
    )

abbrev pub misshapen_surface : Data → Option Pointer
misshapen_surface surface = first_of (
    unless (has_form (codes "id" ∷ codes "width" ∷ codes "height" ∷ []) [] surface) ∷
    refused (codes "id") is_integer surface ∷
    refused (codes "width") is_integer surface ∷
    refused (codes "height") is_integer surface ∷
    []
    )

-- the form of actors, steps and nodes
abbrev pub misshapen : (two : Bool) → Refusals
misshapen two = record { of_actor = misshapen_actor; of_step = misshapen_step two; of_node = misshapen_node }

abbrev pub misshapen_script : Data → Option Pointer
misshapen_script script = first_of (
    unless (has_form (codes "version" ∷ codes "surfaces" ∷ codes "actors" ∷ codes "turns" ∷ []) [] script) ∷
    refused (codes "version") is_integer script ∷
    refused (codes "surfaces") is_array script ∷
    in_items (codes "surfaces") (λ before surface. misshapen_surface surface) script ∷
    refused (codes "actors") is_array script ∷
    in_actors (misshapen (is_version_two script)) script ∷
    refused (codes "turns") is_array script ∷
    in_member (codes "turns") not_integers script ∷
    []
    )
