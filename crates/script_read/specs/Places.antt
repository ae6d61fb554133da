-- Places in a JSON value, each as a JSON pointer from the value at hand, and the first place where something is refused.
use Rattle.std.specs.Prelude.{ℕ, ◌+◌, List, [], ◌∷◌, ◌++◌, length, Bool, if◌then◌else◌, Option, Some, None, option_map, option_and_then, codes}
use Rattle.std.specs.Fmt.{decimal}
use Rattle.std.specs.Ordering.{nat_cmp, match_ordering}
use Rattle.std.specs.Cmp.Lexicographic.{slice_cmp}
use Rattle.serde_json.specs.Data.{Data, null, boolean, number, string, array, object, Items, no_items, item, Members, no_members, member}
use Rattle.serde_json.specs.Find.{get}
use Rattle.script_read.specs.Members.{items_at}

-- a JSON pointer from the value at hand
abbrev pub Pointer : Type 0
Pointer = List ℕ

-- the value at hand is refused where a test fails
abbrev pub unless : Bool → Option Pointer
unless test = if test then None else Some []

-- a place in the member of that name
abbrev pub at_member : List ℕ → Option Pointer → Option Pointer
at_member name place = option_map (λ pointer. codes "/" ++ name ++ pointer) place

-- a place in the item of that number
abbrev pub at_item : ℕ → Option Pointer → Option Pointer
at_item index place = at_member (decimal index) place

-- the first that there is
abbrev pub first_of : {A : Type 0} → List (Option A) → Option A
first_of [] = None
first_of (None ∷ others) = first_of others
first_of (Some first ∷ others) = Some first

-- where a member is refused; a member that is missing is not
abbrev pub in_member : List ℕ → (Data → Option Pointer) → Data → Option Pointer
in_member name refuse value = at_member name (option_and_then refuse (get name value))

-- a member that is there and fails a test is refused
abbrev pub refused : List ℕ → (Data → Bool) → Data → Option Pointer
refused name test value = in_member name (λ found. unless (test found)) value

-- where the first of some values is refused, each looked at with those before it
abbrev pub first_after : (List Data → Data → Option Pointer) → List Data → List Data → Option Pointer
first_after refuse before [] = None
first_after refuse before (value ∷ values) =
    first_of (at_item (length before) (refuse before value) ∷ first_after refuse (before ++ value ∷ []) values ∷ [])

-- where the first item of a member is refused, each looked at with those before it
abbrev pub in_items : List ℕ → (List Data → Data → Option Pointer) → Data → Option Pointer
in_items name refuse value = at_member name (first_after refuse [] (items_at name value))

abbrev mutual
  -- where the first node of a tree is refused: each node before those below it
  pub in_nodes : (Data → Option Pointer) → Data → Option Pointer
  in_nodes refuse null = None
  in_nodes refuse (boolean b) = None
  in_nodes refuse (number n) = None
  in_nodes refuse (string s) = None
  in_nodes refuse (array nodes) = in_nodes_from refuse 0 nodes
  in_nodes refuse (object fields) = None

  pub in_nodes_from : (Data → Option Pointer) → ℕ → Items → Option Pointer
  in_nodes_from refuse index no_items = None
  in_nodes_from refuse index (item node nodes) = first_of (at_item index (in_node refuse node) ∷ in_nodes_from refuse (index + 1) nodes ∷ [])

  pub in_node : (Data → Option Pointer) → Data → Option Pointer
  in_node refuse null = refuse null
  in_node refuse (boolean b) = refuse (boolean b)
  in_node refuse (number n) = refuse (number n)
  in_node refuse (string s) = refuse (string s)
  in_node refuse (array nodes) = refuse (array nodes)
  in_node refuse (object fields) = first_of (refuse (object fields) ∷ at_member (codes "children") (in_children refuse fields) ∷ [])

  pub in_children : (Data → Option Pointer) → Members → Option Pointer
  in_children refuse no_members = None
  in_children refuse (member name value fields) =
      match_ordering (slice_cmp nat_cmp (codes "children") name) (in_children refuse fields) (in_nodes refuse value) (in_children refuse fields)

-- what is refused in an actor, in a step, and in a node, each by itself
pub record Refusals : Type 0 where
  pub of_actor : Data → Option Pointer
  pub of_step : Data → Option Pointer
  pub of_node : Data → Option Pointer

-- nothing is refused
abbrev pub nowhere : Data → Option Pointer
nowhere value = None

-- where a step, or a node of its tree, is refused
abbrev pub in_step : Refusals → Data → Option Pointer
in_step refusals step = first_of (refusals.of_step step ∷ in_member (codes "tree") (in_nodes refusals.of_node) step ∷ [])

-- where an actor, or one of its steps, is refused
abbrev pub in_actor : Refusals → Data → Option Pointer
in_actor refusals actor = first_of (refusals.of_actor actor ∷ in_items (codes "steps") (λ before step. in_step refusals step) actor ∷ [])

-- where the first of a script's actors is refused
abbrev pub in_actors : Refusals → Data → Option Pointer
in_actors refusals script = in_items (codes "actors") (λ before actor. in_actor refusals actor) script
