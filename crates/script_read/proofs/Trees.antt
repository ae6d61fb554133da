-- The nodes of a tree, by the items and members that they are.
use Rattle.std.proofs.Common.{◌≡◌, ℕ, suc, zero, ◌+◌, ◌<◌, ◌≤◌, List, [], ◌∷◌, ◌++◌, length, get_or, arith, refl, ap, sym, ◌∙◌, length-append}
use Rattle.std.proofs.Math.ListN.{get_or-map}
use Rattle.std.proofs.lemmas.List.{length-map}
use Rattle.std.specs.Prelude.{Option, Some, option_and_then, codes, max, map}
use Rattle.std.specs.declared.cmp.Ordering.TheVariants.{Less, Equal, Greater}
use Rattle.std.specs.Ordering.{nat_cmp, match_ordering}
use Rattle.std.specs.Cmp.Lexicographic.{slice_cmp}
use Rattle.serde_json.specs.Data.{Data, null, boolean, number, string, array, object, Items, no_items, item, Members, no_members, member, depth, items_depth, members_depth}
use Rattle.serde_json.specs.Find.{get, get_member}
use Rattle.serde_json.specs.View.{view}
use Rattle.serde_json.specs.declared.value.Value.{Value}
use Rattle.script_read.specs.Members.{item_list, items_in}
use Rattle.script_read.specs.Places.{Pointer, first_of, at_member, at_item, in_member, first_after, in_nodes, in_nodes_from, in_node, in_children}
use Rattle.script_read.proofs.Lists.{first_none}

member_below : (k : List ℕ) (ms : Members) (d : Data) → get_member k ms ≡ Some d → depth d ≤ members_depth ms
member_below k no_members d h = cc
member_below k (member l e ms) d h =
    elim (slice_cmp nat_cmp k l) as (λ o. match_ordering o (get_member k ms) (Some e) (get_member k ms) ≡ Some d → depth d ≤ max (depth e) (members_depth ms)) [
      | Less ↦ λ p. omega (arith, member_below k ms d p)
      | Equal ↦ λ p. let q : e ≡ d = cc in rw (← q) (omega arith)
      | Greater ↦ λ p. omega (arith, member_below k ms d p)
    ] h

-- a member lies less deep than its object
pub below : (k : List ℕ) (v d : Data) → get k v ≡ Some d → depth d < depth v
below k null d h = cc
below k (boolean b) d h = cc
below k (number n) d h = cc
below k (string s) d h = cc
below k (array ds) d h = cc
below k (object ms) d h = omega (arith, member_below k ms d h)

listed_depth : (ds : Items) (i : ℕ) (d : Data) → i < length (item_list ds) → d ≡ get_or (item_list ds) i d → depth d ≤ items_depth ds
listed_depth no_items i d h e = absurd (omega arith)
listed_depth (item x ds) zero d h e = let p : depth d ≡ depth x = ap depth e in omega arith
listed_depth (item x ds) (suc i) d h e = omega (arith, listed_depth ds i d (omega arith) e)

-- an item lies less deep than its array
pub item_below : (v : Data) (xs : List Value) (i : ℕ) (x : Value) → map view xs ≡ items_in v → i < length xs → x ≡ get_or xs i x → depth (view x) < depth v
item_below null xs i x m h e = absurd (omega (arith, simp length-map at (ap length m)))
item_below (boolean b) xs i x m h e = absurd (omega (arith, simp length-map at (ap length m)))
item_below (number n) xs i x m h e = absurd (omega (arith, simp length-map at (ap length m)))
item_below (string s) xs i x m h e = absurd (omega (arith, simp length-map at (ap length m)))
item_below (object ms) xs i x m h e = absurd (omega (arith, simp length-map at (ap length m)))
item_below (array ds) xs i x m h e =
    let g : view x ≡ get_or (item_list ds) i (view x) = ap view e ∙ sym (get_or-map view xs i x) ∙ ap (λ l. get_or l i (view x)) m in
    let k : i < length (item_list ds) = rw (← m, length-map xs view) h in
    omega (arith, listed_depth ds i (view x) k g)

nodes_from : (refuse : Data → Option Pointer) (before : List Data) (ds : Items)
    → in_nodes_from refuse (length before) ds ≡ first_after (λ before node. in_node refuse node) before (item_list ds)
nodes_from refuse before no_items = refl
nodes_from refuse before (item d ds) =
    let n : length before + 1 ≡ length (before ++ d ∷ []) = omega (arith, length-append before (d ∷ [])) in
    ap (λ rest. first_of (at_item (length before) (in_node refuse d) ∷ rest ∷ [])) (rw n (nodes_from refuse (before ++ d ∷ []) ds))

-- the nodes of a tree are the items of its array
pub nodes_first : (refuse : Data → Option Pointer) (v : Data) → in_nodes refuse v ≡ first_after (λ before node. in_node refuse node) [] (items_in v)
nodes_first refuse null = refl
nodes_first refuse (boolean b) = refl
nodes_first refuse (number n) = refl
nodes_first refuse (string s) = refl
nodes_first refuse (array ds) = nodes_from refuse [] ds
nodes_first refuse (object ms) = refl

children_found : (refuse : Data → Option Pointer) (ms : Members) → in_children refuse ms ≡ option_and_then (in_nodes refuse) (get_member (codes "children") ms)
children_found refuse no_members = refl
children_found refuse (member name value ms) =
    elim (slice_cmp nat_cmp (codes "children") name) as (λ o. match_ordering o (in_children refuse ms) (in_nodes refuse value) (in_children refuse ms)
    ≡ option_and_then (in_nodes refuse) (match_ordering o (get_member (codes "children") ms) (Some value) (get_member (codes "children") ms))) [
      | Less ↦ children_found refuse ms
      | Equal ↦ refl
      | Greater ↦ children_found refuse ms
    ]

-- a node, and then those of its children
pub node_first : (refuse : Data → Option Pointer) (v : Data) → in_node refuse v ≡ first_of (refuse v ∷ in_member (codes "children") (in_nodes refuse) v ∷ [])
node_first refuse null = sym (first_none (refuse null))
node_first refuse (boolean b) = sym (first_none (refuse (boolean b)))
node_first refuse (number n) = sym (first_none (refuse (number n)))
node_first refuse (string s) = sym (first_none (refuse (string s)))
node_first refuse (array ds) = sym (first_none (refuse (array ds)))
node_first refuse (object ms) = ap (λ found. first_of (refuse (object ms) ∷ at_member (codes "children") found ∷ [])) (children_found refuse ms)
