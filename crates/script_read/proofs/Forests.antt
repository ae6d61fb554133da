-- The forest of a tree's nodes, one after another.
use Rattle.std.proofs.Common.{◌≡◌, ℕ, ◌+◌, ◌<◌, ◌≤◌, List, [], ◌∷◌, ◌++◌, length, get_or, drop, refl, ap, sym, ◌∙◌}
use Rattle.std.proofs.Math.ListN.{drop_of_length-le}
use Rattle.std.proofs.lemmas.List.{map-append}
use Rattle.std.specs.Prelude.{Option, Some, None, option_map, codes, map, Bool}
use Rattle.std.specs.declared.cmp.Ordering.TheVariants.{Less, Equal, Greater}
use Rattle.std.specs.Ordering.{nat_cmp, match_ordering}
use Rattle.std.specs.Cmp.Lexicographic.{slice_cmp}
use Rattle.serde_json.specs.Data.{Data, null, boolean, number, string, array, object, Items, no_items, item, Members, no_members, member}
use Rattle.serde_json.specs.Find.{get, get_member}
use Rattle.serde_json.specs.View.{view}
use Rattle.serde_json.specs.declared.value.Value.{Value}
use Rattle.prop_table.specs.Props.{PropList}
use Rattle.shadow_kinds.specs.declared.Kind.{Kind}
use Rattle.shadow_node.specs.declared.NodeEdit.{NodeEdit}
use Rattle.tree_build.specs.declared.ScriptNode.{ScriptNode, fold-roll-ScriptNode}
use Rattle.tree_build.specs.declared.ScriptNode.TheOpen as open_form
use Rattle.tree_build.specs.declared.ScriptNode.TheViews as view_form
use Rattle.tree_build.specs.declared.ScriptNode.TheVariants.{rolls-Written, rolls-Kept}
use Rattle.tree_build.specs.Script.{ScriptForest, no_more, written, chained, in_front, script_layer, script_forest}
use Rattle.script_read.specs.Members.{item_list, items_in}
use Rattle.script_read.specs.Value.{kept_before, node_before, nodes_from, nodes_in, children_from, children_among}
use Rattle.script_read.proofs.Lists.{left_of}

children_read : (two : Bool) (ms : Members) → children_among two ms ≡ option_map (nodes_from two) (get_member (codes "children") ms)
children_read two no_members = refl
children_read two (member name value ms) =
    elim (slice_cmp nat_cmp (codes "children") name) as (λ o. match_ordering o (children_among two ms) (Some (nodes_from two value)) (children_among two ms)
    ≡ option_map (nodes_from two) (match_ordering o (get_member (codes "children") ms) (Some value) (get_member (codes "children") ms))) [
      | Less ↦ children_read two ms
      | Equal ↦ refl
      | Greater ↦ children_read two ms
    ]

-- the children of a node are those of its member
pub children_are : (two : Bool) (v : Data) → children_from two v ≡ option_map (nodes_from two) (get (codes "children") v)
children_are two null = refl
children_are two (boolean b) = refl
children_are two (number n) = refl
children_are two (string s) = refl
children_are two (array ds) = refl
children_are two (object ms) = children_read two ms

-- the forest of some nodes
abbrev pub forest_of : (two : Bool) → List Data → ScriptForest
forest_of two [] = no_more
forest_of two (node ∷ nodes) = node_before two node (children_from two node) (forest_of two nodes)

nodes_listed : (two : Bool) (ds : Items) → nodes_in two ds ≡ forest_of two (item_list ds)
nodes_listed two no_items = refl
nodes_listed two (item d ds) = ap (node_before two d (children_from two d)) (nodes_listed two ds)

-- the nodes of a tree are the items of its array
pub nodes_are : (two : Bool) (v : Data) → nodes_from two v ≡ forest_of two (items_in v)
nodes_are two null = refl
nodes_are two (boolean b) = refl
nodes_are two (number n) = refl
nodes_are two (string s) = refl
nodes_are two (array ds) = nodes_listed two ds
nodes_are two (object ms) = refl

-- each front before the next, and then the rest
abbrev pub before : List (ScriptForest → ScriptForest) → ScriptForest → ScriptForest
before [] rest = rest
before (front ∷ fronts) rest = front (before fronts rest)

before_push : (fronts : List (ScriptForest → ScriptForest)) (front : ScriptForest → ScriptForest) (rest : ScriptForest)
    → before (fronts ++ front ∷ []) rest ≡ before fronts (front rest)
before_push [] front rest = refl
before_push (first ∷ fronts) front rest = ap first (before_push fronts front rest)

before_none : (fronts : List (ScriptForest → ScriptForest)) → before fronts no_more ≡ chained fronts
before_none [] = refl
before_none (front ∷ fronts) = ap front (before_none fronts)

-- one more node
pub nodes_more : (two : Bool) (xs : List Value) (i : ℕ) (d : Value) (nodes : List ScriptNode) (made : ScriptNode) (whole : ScriptForest) → i < length xs → d ≡ get_or xs i d
    → ((rest : ScriptForest) → in_front made rest ≡ node_before two (view d) (children_from two (view d)) rest)
    → before (map in_front nodes) (forest_of two (map view (drop i xs))) ≡ whole
    → before (map in_front (nodes ++ made ∷ [])) (forest_of two (map view (drop (i + 1) xs))) ≡ whole
nodes_more two xs i d nodes made whole h e m w =
    let rest : ScriptForest = forest_of two (map view (drop (i + 1) xs)) in
    ap (λ fronts. before fronts rest) (map-append in_front nodes (made ∷ []))
    ∙ before_push (map in_front nodes) (in_front made) rest
    ∙ ap (before (map in_front nodes)) (m rest ∙ ap (λ left. forest_of two (map view left)) (sym (left_of xs i d h e)))
    ∙ w

-- all nodes
pub nodes_end : (two : Bool) (xs : List Value) (i : ℕ) (nodes : List ScriptNode) (whole : ScriptForest) → length xs ≤ i
    → before (map in_front nodes) (forest_of two (map view (drop i xs))) ≡ whole → script_forest nodes ≡ whole
nodes_end two xs i nodes whole h w =
    sym (before_none (map in_front nodes)) ∙ ap (λ left. before (map in_front nodes) (forest_of two (map view left))) (sym (drop_of_length-le xs h)) ∙ w

-- a written node in front of its siblings
pub front_written : (tag : ℕ) (kind : Kind) (props : PropList) (label : List ℕ) (children : List ScriptNode) (rest : ScriptForest)
    → in_front (view_form.Written tag kind props label children) rest
    ≡ written (record { tag = tag; kind = kind; props = props; label = label }) (script_forest children) rest
front_written tag kind props label children rest =
    ap (λ n. in_front n rest) (sym (rolls-Written tag kind props label children))
    ∙ ap (λ f. f rest) (fold-roll-ScriptNode (ScriptForest → ScriptForest) script_layer (open_form.Written tag kind props label children))

-- a kept node in front of its siblings
pub front_kept : (tag : ℕ) (change : Option NodeEdit) (children : Option (List ScriptNode)) (rest : ScriptForest)
    → in_front (view_form.Kept tag change children) rest ≡ kept_before tag change (option_map script_forest children) rest
front_kept tag change None rest =
    ap (λ n. in_front n rest) (sym (rolls-Kept tag change None))
    ∙ ap (λ f. f rest) (fold-roll-ScriptNode (ScriptForest → ScriptForest) script_layer (open_form.Kept tag change None))
front_kept tag change (Some children) rest =
    ap (λ n. in_front n rest) (sym (rolls-Kept tag change (Some children)))
    ∙ ap (λ f. f rest) (fold-roll-ScriptNode (ScriptForest → ScriptForest) script_layer (open_form.Kept tag change (Some children)))
