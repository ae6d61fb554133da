-- The nodes of a tree in which nothing is refused are in range.
use Rattle.std.proofs.Common.{◌≡◌, ℕ, ◌+◌, [], ◌∷◌, arith, refl, sym, ◌∙◌}
use Rattle.std.specs.Prelude.{Bool, true, false, cond, ◌||◌, Option, Some, None, is_some, option_map, unwrap_or, IfSome, codes}
use Rattle.std.specs.declared.cmp.Ordering.TheVariants.{Less, Equal, Greater}
use Rattle.std.specs.Ordering.{nat_cmp, match_ordering}
use Rattle.std.specs.Cmp.Lexicographic.{slice_cmp}
use Rattle.serde_json.specs.Data.{Data, null, boolean, number, string, array, object, Items, no_items, item, Members, no_members, member}
use Rattle.serde_json.specs.Find.{get}
use Rattle.shadow_node.specs.declared.NodeEdit.{NodeEdit}
use Rattle.tree_build.specs.Script.{ScriptForest, no_more, written}
use Rattle.shadow_node.specs.InRange.{IsTagInRange, AreFieldsInRange, IsEditInRange}
use Rattle.tree_build.specs.InRange.{AreNodesInRange}
use Rattle.script_read.specs.Members.{has_form, natural_of, natural_at, integer_in, member_at}
use Rattle.script_read.specs.Places.{at_member, at_item, refused, in_nodes, in_nodes_from, in_node, in_children}
use Rattle.script_read.specs.Shape.{has_node_form, misshapen_node}
use Rattle.script_read.specs.Faults.{is_tag, bad_tag_in}
use Rattle.script_read.specs.Value.{fields_of, kept_change, edit_of, named_label, kept_before, node_before, nodes_from, nodes_in, children_from, children_among}
use Rattle.script_read.proofs.Refusals.{none_first, none_later, none_two, none_mapped, unless_holds, passes_there, name_found, form_found}
use Rattle.script_read.proofs.Ranges.{natural_range}
use Rattle.script_read.proofs.PropRanges.{props_in, label_in, label_short, change_in}

-- a tag that is not refused is in range
pub tag_in : (value : Data) → is_tag value ≡ true → IsTagInRange (natural_of (integer_in value))
tag_in value h =
    let r = natural_range 1 2147483647 (integer_in value) (omega arith) h in
    record { low = r.0; high = omega (arith, r.1) }

-- the tag of a node or a step that has one
pub written_tag : (value : Data) → bad_tag_in value ≡ None → is_some (get (codes "tag") value) ≡ true → IsTagInRange (natural_at (codes "tag") value)
written_tag value h there =
    tag_in (member_at (codes "tag") value)
    (passes_there (codes "tag") is_tag value (none_first (refused (codes "tag") is_tag value) (refused (codes "keep") is_tag value ∷ []) h) there)

kept_tag : (value : Data) → bad_tag_in value ≡ None → is_some (get (codes "keep") value) ≡ true → IsTagInRange (natural_at (codes "keep") value)
kept_tag value h there =
    tag_in (member_at (codes "keep") value)
    (passes_there (codes "keep") is_tag value
    (none_first (refused (codes "keep") is_tag value) [] (none_later (refused (codes "tag") is_tag value) (refused (codes "keep") is_tag value ∷ []) h)) there)

one_form : (a b : Bool) → (a || b) ≡ true → (a ≡ false) → b ≡ true
one_form true b h n = cc
one_form false b h n = h

no_tag : (form : Bool) → (form ≡ true → ⊥) → form ≡ false
no_tag true f = absurd (f refl)
no_tag false f = refl

-- a node without a tag is kept
keep_there : (node : Data) → has_node_form node ≡ true → is_some (get (codes "tag") node) ≡ false → is_some (get (codes "keep") node) ≡ true
keep_there node h missing =
    let written : has_form (codes "tag" ∷ codes "kind" ∷ []) (codes "props" ∷ codes "children" ∷ []) node ≡ false
    = no_tag (has_form (codes "tag" ∷ codes "kind" ∷ []) (codes "props" ∷ codes "children" ∷ []) node)
    (λ form.
    let found = name_found (codes "tag") (codes "kind" ∷ []) node (form_found (codes "tag" ∷ codes "kind" ∷ []) (codes "props" ∷ codes "children" ∷ []) node form) in
    let clash : true ≡ false = sym found.0 ∙ missing in cc)
    in
    let kept : has_form (codes "keep" ∷ []) (codes "props" ∷ codes "children" ∷ []) node ≡ true
    = one_form (has_form (codes "tag" ∷ codes "kind" ∷ []) (codes "props" ∷ codes "children" ∷ []) node)
    (has_form (codes "keep" ∷ []) (codes "props" ∷ codes "children" ∷ []) node) h written
    in
    (name_found (codes "keep") [] node (form_found (codes "keep" ∷ []) (codes "props" ∷ codes "children" ∷ []) node kept)).0

fields_in : (two : Bool) (node : Data) → IsTagInRange (natural_at (codes "tag") node) → AreFieldsInRange (fields_of two node)
fields_in two node tag = record {
  tag = tag;
  props = props_in two (member_at (codes "props") node);
  label = label_short (named_label (member_at (codes "props") node)) (label_in (member_at (codes "props") node));
}

edit_given : (two : Bool) (found : Option Data) → IfSome (option_map (edit_of two) found) IsEditInRange
edit_given two None = tt
edit_given two (Some given) = change_in two given

children_given : (children : Option ScriptForest) → IfSome children AreNodesInRange → AreNodesInRange (unwrap_or children no_more)
children_given None h = tt
children_given (Some children) h = h

kept_in : (tag : ℕ) (change : Option NodeEdit) (children : Option ScriptForest) (rest : ScriptForest) → IsTagInRange tag → IfSome change IsEditInRange
    → IfSome children AreNodesInRange → AreNodesInRange rest → AreNodesInRange (kept_before tag change children rest)
kept_in tag change None rest t e c r = (t, e, r)
kept_in tag change (Some children) rest t e c r = (t, e, c, r)

abbrev node_by : (two : Bool) → Data → Option ScriptForest → ScriptForest → Bool → ScriptForest
node_by two node children rest there =
    cond there (written (fields_of two node) (unwrap_or children no_more) rest)
    (kept_before (natural_at (codes "keep") node) (kept_change two node) children rest)

-- a node by itself
own_in : (two : Bool) (node : Data) (children : Option ScriptForest) (rest : ScriptForest) → misshapen_node node ≡ None → bad_tag_in node ≡ None
    → IfSome children AreNodesInRange → AreNodesInRange rest → AreNodesInRange (node_before two node children rest)
own_in two node children rest m b c r =
    elim (is_some (get (codes "tag") node)) as (λ there. (is_some (get (codes "tag") node) ≡ there) → AreNodesInRange (node_by two node children rest there)) [
      | true ↦ λ e. (fields_in two node (written_tag node b e), children_given children c, r)
      | false ↦ λ e.
          kept_in (natural_at (codes "keep") node) (kept_change two node) children rest (kept_tag node b (keep_there node (unless_holds (has_node_form node) (none_first _ _ m)) e))
          (edit_given two (get (codes "props") node)) c r
    ] refl

-- a value that is no object is no node
not_a_node : (node : Data) (P : Type 0) → misshapen_node node ≡ None → has_node_form node ≡ false → P
not_a_node node P m f = let clash : true ≡ false = sym (unless_holds (has_node_form node) (none_first _ _ m)) ∙ f in cc

mutual
  -- a tree in which no node is refused
  pub nodes_sound : (two : Bool) (tree : Data) → in_nodes misshapen_node tree ≡ None → in_nodes bad_tag_in tree ≡ None → AreNodesInRange (nodes_from two tree)
  nodes_sound two null m b = tt
  nodes_sound two (boolean x) m b = tt
  nodes_sound two (number n) m b = tt
  nodes_sound two (string s) m b = tt
  nodes_sound two (array nodes) m b = items_sound two 0 nodes m b
  nodes_sound two (object fields) m b = tt

  items_sound : (two : Bool) (index : ℕ) (nodes : Items) → in_nodes_from misshapen_node index nodes ≡ None → in_nodes_from bad_tag_in index nodes ≡ None
      → AreNodesInRange (nodes_in two nodes)
  items_sound two index no_items m b = tt
  items_sound two index (item node nodes) m b =
      let p = none_two (at_item index (in_node misshapen_node node)) (in_nodes_from misshapen_node (index + 1) nodes) m in
      let q = none_two (at_item index (in_node bad_tag_in node)) (in_nodes_from bad_tag_in (index + 1) nodes) b in
      node_sound two node (nodes_in two nodes) (none_mapped _ (in_node misshapen_node node) p.0) (none_mapped _ (in_node bad_tag_in node) q.0)
      (items_sound two (index + 1) nodes p.1 q.1)

  node_sound : (two : Bool) (node : Data) (rest : ScriptForest) → in_node misshapen_node node ≡ None → in_node bad_tag_in node ≡ None → AreNodesInRange rest
      → AreNodesInRange (node_before two node (children_from two node) rest)
  node_sound two null rest m b r = not_a_node null _ m refl
  node_sound two (boolean x) rest m b r = not_a_node (boolean x) _ m refl
  node_sound two (number n) rest m b r = not_a_node (number n) _ m refl
  node_sound two (string s) rest m b r = not_a_node (string s) _ m refl
  node_sound two (array nodes) rest m b r = not_a_node (array nodes) _ m refl
  node_sound two (object fields) rest m b r =
      let p = none_two (misshapen_node (object fields)) (at_member (codes "children") (in_children misshapen_node fields)) m in
      let q = none_two (bad_tag_in (object fields)) (at_member (codes "children") (in_children bad_tag_in fields)) b in
      own_in two (object fields) (children_among two fields) rest p.0 q.0
      (children_sound two fields (none_mapped _ (in_children misshapen_node fields) p.1) (none_mapped _ (in_children bad_tag_in fields) q.1)) r

  children_sound : (two : Bool) (fields : Members) → in_children misshapen_node fields ≡ None → in_children bad_tag_in fields ≡ None
      → IfSome (children_among two fields) AreNodesInRange
  children_sound two no_members m b = tt
  children_sound two (member name value fields) m b =
      elim (slice_cmp nat_cmp (codes "children") name) as (λ o.
      match_ordering o (in_children misshapen_node fields) (in_nodes misshapen_node value) (in_children misshapen_node fields) ≡ None
      → match_ordering o (in_children bad_tag_in fields) (in_nodes bad_tag_in value) (in_children bad_tag_in fields) ≡ None
      → IfSome (match_ordering o (children_among two fields) (Some (nodes_from two value)) (children_among two fields)) AreNodesInRange) [
        | Less ↦ λ p q. children_sound two fields p q
        | Equal ↦ λ p q. nodes_sound two value p q
        | Greater ↦ λ p q. children_sound two fields p q
      ] m b
