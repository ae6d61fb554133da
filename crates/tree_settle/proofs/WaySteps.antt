-- One step of the walk along a way.
use Rattle.std.proofs.Common.{◌≡◌, ℕ, ◌+◌, ◌++◌, ◌∷◌, ◌∙◌, ◌≤◌, List, [], Bool, true, false, if◌then◌else◌, length, drop, refl, ap, sym, subst, append_assoc, arith}
use Rattle.std.specs.Prelude.{nat_lt, max}
use Rattle.std.proofs.lemmas.Int.{ints}
use Rattle.std.proofs.lemmas.List.{append-nil}
use Rattle.shadow_frame.specs.declared.Rect.{Rect}
use Rattle.shadow_frame.specs.declared.Size.{Size}
use Rattle.native_state.specs.declared.StateCell.{StateCell}
use Rattle.shadow_kinds.specs.Traits.{has_state_of}
use Rattle.counts.specs.Raised.{raised}
use Rattle.native_state.specs.Made.{MadeCounts, nodes_more}
use Rattle.shadow_node.specs.Forest.{PlainForest, node, PlainNode, depth_of}
use Rattle.shadow_node.specs.Fields.{SettledFields, contents_of}
use Rattle.shadow_node.specs.Falls.{Shared, forest_at}
use Rattle.shadow_node.specs.Frames.{frame_in, state_when}
use Rattle.shadow_node.proofs.Trees.{forest_at-drop_end}
use Rattle.tree_settle.specs.Along.{IsSettledBut, IsTreeSettledBut, changed_tags, changed_tags_of, leads_to, tag_when, way_at, way_below}
use Rattle.tree_settle.specs.Changes.{changes_in}
use Rattle.tree_settle.specs.Walk.{HasRoomInside, changes_of, settled_in, settled_tree}
use Rattle.tree_settle.proofs.Steps.{some_more}
use Rattle.tree_settle.proofs.Unchanged.{but_none-settled, no_tags-none_changes, no_tags-none_of, none_below, settled-but_none}

-- the children of a settled tree are settled in the size of its frame
pub children_settled : (parent : Size) (newest : ℕ → StateCell) (tree : PlainNode SettledFields) → tree ≡ settled_tree parent newest tree
    → tree.children ≡ settled_in tree.fields.frame.size newest (contents_of tree.children)
children_settled parent newest tree e =
    ap (λ t. t.children) e ∙ ap (λ (r : Rect). settled_in r.size newest (contents_of tree.children)) (sym (ap (λ t. t.fields.frame) e))

-- the same where the way leads to the node, or not
below_by : (leads : Bool) (parent : Size) (newest : ℕ → StateCell) (way : List ℕ) (tree : PlainNode SettledFields)
    → (leads ≡ true → IsSettledBut tree.fields.frame.size newest (way_below way) tree.children) → (leads ≡ false → tree ≡ settled_tree parent newest tree)
    → IsSettledBut tree.fields.frame.size newest (if leads then way_below way else []) tree.children
below_by true parent newest way tree on off = on refl
below_by false parent newest way tree on off =
    but_none-settled tree.fields.frame.size newest tree.children (children_settled parent newest tree (off refl))

-- what lies below a node is settled in the size of its frame, but for the nodes on the way below it
pub below_but : (parent : Size) (newest : ℕ → StateCell) (way : List ℕ) (tree : PlainNode SettledFields) → IsTreeSettledBut parent newest way tree
    → IsSettledBut tree.fields.frame.size newest (way_at way tree.fields.fields.tag) tree.children
below_but parent newest way tree but = below_by (leads_to way tree.fields.fields.tag) parent newest way tree but.0 but.1

-- a node that the way does not lead to has its family's state
pub state_kept : (parent : Size) (newest : ℕ → StateCell) (way : List ℕ) (tree : PlainNode SettledFields) → IsTreeSettledBut parent newest way tree
    → leads_to way tree.fields.fields.tag ≡ false → tree.fields.state ≡ state_when (has_state_of tree.fields.fields.kind) (newest tree.fields.fields.tag)
state_kept parent newest way tree but off = ap (λ t. t.fields.state) (but.1 off)

-- a tree to which no way leads is settled in a parent that keeps its size
pub kept_tree : (before after : Size) (newest : ℕ → StateCell) (way : List ℕ) (tree : PlainNode SettledFields) → IsTreeSettledBut before newest way tree
    → leads_to way tree.fields.fields.tag ≡ false → before ≡ after → tree ≡ settled_tree after newest tree
kept_tree before after newest way tree but off e = subst (λ parent. tree ≡ settled_tree parent newest tree) e (but.1 off)

-- a forest without a way is settled in a parent that keeps its size
pub kept_forest : (before after : Size) (newest : ℕ → StateCell) (way : List ℕ) (forest : PlainForest SettledFields) → IsSettledBut before newest way forest
    → length way ≡ 0 → before ≡ after → forest ≡ settled_in after newest (contents_of forest)
kept_forest before after newest [] forest but empty e = subst (λ parent. forest ≡ settled_in parent newest (contents_of forest)) e (settled-but_none before newest forest but)
kept_forest before after newest (first ∷ way) forest but empty e = absurd cc

-- what holds of a whole that begins with a tree holds of that tree
pub tree_but : (parent : Size) (newest : ℕ → StateCell) (way : List ℕ) (all rest : PlainForest SettledFields) (tree : PlainNode SettledFields)
    → all ≡ node tree.fields tree.children rest → IsSettledBut parent newest way all → IsTreeSettledBut parent newest way tree
tree_but parent newest way all rest tree e but =
    let parts = subst (IsSettledBut parent newest way) e but in
    (parts.0, parts.1)

-- and what holds of the whole holds of the trees after it
pub rest_but : (parent : Size) (newest : ℕ → StateCell) (way : List ℕ) (all rest : PlainForest SettledFields) (tree : PlainNode SettledFields)
    → all ≡ node tree.fields tree.children rest → IsSettledBut parent newest way all → IsSettledBut parent newest way rest
rest_but parent newest way all rest tree e but = (subst (IsSettledBut parent newest way) e but).2

-- the tag of a node that changes stands before others, or it alone does
tag_before : (changes : Bool) (tag : ℕ) (others : List ℕ) → tag_when changes tag others ≡ tag_when changes tag [] ++ others
tag_before true tag others = refl
tag_before false tag others = refl

-- a list to which the tags of a whole are to be added is as far with those of its first tree
pub tags_pushed : (parent : Size) (newest : ℕ → StateCell) (left next : PlainForest SettledFields) (tree : PlainNode SettledFields) (tags more whole : List ℕ)
    → left ≡ node tree.fields tree.children next → more ≡ tags ++ changed_tags_of parent newest tree → tags ++ changed_tags parent newest left ≡ whole
    → more ++ changed_tags parent newest next ≡ whole
tags_pushed parent newest left next tree tags more whole l m w =
    let below = changed_tags (frame_in parent tree.fields.fields).size newest tree.children in
    let changes = nat_lt 0 (changes_of parent newest tree) in
    let after = changed_tags parent newest next in
    ap (λ list. list ++ after) m
    ∙ append_assoc tags (below ++ tag_when changes tree.fields.fields.tag []) after
    ∙ ap (λ list. tags ++ list)
    (append_assoc below (tag_when changes tree.fields.fields.tag []) after ∙ ap (λ list. below ++ list) (sym (tag_before changes tree.fields.fields.tag after)))
    ∙ ap (λ forest. tags ++ changed_tags parent newest forest) (sym l)
    ∙ w

-- once nothing is left, all tags are there
pub tags_end : (parent : Size) (newest : ℕ → StateCell) (nodes : List Shared) (i : ℕ) (tags whole : List ℕ) → length nodes ≤ i
    → tags ++ changed_tags parent newest (forest_at (drop i nodes)) ≡ whole → tags ≡ whole
tags_end parent newest nodes i tags whole h w =
    sym (append-nil tags) ∙ ap (λ left. tags ++ changed_tags parent newest left) (sym (forest_at-drop_end nodes i h)) ∙ w

-- the walk at a node whose frame is known, after its children
module _ (parent : Size) (newest : ℕ → StateCell) (tree : PlainNode SettledFields) (frame : Rect) (is_frame : frame ≡ frame_in parent tree.fields.fields) where
  -- where the tree stays, the counts stay
  pub made_stay : (made after : MadeCounts) → changes_of parent newest tree ≡ 0 → after ≡ nodes_more made (changes_in frame.size newest tree.children)
      → after ≡ nodes_more made (changes_of parent newest tree)
  made_stay made after z a = a ∙ ap (nodes_more made) (rw is_frame (none_below parent newest tree z) ∙ sym z)

  -- and so do the tags
  pub tags_stay : (tags after : List ℕ) → changes_of parent newest tree ≡ 0 → after ≡ tags ++ changed_tags frame.size newest tree.children
      → after ≡ tags ++ changed_tags_of parent newest tree
  tags_stay tags after z a = a ∙ ap (λ below. tags ++ below) (rw is_frame (no_tags-none_changes _ newest tree.children (none_below parent newest tree z)) ∙ sym (no_tags-none_of parent newest tree z))

  -- where it changes, its tag follows those below it
  pub tags_change : (tags after more : List ℕ) → changes_of parent newest tree ≡ changes_in frame.size newest tree.children + 1
      → after ≡ tags ++ changed_tags frame.size newest tree.children → more ≡ after ++ tree.fields.fields.tag ∷ [] → more ≡ tags ++ changed_tags_of parent newest tree
  tags_change tags after more changes a m =
      let one : true ≡ nat_lt 0 (changes_of parent newest tree) = some_more _ _ changes in
      m ∙ ap (λ list. list ++ tree.fields.fields.tag ∷ []) a
      ∙ append_assoc tags (changed_tags frame.size newest tree.children) (tree.fields.fields.tag ∷ [])
      ∙ rw (is_frame, ← one) refl

-- the same where nothing is looked at
pub made_none : (made : MadeCounts) (changes : ℕ) → changes ≡ 0 → made ≡ nodes_more made changes
made_none made changes z = let e : raised made.nodes 0 ≡ made.nodes = omega arith in rw (z, e) refl

-- no tag is added
pub tags_none : (tags more : List ℕ) → more ≡ [] → tags ≡ tags ++ more
tags_none tags more e = rw e (sym (append-nil tags))

-- room for a forest is room for its first tree
pub HasRoomInside-first : (size : Size) (all rest : PlainForest SettledFields) (tree : PlainNode SettledFields) → all ≡ node tree.fields tree.children rest
    → HasRoomInside size (depth_of all) → HasRoomInside size (depth_of tree.children + 1)
HasRoomInside-first size all rest tree e room =
    let depth : depth_of all ≡ max (depth_of tree.children + 1) (depth_of rest) = ap depth_of e in
    record {
      width_low = room.width_low;
      width_high = omega (arith, ints, depth, room.width_high);
      height_low = room.height_low;
      height_high = omega (arith, ints, depth, room.height_high);
    }
