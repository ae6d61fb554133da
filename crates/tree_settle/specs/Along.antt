-- Settling along a way: of a forest that is settled but for the nodes on the way to one of them.
use Rattle.std.specs.Prelude.{◌≡◌, ℕ, List, [], ◌∷◌, ◌++◌, Bool, true, false, nat_eq, nat_lt, if◌then◌else◌}
use Rattle.shadow_frame.specs.declared.Size.{Size}
use Rattle.native_state.specs.declared.StateCell.{StateCell}
use Rattle.shadow_node.specs.Forest.{PlainForest, none, node, PlainNode}
use Rattle.shadow_node.specs.Fields.{SettledFields}
use Rattle.shadow_node.specs.Frames.{frame_in}
use Rattle.tree_settle.specs.Changes.{changes_in, changes_with, is_settled}
use Rattle.tree_settle.specs.Walk.{changes_of, settled_tree}

-- whether the first node on a way has that tag
abbrev pub leads_to : (way : List ℕ) → ℕ → Bool
leads_to [] tag = false
leads_to (first ∷ way) tag = nat_eq first tag

-- a way without its first node
abbrev pub way_below : List ℕ → List ℕ
way_below [] = []
way_below (first ∷ way) = way

-- the way below a node of that tag: none where the way does not lead to it
abbrev pub way_at : List ℕ → ℕ → List ℕ
way_at way tag = if leads_to way tag then way_below way else []

-- a forest in a parent of that size is settled, but for the nodes on a way: each other node with all below it
abbrev pub IsSettledBut : (parent : Size) → (newest : ℕ → StateCell) → (way : List ℕ) → PlainForest SettledFields → Type 0
IsSettledBut parent newest way none = Unit {0}
IsSettledBut parent newest way (node settled children siblings) =
    (leads_to way settled.fields.tag ≡ true → IsSettledBut settled.frame.size newest (way_below way) children)
    × (leads_to way settled.fields.tag ≡ false
    → record { fields = settled; children = children } ≡ settled_tree parent newest (record { fields = settled; children = children }))
    × IsSettledBut parent newest way siblings

-- the same of one tree
abbrev pub IsTreeSettledBut : (parent : Size) → (newest : ℕ → StateCell) → (way : List ℕ) → PlainNode SettledFields → Type 0
IsTreeSettledBut parent newest way tree =
    (leads_to way tree.fields.fields.tag ≡ true → IsSettledBut tree.fields.frame.size newest (way_below way) tree.children)
    × (leads_to way tree.fields.fields.tag ≡ false → tree ≡ settled_tree parent newest tree)

-- one more tag before others, where its node changes
abbrev pub tag_when : (changes : Bool) → ℕ → List ℕ → List ℕ
tag_when true tag others = tag ∷ others
tag_when false tag others = others

-- the tags of the nodes that change in a parent of that size, each after those below it
abbrev pub changed_tags : Size → (newest : ℕ → StateCell) → PlainForest SettledFields → List ℕ
changed_tags parent newest none = []
changed_tags parent newest (node settled children siblings) =
    changed_tags (frame_in parent settled.fields).size newest children
    ++ tag_when
    (nat_lt 0 (changes_with (is_settled parent newest settled) (changes_in (frame_in parent settled.fields).size newest children)))
    settled.fields.tag (changed_tags parent newest siblings)

-- the tags of the nodes of one tree that change
abbrev pub changed_tags_of : Size → (newest : ℕ → StateCell) → PlainNode SettledFields → List ℕ
changed_tags_of parent newest tree =
    changed_tags (frame_in parent tree.fields.fields).size newest tree.children
    ++ tag_when (nat_lt 0 (changes_of parent newest tree)) tree.fields.fields.tag []
