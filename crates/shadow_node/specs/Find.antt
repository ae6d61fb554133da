-- The node of a tag, and the way to it.
use Rattle.std.specs.Prelude.{ℕ, List, [], ◌∷◌, Option, Some, None, nat_eq, if◌then◌else◌}
use Rattle.std.specs.Option.{option_or}
use Rattle.shadow_node.specs.Forest.{PlainForest, none, node, PlainNode}
use Rattle.shadow_node.specs.Fields.{NodeFields, SettledFields}

-- the first node with that tag, in preorder, where each node's fields give its tag
abbrev pub first_by : {A : Type 0} → (A → ℕ) → ℕ → PlainForest A → Option (PlainNode A)
first_by tag_in tag none = None
first_by tag_in tag (node fields children siblings) =
    if nat_eq (tag_in fields) tag then Some (record { fields = fields; children = children })
    else option_or (first_by tag_in tag children) (first_by tag_in tag siblings)

-- the first node with that tag, in preorder
abbrev pub first_with : ℕ → PlainForest NodeFields → Option (PlainNode NodeFields)
first_with tag forest = first_by (λ fields. fields.tag) tag forest

-- the same in a forest with states and frames
abbrev pub first_settled : ℕ → PlainForest SettledFields → Option (PlainNode SettledFields)
first_settled tag forest = first_by (λ settled. settled.fields.tag) tag forest

-- a way that begins with one more tag
abbrev pub way_from : ℕ → Option (List ℕ) → Option (List ℕ)
way_from tag None = None
way_from tag (Some way) = Some (tag ∷ way)

-- the tags from a top node down to the first node with that tag, in preorder
abbrev pub way_to : ℕ → PlainForest SettledFields → Option (List ℕ)
way_to tag none = None
way_to tag (node settled children siblings) =
    if nat_eq settled.fields.tag tag then Some (settled.fields.tag ∷ [])
    else option_or (way_from settled.fields.tag (way_to tag children)) (way_to tag siblings)
