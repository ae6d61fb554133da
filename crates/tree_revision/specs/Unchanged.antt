-- How the code finds the nodes that stand as they did. Only contracts inside the crate cite it.
use Rattle.std.specs.Prelude.{◌≡◌, ◌≢◌, ℕ, List, [], ◌∷◌, ◌++◌, Bool, true, not, ◌&&◌, nat_eq, if◌then◌else◌, Option, Some, None, refl}
use Rattle.std.specs.Coded.{Coded, code_by, coded×, coded_ℕ}
use Rattle.std.specs.List.{AllByRecursion}
use Rattle.std.specs.List.Sorted.{IsNonDecreasingBy}
use Rattle.std.specs.Option.{option_eq, option_map, option_or}
use Rattle.std.specs.Ordering.{nat_cmp}
use Rattle.std.specs.FinMap as map
use Rattle.std.specs.FinMap.{find}
use Rattle.std.specs.Cmp.Lexicographic.{pointwise}
use Rattle.shadow_frame.specs.Same.{is_same_frame}
use Rattle.native_state.specs.Same.{is_same_cell}
use Rattle.shadow_kinds.specs.SameProps.{is_same_props}
use Rattle.shadow_kinds.specs.Traits.{is_hidden_of}
use Rattle.shadow_kinds.specs.Words.{code_of}
use Rattle.shadow_node.specs.Forest.{PlainForest, none, node, PlainNode}
use Rattle.shadow_node.specs.Fields.{SettledFields}
use Rattle.shadow_node.specs.Find.{first_settled}
use Rattle.shadow_node.specs.Code.{coded_forest, coded_settled}
use Rattle.shadow_node.specs.Stamps.{StampMap, all_stamped}
use Rattle.tree_revision.specs.ForestStamps.{IsStampAfter, AreStampsAfter}
use Rattle.tree_revision.specs.declared.stamping.Place.{Place}

-- a node with all below it, and whether it is shown
pub record SeenNode : Type 0 where
  pub tree : PlainNode SettledFields
  pub shown : Bool

-- a node is shown below ancestors that are all shown, or not, where it is not hidden itself
abbrev pub shown_here : (above : Bool) → SettledFields → Bool
shown_here above settled = above && not (is_hidden_of settled.fields.props)

-- the first node of a tag, below ancestors that are all shown, or not
abbrev pub seen_below : (above : Bool) → ℕ → PlainForest SettledFields → Option SeenNode
seen_below above tag none = None
seen_below above tag (node settled children siblings) =
    if nat_eq settled.fields.tag tag
    then Some (record { tree = record { fields = settled; children = children }; shown = shown_here above settled })
    else option_or (seen_below (shown_here above settled) tag children) (seen_below above tag siblings)

-- each node of a part of a forest is what is seen of its tag in the whole one
abbrev pub AreSeenIn : (whole : PlainForest SettledFields) → (above : Bool) → PlainForest SettledFields → Type 0
AreSeenIn whole above none = Unit {0}
AreSeenIn whole above (node settled children siblings) =
    (seen_below true settled.fields.tag whole
    ≡ Some (record { tree = record { fields = settled; children = children }; shown = shown_here above settled }))
    × AreSeenIn whole (shown_here above settled) children × AreSeenIn whole above siblings

-- each tree of a forest is that of its tag in an older one
abbrev pub DoTreesStandIn : (old : PlainForest SettledFields) → PlainForest SettledFields → Type 0
DoTreesStandIn old none = Unit {0}
DoTreesStandIn old (node settled children siblings) =
    (first_settled settled.fields.tag old ≡ Some (record { fields = settled; children = children })) × DoTreesStandIn old siblings

-- the tags of the top nodes
abbrev pub top_tags : PlainForest SettledFields → List ℕ
top_tags none = []
top_tags (node settled children siblings) = settled.fields.tag ∷ top_tags siblings

-- the same tag, kind, props, label, state and frame
abbrev pub is_same_fields : SettledFields → SettledFields → Bool
is_same_fields a b =
    nat_eq a.fields.tag b.fields.tag && nat_eq (code_of a.fields.kind) (code_of b.fields.kind) && is_same_props a.fields.props b.fields.props
    && pointwise nat_eq a.fields.label b.fields.label && option_eq is_same_cell a.state b.state && is_same_frame a.frame b.frame

-- the tags, each after those below it
abbrev pub tags_upward : PlainForest SettledFields → List ℕ
tags_upward none = []
tags_upward (node settled children siblings) = tags_upward children ++ settled.fields.tag ∷ tags_upward siblings

-- a commit as far as stamps go: the forests before and after it, the stamps before it, and its number
pub record StampChange : Type 0 where
  pub old : PlainForest SettledFields
  pub new : PlainForest SettledFields
  pub before : StampMap
  pub number : ℕ

abbrev pub coded_change : Coded StampChange
coded_change =
    code_by (PlainForest SettledFields × (PlainForest SettledFields × (StampMap × ℕ)))
    (coded× (coded_forest coded_settled) (coded× (coded_forest coded_settled) (coded× (map.code coded_ℕ coded_ℕ) coded_ℕ)))
    (λ c. (c.old, (c.new, (c.before, c.number)))) (λ p. record { old = p.0; new = p.1.0; before = p.1.1.0; number = p.1.1.1 }) (λ _. refl)

-- the stamp of a tag after it
abbrev pub IsStampIn : StampChange → ℕ × ℕ → Type 0
IsStampIn change pair = IsStampAfter change.old change.new change.before change.number pair.0 pair.1

-- the stamps of some tags after it
abbrev pub AreStampsIn : StampChange → List (ℕ × ℕ) → Type 0
AreStampsIn change pairs = AllByRecursion (IsStampIn change) pairs

-- what is seen at a place
abbrev pub seen_place : Place → SeenNode
seen_place place = record { tree = place.node.now.value; shown = place.shown }

-- what the first of a tag in a list of places with their tags shows
abbrev pub seen_by : List (ℕ × Place) → ℕ → Option SeenNode
seen_by places tag = option_map seen_place (find nat_cmp tag places)

-- places in the order of their tags, of which each has the first node that a forest has of it
pub record ArePlacesOf (places : List (ℕ × Place)) (forest : PlainForest SettledFields) : Type 0 where
  pub in_order : IsNonDecreasingBy (λ place. place.0) places
  pub seen : (tag : ℕ) → seen_by places tag ≡ seen_below true tag forest

-- a change of the node of one tag, which leads from an old forest to an edited one, and by settling to a new one: where that node stays the same, the forest does; and where it is another that is hidden as before, the tags of a list get the new number, and all others keep their stamps
pub record IsChangeAt (tag : ℕ) (old edited new : PlainForest SettledFields) (before : StampMap) (number : ℕ) (tags : List ℕ) : Type 0 where
  pub same : (was now : PlainNode SettledFields) → first_settled tag old ≡ Some was → first_settled tag edited ≡ Some now → was.fields ≡ now.fields → new ≡ old
  pub other : (was now : PlainNode SettledFields) → first_settled tag old ≡ Some was → first_settled tag edited ≡ Some now → was.fields ≢ now.fields
      → is_hidden_of was.fields.fields.props ≡ is_hidden_of now.fields.fields.props → AreStampsAfter old new before number (all_stamped before number tags)
