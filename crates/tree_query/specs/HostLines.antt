-- Whose views the host ancestors are that are found among the views before one.
use Rattle.std.specs.Prelude.{◌≡◌, ℕ, List, [], ◌∷◌, Contains, filter, map}
use Rattle.shadow_kinds.specs.Traits.{forms_context_of}
use Rattle.shadow_node.specs.Fields.{SettledFields}
use Rattle.shadow_node.specs.Shown.{Descendant}
use Rattle.host_views.specs.Plain.{PlainPlacedView, PlainHostTree, host_tags}
use Rattle.view_flatten.specs.Places.{placed_at}
use Rattle.tree_query.specs.Topmost.{host_line}

-- of some ancestors, the nearest first, the tags of those that form a context
abbrev pub tags_of_contexts : List SettledFields → List ℕ
tags_of_contexts above = map (λ settled. settled.fields.tag) (filter (λ settled. forms_context_of settled.fields.kind settled.fields.props) above)

-- a view is that of one of these nodes, and its host ancestors among the views before it, the latest first, are the node's ancestors that form a context
pub record HasLineOfNode (nodes : List Descendant) (earlier : PlainHostTree) (placed : PlainPlacedView) : Type 0 where
  pub here : Descendant
  pub among : Contains nodes here
  pub same : placed ≡ placed_at placed.index here
  pub line : host_tags (host_line earlier placed.parent) ≡ tags_of_contexts here.above

-- the same of each of some views, behind others, the latest of these first
abbrev pub HaveLinesOfNodes : List Descendant → (earlier : PlainHostTree) → PlainHostTree → Type 0
HaveLinesOfNodes nodes earlier [] = Unit {0}
HaveLinesOfNodes nodes earlier (placed ∷ others) = HasLineOfNode nodes earlier placed × HaveLinesOfNodes nodes (placed ∷ earlier) others
