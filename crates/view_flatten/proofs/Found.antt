-- The walk finds the nodes that have a view, with their host parents and where they begin there.
use Rattle.std.proofs.Common.{◌≡◌, ℕ, List, [], ◌∷◌, ◌++◌, map, filter, Bool, true, false, cond, not, ◌&&◌, ◌||◌, refl, ap, sym, ◌∙◌, append_assoc, arith}
use Rattle.std.specs.Prelude.{ℤ, ◌+ℤ◌, pos}
use Rattle.std.specs.List.{list_any}
use Rattle.std.proofs.lemmas.Bool.{or_from}
use Rattle.std.proofs.lemmas.Int.{ints}
use Rattle.std.proofs.lemmas.List.{map-append}
use Rattle.std.proofs.lemmas.List.Elements.{filter-append}
use Rattle.shadow_frame.specs.declared.Point.{Point}
use Rattle.shadow_kinds.specs.Traits.{forms_view_of}
use Rattle.shadow_node.specs.Forest.{PlainForest, none, node}
use Rattle.shadow_node.specs.Fields.{SettledFields}
use Rattle.shadow_node.specs.Shown.{Descendant, descendants_below}
use Rattle.view_flatten.specs.declared.sites.Host.{Host}
use Rattle.view_flatten.specs.HostTree.{host_parent, moved, host_origin, viewed}
use Rattle.view_flatten.proofs.Shorthands.{is_context, has_view}
use Rattle.view_flatten.specs.Sites.{PlainSite, site_of, root, host_inside, site_in, begin_in, when, unless_hidden, sites_from}
use Rattle.view_flatten.proofs.ShownPart.{hides, none_viewed}

-- the host of the nodes below some ancestors
record IsHostOf (host : Host) (above : List SettledFields) : Type 0 where
  parent : host.parent ≡ host_parent above
  begin : (s : SettledFields) → host_origin s above ≡ moved host.begin s.frame.origin

same_start : (x : ℤ) → x ≡ pos 0 +ℤ x
same_start x = omega (arith, ints)

-- at a context, and at the root, a node begins at its frame's origin
begins_there : (origin : Point) → origin ≡ moved (record { x = pos 0; y = pos 0 }) origin
begins_there origin i = record { x = same_start origin.x i; y = same_start origin.y i }

at_root : IsHostOf root []
at_root = record { parent = refl; begin = λ s. begins_there s.frame.origin }

-- the host below one more node
one_more : (host : Host) (above : List SettledFields) (s : SettledFields) → IsHostOf host above → IsHostOf (host_inside host s) (s ∷ above)
one_more host above s h = record { parent = parent_inside; begin = begin_inside }
  where
    own : Host
    own = record { parent = s.fields.tag; begin = record { x = pos 0; y = pos 0 } }

    same : Host
    same = record { parent = host.parent; begin = begin_in host s }

    parent_with : Host → ℕ
    parent_with host = host.parent

    begin_with : Host → Point
    begin_with host = host.begin

    parent_inside : parent_with (host_inside host s) ≡ host_parent (s ∷ above)
    parent_inside = elim (is_context s) as (λ b. parent_with (cond b own same) ≡ cond b s.fields.tag (host_parent above)) [ true ↦ refl | false ↦ h.parent ]

    begin_inside : (c : SettledFields) → host_origin c (s ∷ above) ≡ moved (begin_with (host_inside host s)) c.frame.origin
    begin_inside c =
        elim (is_context s) as (λ b. cond b c.frame.origin (moved (host_origin s above) c.frame.origin) ≡ moved (begin_with (cond b own same)) c.frame.origin) [
          | true ↦ begins_there c.frame.origin
          | false ↦ ap (λ p. moved p c.frame.origin) (h.begin s)
        ]

-- the site of a node
same_site : (host : Host) (here : Descendant) → IsHostOf host here.above → site_of here ≡ site_in host here.settled
same_site host here h i = record {
  tag = here.settled.fields.tag;
  parent = sym h.parent i;
  z = (site_of here).z;
  view = record {
    kind = here.settled.fields.kind;
    props = here.settled.fields.props;
    label = here.settled.fields.label;
    state = here.settled.state;
    frame = record { origin = h.begin here.settled i; size = here.settled.frame.size };
  };
}

-- whether a node forms a view
abbrev forms : Descendant → Bool
forms here = forms_view_of here.settled.fields.kind here.settled.fields.props

-- a node has no view where it or an ancestor is hidden, and else the one that it forms
not_shown : (forms is_hidden is_below : Bool) → (is_hidden || is_below) ≡ true → (forms && not (is_hidden || is_below)) ≡ false
not_shown false is_hidden is_below h = refl
not_shown true is_hidden is_below h = ap not h

shown : (forms is_hidden is_below : Bool) → is_hidden ≡ false → is_below ≡ false → (forms && not (is_hidden || is_below)) ≡ forms
shown false is_hidden is_below h k = refl
shown true is_hidden is_below h k = rw (h, k) refl

-- one node before others
first_kept : (is_kept : Bool) (here : Descendant) (others : List Descendant) → map site_of (cond is_kept (here ∷ others) others) ≡ when is_kept (site_of here) ++ map site_of others
first_kept true here others = refl
first_kept false here others = refl

-- a tree before others: nothing of a hidden one, and else its own site and those below it
same_tree : (here : Descendant) (below after : List Descendant) (own : PlainSite) (kids more : List PlainSite) (is_hidden : Bool)
    → (is_hidden ≡ true → (has_view here ≡ false) × (filter has_view below ≡ []))
    → (is_hidden ≡ false → (has_view here ≡ forms here) × (map site_of (filter has_view below) ≡ kids))
    → site_of here ≡ own → map site_of (filter has_view after) ≡ more
    → map site_of (filter has_view (here ∷ below ++ after)) ≡ unless_hidden is_hidden (when (forms here) own ++ kids) ++ more
same_tree here below after own kids more true gone stays e rest =
    first_kept (has_view here) here (filter has_view (below ++ after))
    ∙ ap (λ b. when b (site_of here) ++ map site_of (filter has_view (below ++ after))) (gone refl).0
    ∙ ap (map site_of) (filter-append has_view below after)
    ∙ ap (λ r. map site_of (r ++ filter has_view after)) (gone refl).1 ∙ rest
same_tree here below after own kids more false gone stays e rest =
    first_kept (has_view here) here (filter has_view (below ++ after))
    ∙ ap (λ r. when (has_view here) (site_of here) ++ r)
    (ap (map site_of) (filter-append has_view below after)
    ∙ map-append site_of (filter has_view below) (filter has_view after)
    ∙ ap (λ r. r ++ map site_of (filter has_view after)) (stays refl).1
    ∙ ap (λ r. kids ++ r) rest)
    ∙ ap (λ b. when b (site_of here) ++ (kids ++ more)) (stays refl).0
    ∙ ap (λ t. when (forms here) t ++ (kids ++ more)) e
    ∙ sym (append_assoc (when (forms here) own) kids more)

-- below ancestors of which none is hidden the walk finds the nodes that have a view
found_below : (above : List SettledFields) (host : Host) → list_any hides above ≡ false → IsHostOf host above
    → (forest : PlainForest SettledFields) → map site_of (filter has_view (descendants_below above forest)) ≡ sites_from host forest
found_below above host unhidden at none = refl
found_below above host unhidden at (node s children siblings) =
    let here : Descendant = record { settled = s; above = above } in
    same_tree here (descendants_below (s ∷ above) children) (descendants_below above siblings) (site_in host s)
    (sites_from (host_inside host s) children) (sites_from host siblings) (hides s)
    (λ h.
    let line : (hides s || list_any hides above) ≡ true = rw h refl in
    (not_shown _ (hides s) (list_any hides above) line, none_viewed (s ∷ above) line children))
    (λ h. (
      shown _ (hides s) (list_any hides above) h unhidden,
      found_below (s ∷ above) (host_inside host s) (or_from (hides s) (list_any hides above) h unhidden) (one_more host above s at) children,
    ))
    (same_site host here at) (found_below above host unhidden at siblings)

-- the walk finds the nodes of a forest that have a view
pub found : (forest : PlainForest SettledFields) → map site_of (viewed forest) ≡ sites_from root forest
found forest = found_below [] root refl at_root forest
