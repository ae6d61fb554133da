-- What the walk over a forest collects: a site for each node that has a view, with the view's host parent and its order there.
use Rattle.std.specs.Prelude.{◌≡◌, ℕ, ℤ, pos, ◌*◌, ◌≤◌, ◌+ℤ◌, ◌≤ℤ◌, List, [], ◌∷◌, ◌++◌, Bool, true, false, not, ◌&&◌, Option, Some, None, if◌then◌else◌, map}
use Rattle.std.specs.List.{All, AllByRecursion}
use Rattle.shadow_frame.specs.declared.Point.{Point}
use Rattle.shadow_kinds.specs.Axes.{z_order_of}
use Rattle.shadow_kinds.specs.Traits.{forms_context_of, forms_view_of, is_hidden_of}
use Rattle.shadow_node.specs.Forest.{PlainForest, none, node}
use Rattle.shadow_node.specs.Fields.{SettledFields, contents_of, tags_of}
use Rattle.shadow_node.specs.Pruned.{pruned, skipped_tags}
use Rattle.shadow_node.specs.Shown.{Descendant}
use Rattle.host_views.specs.declared.HostView.{HostView}
use Rattle.host_views.specs.Plain.{PlainPlacedView}
use Rattle.view_flatten.specs.declared.sites.Found.{Found}
use Rattle.view_flatten.specs.declared.sites.Host.{Host}
use Rattle.view_flatten.specs.declared.sites.Site.{Site}
use Rattle.view_flatten.specs.HostTree.{host_parent, moved, view_of}
use Rattle.view_flatten.specs.Placed.{view_from}

-- a view with its tag, its host parent and its z there
pub record PlainSite : Type 0 where
  pub tag : ℕ
  pub parent : ℕ
  pub z : ℤ
  pub view : HostView

-- a site without its references
abbrev pub plain_site : Site → PlainSite
plain_site site =
    record { tag = site.spot.tree.fields.fields.tag; parent = site.parent; z = site.z; view = view_from site.origin site.spot.tree.fields }

-- the sites of a list without their references
abbrev pub plain_sites : List Site → List PlainSite
plain_sites sites = map plain_site sites

-- the site of a node
abbrev pub site_of : Descendant → PlainSite
site_of here = record {
  tag = here.settled.fields.tag;
  parent = host_parent here.above;
  z = z_order_of here.settled.fields.props;
  view = view_of here;
}

-- the root, where nodes begin at its corner
abbrev pub root : Host
root = record { parent = 0; begin = record { x = pos 0; y = pos 0 } }

-- where a node begins in its host parent
abbrev pub begin_in : Host → SettledFields → Point
begin_in host settled = moved host.begin settled.frame.origin

-- the host of what lies below a node: the node itself where it forms a context, and else that of the node
abbrev pub host_inside : Host → SettledFields → Host
host_inside host settled =
    if forms_context_of settled.fields.kind settled.fields.props then record { parent = settled.fields.tag; begin = record { x = pos 0; y = pos 0 } }
    else record { parent = host.parent; begin = begin_in host settled }

-- the site of a node with that host
abbrev pub site_in : Host → SettledFields → PlainSite
site_in host settled = record {
  tag = settled.fields.tag;
  parent = host.parent;
  z = z_order_of settled.fields.props;
  view = view_from (begin_in host settled) settled;
}

-- a site, where there is one
abbrev pub when : Bool → PlainSite → List PlainSite
when true site = site ∷ []
when false site = []

-- the node's own site, where it has a view
abbrev pub own_site : Host → SettledFields → List PlainSite
own_site host settled = when (forms_view_of settled.fields.kind settled.fields.props) (site_in host settled)

-- sites that are not shown where a node hides them
abbrev pub unless_hidden : (is_hidden : Bool) → List PlainSite → List PlainSite
unless_hidden true sites = []
unless_hidden false sites = sites

-- the sites of a forest with that host
abbrev pub sites_from : Host → PlainForest SettledFields → List PlainSite
sites_from host none = []
sites_from host (node settled children siblings) =
    unless_hidden (is_hidden_of settled.fields.props) (own_site host settled ++ sites_from (host_inside host settled) children) ++ sites_from host siblings

-- each of the sites has z 0
abbrev pub AreLevel : List PlainSite → Type 0
AreLevel sites = AllByRecursion (λ site. site.z ≡ pos 0) sites

-- a placed view without its index, as a site of z 0
abbrev pub level_site : PlainPlacedView → PlainSite
level_site placed = record { tag = placed.tag; parent = placed.parent; z = pos 0; view = placed.view }

-- these sites were added at the end
abbrev pub IsAdded : List Site → List PlainSite → List Site → Type 0
IsAdded old more new = plain_sites new ≡ plain_sites old ++ more

-- the host of a node, where the node and its ancestors are shown
abbrev pub shown_host : Option Host → SettledFields → Option Host
shown_host host settled = if is_hidden_of settled.fields.props then None else host

-- the sites of a forest with that host; none where it is not shown
abbrev pub shown_sites : Option Host → PlainForest SettledFields → List PlainSite
shown_sites None forest = []
shown_sites (Some host) forest = sites_from host forest

-- the site of a node with that host, where it is shown and has a view
abbrev pub shown_site : Option Host → SettledFields → List PlainSite
shown_site None settled = []
shown_site (Some host) settled = own_site host settled

-- a node that forms a context
abbrev pub is_context : SettledFields → Bool
is_context settled = forms_context_of settled.fields.kind settled.fields.props

-- a site is marked as skipped exactly where its node passes a test, and as one that may hold others where its node forms a context and does not pass
pub record IsSiteMarked (test : SettledFields → Bool) (site : Site) : Type 0 where
  pub skipped : site.is_skipped ≡ test site.spot.tree.fields
  pub holds : site.may_hold ≡ (is_context site.spot.tree.fields && not (test site.spot.tree.fields))

-- each of the sites is marked so
abbrev pub AreSitesMarked : (SettledFields → Bool) → List Site → Type 0
AreSitesMarked test sites = All (IsSiteMarked test) sites

-- what a walk of a forest adds to what was found before: the sites and the tags of the nodes that it reaches
pub record HasFound (test : SettledFields → Bool) (host : Option Host) (forest : PlainForest SettledFields) (old new : Found) : Type 0 where
  pub sites : IsAdded old.sites.items (shown_sites host (pruned test forest)) new.sites.items
  pub marked : AreSitesMarked test old.sites.items → AreSitesMarked test new.sites.items
  pub skipped : new.skipped.items ≡ old.skipped.items ++ skipped_tags test forest
  pub tagged : AllByRecursion (λ tag. 1 ≤ tag) (tags_of (contents_of (pruned test forest)))

-- a place that so many more levels do not lead out of bounds: each moves it by at most 105,000,000 points, and there are at most 48
pub record HasRoomFor (levels : ℕ) (place : Point) : Type 0 where
  pub x_low : pos (105000000 * levels) ≤ℤ (place.x +ℤ pos 5040000000)
  pub x_high : (place.x +ℤ pos (105000000 * levels)) ≤ℤ pos 5040000000
  pub y_low : pos (105000000 * levels) ≤ℤ (place.y +ℤ pos 5040000000)
  pub y_high : (place.y +ℤ pos (105000000 * levels)) ≤ℤ pos 5040000000

-- the same of the place where nodes with a host begin, if they are shown
abbrev pub HasRoomBelow : (levels : ℕ) → Option Host → Type 0
HasRoomBelow levels None = Unit {0}
HasRoomBelow levels (Some host) = HasRoomFor levels host.begin
