-- Sites in their order below each host parent, and the host tree that they make.
use Rattle.std.specs.Prelude.{◌≡◌, ℕ, zero, suc, ℤ, ◌+◌, false, List, [], ◌∷◌, nat_eq, int_lt, if◌then◌else◌, filter}
use Rattle.std.specs.List.{All, flat_map}
use Rattle.host_views.specs.Plain.{PlainPlacedView, PlainHostTree}
use Rattle.view_flatten.specs.declared.sites.Site.{Site}
use Rattle.view_flatten.specs.Sites.{PlainSite, plain_site}

-- the sites below a host parent
abbrev pub sites_at : List PlainSite → ℕ → List PlainSite
sites_at sites parent = filter (λ site. nat_eq site.parent parent) sites

-- one more element among others in order: before the first with a greater or an equal number
abbrev pub put_by : {X : Type 0} → (X → ℤ) → X → List X → List X
put_by number x [] = x ∷ []
put_by number x (other ∷ others) = if int_lt (number other) (number x) then other ∷ put_by number x others else x ∷ other ∷ others

-- elements by a number, and where it is equal as they stand
abbrev pub ordered_by : {X : Type 0} → (X → ℤ) → List X → List X
ordered_by number [] = []
ordered_by number (x ∷ others) = put_by number x (ordered_by number others)

-- below each host parent these are the same sites by z
abbrev pub AreByZ : List PlainSite → List PlainSite → Type 0
AreByZ old new = (parent : ℕ) → sites_at new parent ≡ ordered_by (λ site. site.z) (sites_at old parent)

-- of all sites none lies in one of these that is not marked as one that may hold others
abbrev pub HoldOnlyWhereMarked : List PlainSite → List Site → Type 0
HoldOnlyWhereMarked all sites = All (λ site. site.may_hold ≡ false → sites_at all (plain_site site).tag ≡ []) sites

-- a site placed below a host parent
abbrev pub placed_site : (parent index : ℕ) → PlainSite → PlainPlacedView
placed_site parent index site = record { tag = site.tag; parent = parent; index = index; view = site.view }

-- sites placed below a host parent, from that index on
abbrev pub placed_sites : (parent index : ℕ) → List PlainSite → PlainHostTree
placed_sites parent index [] = []
placed_sites parent index (site ∷ others) = placed_site parent index site ∷ placed_sites parent (index + 1) others

-- the views below a host parent, down to so many levels
abbrev pub tree_below : (levels : ℕ) → List PlainSite → ℕ → PlainHostTree
tree_below zero sites parent = []
tree_below (suc levels) sites parent = flat_map (λ placed. placed ∷ tree_below levels sites placed.tag) (placed_sites parent 0 (sites_at sites parent))

-- placed views, each with those below it down to so many levels
abbrev pub blocks_below : (levels : ℕ) → List PlainSite → PlainHostTree → PlainHostTree
blocks_below levels sites placed = flat_map (λ placed. placed ∷ tree_below levels sites placed.tag) placed
