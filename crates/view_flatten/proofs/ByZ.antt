-- Nodes by z, and their sites by z.
use Rattle.std.proofs.Common.{◌≡◌, ℕ, suc, zero, ◌+◌, Bool, true, false, cond, List, [], ◌∷◌, map, filter, nat_eq, refl, sym, ap, ◌∙◌}
use Rattle.std.specs.Prelude.{ℤ, int_lt}
use Rattle.std.specs.List.{flat_map}
use Rattle.shadow_kinds.specs.Axes.{z_order_of}
use Rattle.shadow_node.specs.Shown.{Descendant}
use Rattle.view_flatten.specs.declared.sites.Site.{Site}
use Rattle.view_flatten.specs.HostTree.{put_by_z, by_z, placed_from, views_below}
use Rattle.view_flatten.proofs.Shorthands.{is_child_of}
use Rattle.view_flatten.specs.Sites.{PlainSite, plain_site, plain_sites, site_of}
use Rattle.view_flatten.specs.Placing.{sites_at, put_by, ordered_by, AreByZ, placed_site, placed_sites, tree_below}

-- those of an image that pass a test
pub filter_map : {X Y : Type 0} (f : X → Y) (test : Y → Bool) (xs : List X) → filter test (map f xs) ≡ map f (filter (λ x. test (f x)) xs)
filter_map f test [] = refl
filter_map f test (x ∷ xs) =
    elim (test (f x)) as (λ b. cond b (f x ∷ filter test (map f xs)) (filter test (map f xs)) ≡ map f (cond b (x ∷ filter (λ x. test (f x)) xs) (filter (λ x. test (f x)) xs))) [
      | true ↦ ap (λ l. f x ∷ l) (filter_map f test xs)
      | false ↦ filter_map f test xs
    ]

-- an image in order
put_map : {X Y : Type 0} (f : X → Y) (number : Y → ℤ) (x : X) (xs : List X) → put_by number (f x) (map f xs) ≡ map f (put_by (λ x. number (f x)) x xs)
put_map f number x [] = refl
put_map f number x (y ∷ ys) =
    elim (int_lt (number (f y)) (number (f x))) as (λ b. cond b (f y ∷ put_by number (f x) (map f ys)) (f x ∷ f y ∷ map f ys) ≡ map f (cond b (y ∷ put_by (λ x. number (f x)) x ys) (x ∷ y ∷ ys))) [
      | true ↦ ap (λ l. f y ∷ l) (put_map f number x ys)
      | false ↦ refl
    ]

pub ordered_map : {X Y : Type 0} (f : X → Y) (number : Y → ℤ) (xs : List X) → ordered_by number (map f xs) ≡ map f (ordered_by (λ x. number (f x)) xs)
ordered_map f number [] = refl
ordered_map f number (x ∷ xs) = ap (put_by number (f x)) (ordered_map f number xs) ∙ put_map f number x (ordered_by (λ x. number (f x)) xs)

-- sites that are in order below each host parent are so without their pointers
pub plain_by_z : (old new : List Site) → ((parent : ℕ) → filter (λ site. nat_eq site.parent parent) new ≡ ordered_by (λ site. site.z) (filter (λ site. nat_eq site.parent parent) old))
    → AreByZ (plain_sites old) (plain_sites new)
plain_by_z old new h parent =
    filter_map plain_site (λ site. nat_eq site.parent parent) new ∙ ap plain_sites (h parent)
    ∙ sym (ordered_map plain_site (λ site. site.z) (filter (λ site. nat_eq site.parent parent) old))
    ∙ ap (ordered_by (λ site. site.z)) (sym (filter_map plain_site (λ site. nat_eq site.parent parent) old))

-- the definition's order is that by z
same_put : (here : Descendant) (others : List Descendant) → put_by_z here others ≡ put_by (λ here. z_order_of here.settled.fields.props) here others
same_put here [] = refl
same_put here (other ∷ others) =
    ap (λ l. cond (int_lt (z_order_of other.settled.fields.props) (z_order_of here.settled.fields.props)) (other ∷ l) (here ∷ other ∷ others)) (same_put here others)

pub same_by_z : (nodes : List Descendant) → by_z nodes ≡ ordered_by (λ here. z_order_of here.settled.fields.props) nodes
same_by_z [] = refl
same_by_z (here ∷ others) = same_put here (by_z others) ∙ ap (put_by (λ here. z_order_of here.settled.fields.props) here) (same_by_z others)

-- the sites below a host parent are those of its children by z
sites_by_z : (nodes : List Descendant) (sites : List PlainSite) → AreByZ (map site_of nodes) sites → (parent : ℕ)
    → sites_at sites parent ≡ map site_of (by_z (filter (is_child_of parent) nodes))
sites_by_z nodes sites h parent =
    h parent ∙ ap (ordered_by (λ site. site.z)) (filter_map site_of (λ site. nat_eq site.parent parent) nodes)
    ∙ ordered_map site_of (λ site. site.z) (filter (is_child_of parent) nodes)
    ∙ ap (map site_of) (sym (same_by_z (filter (is_child_of parent) nodes)))

-- and are placed as they are
same_placed : (parent index : ℕ) (nodes : List Descendant) → placed_sites parent index (map site_of nodes) ≡ placed_from parent index nodes
same_placed parent index [] = refl
same_placed parent index (here ∷ others) = ap (λ r. placed_site parent index (site_of here) ∷ r) (same_placed parent (index + 1) others)

-- sites in order make the tree that their nodes make
pub same_tree : (nodes : List Descendant) (sites : List PlainSite) → AreByZ (map site_of nodes) sites → (levels parent : ℕ) → tree_below levels sites parent ≡ views_below levels nodes parent
same_tree nodes sites h zero parent = refl
same_tree nodes sites h (suc levels) parent =
    ap (λ l. flat_map (λ placed. placed ∷ tree_below levels sites placed.tag) (placed_sites parent 0 l)) (sites_by_z nodes sites h parent)
    ∙ ap (flat_map (λ placed. placed ∷ tree_below levels sites placed.tag)) (same_placed parent 0 (by_z (filter (is_child_of parent) nodes)))
    ∙ (λ i. flat_map (λ placed. placed ∷ same_tree nodes sites h levels placed.tag i) (placed_from parent 0 (by_z (filter (is_child_of parent) nodes))))
