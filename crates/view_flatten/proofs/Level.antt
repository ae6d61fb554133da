-- Where all z are 0, a host tree is its views in preorder.
use Rattle.std.proofs.Common.{◌≡◌, ◌≤◌, ◌+◌, ℕ, zero, suc, Bool, true, false, cond, List, [], ◌∷◌, ◌++◌, append-nil, map, length, length-append, nat_eq, inl, inr, refl, sym, ap, ◌∙◌, subst, arith}
use Rattle.std.specs.Prelude.{pos}
use Rattle.std.specs.List.{AllByRecursion, IsDistinct, flat_map, list_any}
use Rattle.std.proofs.lemmas.Bool.{cases_Bool, eq-eqb, eqb-true, ne_eqb, or_left, or_parts, or_right}
use Rattle.std.proofs.lemmas.Grind.{flat_map-append}
use Rattle.std.proofs.lemmas.List.{map-append}
use Rattle.std.proofs.lemmas.List.Elements.{filter-append}
use Rattle.std.proofs.lemmas.Map.Keys.{IsDistinct-head, IsDistinct-tail}
use Rattle.shadow_kinds.specs.Traits.{forms_view_of, is_hidden_of}
use Rattle.shadow_node.specs.Forest.{PlainForest, node, none, preorder}
use Rattle.shadow_node.specs.Fields.{SettledFields, contents_of, tags_of}
use Rattle.view_flatten.specs.declared.sites.Host.{Host}
use Rattle.view_flatten.specs.HostTree.{host_tree_of}
use Rattle.view_flatten.specs.Placing.{placed_site, placed_sites, sites_at, tree_below}
use Rattle.view_flatten.specs.Sites.{AreLevel, PlainSite, begin_in, host_inside, is_context, level_site, own_site, root, site_in, sites_from, unless_hidden, when}
use Rattle.view_flatten.proofs.Apart.{apart_flipped, apart_from_one, distinct_first, distinct_second, in_neither, in_whole_first, in_whole_second, not_in_first, not_in_second}
use Rattle.view_flatten.proofs.Distinct.{each_then, not_among}
use Rattle.view_flatten.proofs.LevelOrder.{each_left, tree_of_level}

-- the sites below a host parent, each with those below it, down to so many levels
abbrev sites_below : (levels : ℕ) → List PlainSite → ℕ → List PlainSite
sites_below zero all parent = []
sites_below (suc levels) all parent = flat_map (λ site. site ∷ sites_below levels all site.tag) (sites_at all parent)

-- some sites, each with those below it
abbrev with_below : (levels : ℕ) → (all sites : List PlainSite) → List PlainSite
with_below levels all sites = flat_map (λ site. site ∷ sites_below levels all site.tag) sites

-- the sites of a host parent have it as their parent
each_of_parent : (parent : ℕ) (sites : List PlainSite) → AllByRecursion (λ site. nat_eq site.parent parent ≡ true) (sites_at sites parent)
each_of_parent parent [] = tt
each_of_parent parent (site ∷ sites) = go (nat_eq site.parent parent) refl (each_of_parent parent sites)
  where
    go : (b : Bool) → nat_eq site.parent parent ≡ b → AllByRecursion (λ site. nat_eq site.parent parent ≡ true) (sites_at sites parent)
        → AllByRecursion (λ site. nat_eq site.parent parent ≡ true) (cond b (site ∷ sites_at sites parent) (sites_at sites parent))
    go true e others = (e, others)
    go false e others = others

-- placed sites of z 0 are the sites
same_blocks : (levels : ℕ) (all : List PlainSite) (parent : ℕ) → ((other : ℕ) → map level_site (tree_below levels all other) ≡ sites_below levels all other) → (index : ℕ) (sites : List PlainSite)
    → AreLevel sites → AllByRecursion (λ site. nat_eq site.parent parent ≡ true) sites
    → map level_site (flat_map (λ placed. placed ∷ tree_below levels all placed.tag) (placed_sites parent index sites)) ≡ with_below levels all sites
same_blocks levels all parent below index [] level here = refl
same_blocks levels all parent below index (site ∷ sites) level here =
    let rest = flat_map (λ placed. placed ∷ tree_below levels all placed.tag) (placed_sites parent (index + 1) sites) in
    let own : level_site (placed_site parent index site) ≡ site =
    λ i. record { tag = site.tag; parent = sym (eqb-true site.parent parent here.0) i; z = sym level.0 i; view = site.view } in
    let inner : map level_site (tree_below levels all site.tag ++ rest) ≡ sites_below levels all site.tag ++ with_below levels all sites =
    map-append level_site (tree_below levels all site.tag) rest
    ∙ (λ i. below site.tag i ++ same_blocks levels all parent below (index + 1) sites level.1 here.1 i) in
    λ i. own i ∷ inner i

-- and so are the views below a host parent
same_below : (all : List PlainSite) → AreLevel all → (levels parent : ℕ) → map level_site (tree_below levels all parent) ≡ sites_below levels all parent
same_below all level zero parent = refl
same_below all level (suc levels) parent =
    same_blocks levels all parent (same_below all level levels) 0 (sites_at all parent)
    (each_left (λ site. site.z ≡ pos 0) (λ site. nat_eq site.parent parent) all level) (each_of_parent parent all)

-- where a host parent has no sites there are none below it
nothing_below : (levels : ℕ) (all : List PlainSite) (parent : ℕ) → sites_at all parent ≡ [] → sites_below levels all parent ≡ []
nothing_below zero all parent h = refl
nothing_below (suc levels) all parent h = ap (with_below levels all) h

-- the tags of a forest in preorder
abbrev all_tags : PlainForest SettledFields → List ℕ
all_tags none = []
all_tags (node settled children siblings) = settled.fields.tag ∷ all_tags children ++ all_tags siblings

tags_are : (forest : PlainForest SettledFields) → all_tags forest ≡ tags_of (contents_of forest)
tags_are none = refl
tags_are (node settled children siblings) =
    ap (λ rest. settled.fields.tag ∷ rest)
    ((λ i. tags_are children i ++ tags_are siblings i) ∙ sym (map-append (λ fields. fields.tag) (preorder (contents_of children)) (preorder (contents_of siblings))))

-- a site, where there is one, is not below another host parent
when_elsewhere : (b : Bool) (site : PlainSite) (tag : ℕ) → nat_eq site.parent tag ≡ false → sites_at (when b site) tag ≡ []
when_elsewhere true site tag e = ap (λ b. cond b (site ∷ []) []) e
when_elsewhere false site tag e = refl

-- it is below its own
when_there : (b : Bool) (site : PlainSite) → sites_at (when b site) site.parent ≡ when b site
when_there true site = ap (λ b. cond b (site ∷ []) []) (eq-eqb site.parent site.parent refl)
when_there false site = refl

-- the host parent of a host
abbrev parent_with : Host → ℕ
parent_with host = host.parent

-- the host parent of what lies below a context is the context
inside_context : (host : Host) (settled : SettledFields) → is_context settled ≡ true → parent_with (host_inside host settled) ≡ settled.fields.tag
inside_context host settled e =
    ap (λ b. parent_with (cond b (record { parent = settled.fields.tag; begin = record { x = pos 0; y = pos 0 } }) (record { parent = host.parent; begin = begin_in host settled }))) e

-- and of what lies below another node it is that of the node
inside_other : (host : Host) (settled : SettledFields) → is_context settled ≡ false → parent_with (host_inside host settled) ≡ host.parent
inside_other host settled e =
    ap (λ b. parent_with (cond b (record { parent = settled.fields.tag; begin = record { x = pos 0; y = pos 0 } }) (record { parent = host.parent; begin = begin_in host settled }))) e

-- a tag that is neither the node's nor its host parent is not that of the host parent of what lies below it
inside_elsewhere : (host : Host) (settled : SettledFields) (tag : ℕ) → nat_eq host.parent tag ≡ false → nat_eq settled.fields.tag tag ≡ false
    → nat_eq (parent_with (host_inside host settled)) tag ≡ false
inside_elsewhere host settled tag e own =
    elim (cases_Bool (is_context settled)) as (λ c. nat_eq (parent_with (host_inside host settled)) tag ≡ false) [
      | inl context ↦ ap (λ p. nat_eq p tag) (inside_context host settled context) ∙ own
      | inr other ↦ ap (λ p. nat_eq p tag) (inside_other host settled other) ∙ e
    ]

-- of sites that may be hidden none is below a host parent where none is below it when they are shown
hidden_elsewhere : (is_hidden : Bool) (sites : List PlainSite) (tag : ℕ) → sites_at sites tag ≡ [] → sites_at (unless_hidden is_hidden sites) tag ≡ []
hidden_elsewhere true sites tag h = refl
hidden_elsewhere false sites tag h = h

-- the sites in two parts, below a host parent of which the first part has none
past_first : (xs ys : List PlainSite) (tag : ℕ) → sites_at xs tag ≡ [] → sites_at (xs ++ ys) tag ≡ sites_at ys tag
past_first xs ys tag h = filter-append (λ site. nat_eq site.parent tag) xs ys ∙ ap (λ r. r ++ sites_at ys tag) h

-- and of which the second has none
before_second : (xs ys : List PlainSite) (tag : ℕ) → sites_at ys tag ≡ [] → sites_at (xs ++ ys) tag ≡ sites_at xs tag
before_second xs ys tag h = filter-append (λ site. nat_eq site.parent tag) xs ys ∙ ap (λ r. sites_at xs tag ++ r) h ∙ append-nil (sites_at xs tag)

-- a forest has no sites below a tag that is neither its host parent nor one of its own
none_elsewhere : (host : Host) (forest : PlainForest SettledFields) (tag : ℕ) → nat_eq host.parent tag ≡ false → list_any (nat_eq tag) (all_tags forest) ≡ false
    → sites_at (sites_from host forest) tag ≡ []
none_elsewhere host none tag e h = refl
none_elsewhere host (node settled children siblings) tag e h =
    let parts = or_parts (nat_eq tag settled.fields.tag) (list_any (nat_eq tag) (all_tags children ++ all_tags siblings)) h in
    let inner = in_neither tag (all_tags children) (all_tags siblings) parts.1 in
    let kids = sites_from (host_inside host settled) children in
    let kids_none : sites_at kids tag ≡ [] =
    none_elsewhere (host_inside host settled) children tag (inside_elsewhere host settled tag e (apart_flipped tag settled.fields.tag parts.0)) inner.0 in
    past_first (unless_hidden (is_hidden_of settled.fields.props) (own_site host settled ++ kids)) (sites_from host siblings) tag
    (hidden_elsewhere (is_hidden_of settled.fields.props) (own_site host settled ++ kids) tag
    (past_first (own_site host settled) kids tag (when_elsewhere (forms_view_of settled.fields.kind settled.fields.props) (site_in host settled) tag e) ∙ kids_none))
    ∙ none_elsewhere host siblings tag e inner.1

-- the sites of a forest in a whole list: below each of its tags the list has the forest's sites and no others
abbrev HasAllOf : (all : List PlainSite) → Host → PlainForest SettledFields → Type 0
HasAllOf all host forest = (tag : ℕ) → list_any (nat_eq tag) (all_tags forest) ≡ true → sites_at all tag ≡ sites_at (sites_from host forest) tag

-- a tree that may be hidden before others, each in preorder
tree_first : (levels : ℕ) (all : List PlainSite) (parent : ℕ) (is_hidden : Bool) (first rest : List PlainSite)
    → (is_hidden ≡ false → with_below levels all (sites_at first parent) ≡ first) → with_below levels all (sites_at rest parent) ≡ rest
    → with_below levels all (sites_at (unless_hidden is_hidden first ++ rest) parent) ≡ unless_hidden is_hidden first ++ rest
tree_first levels all parent true first rest h k = k
tree_first levels all parent false first rest h k =
    ap (with_below levels all) (filter-append (λ site. nat_eq site.parent parent) first rest)
    ∙ flat_map-append (λ site. site ∷ sites_below levels all site.tag) (sites_at first parent) (sites_at rest parent) ∙ (λ i. h refl i ++ k i)

-- a context and what lies below it
context_first : (levels : ℕ) (all : List PlainSite) (site : PlainSite) (kids : List PlainSite) → nat_eq site.parent site.tag ≡ false → sites_at kids site.parent ≡ []
    → sites_at all site.tag ≡ sites_at kids site.tag → ((fewer : ℕ) → length kids ≤ suc fewer → with_below fewer all (sites_at kids site.tag) ≡ kids)
    → length (site ∷ kids) ≤ suc levels → with_below levels all (sites_at (site ∷ kids) site.parent) ≡ site ∷ kids
context_first zero all site [] apart none_beside below inside room = ap (with_below zero all) (when_there true site)
context_first zero all site (kid ∷ kids) apart none_beside below inside room = absurd (omega (arith, room))
context_first (suc levels) all site kids apart none_beside below inside room =
    ap (with_below (suc levels) all) (before_second (site ∷ []) kids site.parent none_beside ∙ when_there true site)
    ∙ append-nil (site ∷ with_below levels all (sites_at all site.tag))
    ∙ ap (λ l. site ∷ with_below levels all l) below ∙ ap (λ l. site ∷ l) (inside levels (omega (arith, room)))

-- a node that forms no context, and what lies below it
other_first : (levels : ℕ) (all : List PlainSite) (b : Bool) (site : PlainSite) (kids : List PlainSite) → sites_at all site.tag ≡ []
    → with_below levels all (sites_at kids site.parent) ≡ kids → with_below levels all (sites_at (when b site ++ kids) site.parent) ≡ when b site ++ kids
other_first levels all true site kids below inside =
    ap (with_below levels all) (filter-append (λ other. nat_eq other.parent site.parent) (site ∷ []) kids ∙ ap (λ r. r ++ sites_at kids site.parent) (when_there true site))
    ∙ ap (λ r. site ∷ r ++ with_below levels all (sites_at kids site.parent)) (nothing_below levels all site.tag below) ∙ ap (λ r. site ∷ r) inside
other_first levels all false site kids below inside = inside

-- the sites of a forest, each with those below it, are in preorder
in_preorder : (all : List PlainSite) (levels : ℕ) (host : Host) (forest : PlainForest SettledFields) → IsDistinct nat_eq (all_tags forest)
    → list_any (nat_eq host.parent) (all_tags forest) ≡ false → HasAllOf all host forest → length (sites_from host forest) ≤ suc levels
    → with_below levels all (sites_at (sites_from host forest) host.parent) ≡ sites_from host forest
in_preorder all levels host none distinct outside own room = refl
in_preorder all levels host (node settled children siblings) distinct outside own room =
    tree_first levels all host.parent is_hidden (own_site host settled ++ kids) rest
    (shown (λ fewer. in_preorder all fewer inner children (distinct_first (all_tags children) (all_tags siblings) others)))
    (in_preorder all levels host siblings (distinct_second (all_tags children) (all_tags siblings) others) beyond.1
    own_beside (omega (arith, room, length-append (unless_hidden is_hidden (own_site host settled ++ kids)) rest)))
  where
    tag : ℕ
    tag = settled.fields.tag

    is_hidden : Bool
    is_hidden = is_hidden_of settled.fields.props

    inner : Host
    inner = host_inside host settled

    kids : List PlainSite
    kids = sites_from inner children

    rest : List PlainSite
    rest = sites_from host siblings

    has_own : Bool
    has_own = forms_view_of settled.fields.kind settled.fields.props

    others : IsDistinct nat_eq (all_tags children ++ all_tags siblings)
    others = IsDistinct-tail nat_eq tag (all_tags children ++ all_tags siblings) distinct

    -- the host parent is neither the node nor one of the others
    apart : (nat_eq host.parent tag ≡ false) × (list_any (nat_eq host.parent) (all_tags children ++ all_tags siblings) ≡ false)
    apart = or_parts (nat_eq host.parent tag) (list_any (nat_eq host.parent) (all_tags children ++ all_tags siblings)) outside

    beyond : (list_any (nat_eq host.parent) (all_tags children) ≡ false) × (list_any (nat_eq host.parent) (all_tags siblings) ≡ false)
    beyond = in_neither host.parent (all_tags children) (all_tags siblings) apart.1

    -- the node is none of the others
    tag_apart : (list_any (nat_eq tag) (all_tags children) ≡ false) × (list_any (nat_eq tag) (all_tags siblings) ≡ false)
    tag_apart =
        in_neither tag (all_tags children) (all_tags siblings)
        (not_among tag (all_tags children ++ all_tags siblings) (IsDistinct-head nat_eq tag (all_tags children ++ all_tags siblings) distinct))

    -- below a tag that is not the host parent, nor the node, nor one of the children, the tree has no sites
    tree_elsewhere : (other : ℕ) → nat_eq host.parent other ≡ false → nat_eq tag other ≡ false → list_any (nat_eq other) (all_tags children) ≡ false
        → sites_at (unless_hidden is_hidden (own_site host settled ++ kids)) other ≡ []
    tree_elsewhere other e k h =
        hidden_elsewhere is_hidden (own_site host settled ++ kids) other
        (past_first (own_site host settled) kids other (when_elsewhere has_own (site_in host settled) other e)
        ∙ none_elsewhere inner children other (inside_elsewhere host settled other e k) h)

    own_beside : HasAllOf all host siblings
    own_beside other h =
        own other (or_right (nat_eq other tag) (list_any (nat_eq other) (all_tags children ++ all_tags siblings)) (in_whole_second other (all_tags children) (all_tags siblings) h))
        ∙ past_first (unless_hidden is_hidden (own_site host settled ++ kids)) rest other
        (tree_elsewhere other (apart_from_one host.parent other (all_tags siblings) beyond.1 h)
        (apart_from_one tag other (all_tags siblings) tag_apart.1 h) (not_in_first other (all_tags children) (all_tags siblings) others h))

    -- where the node is shown, its own site and those below it are in preorder, if those below it are
    shown : ((fewer : ℕ) → list_any (nat_eq inner.parent) (all_tags children) ≡ false → HasAllOf all inner children → length kids ≤ suc fewer
        → with_below fewer all (sites_at kids inner.parent) ≡ kids) → is_hidden ≡ false → with_below levels all (sites_at (own_site host settled ++ kids) host.parent) ≡ own_site host settled ++ kids
    shown inside e =
        elim (cases_Bool (is_context settled)) as (λ c. with_below levels all (sites_at (own_site host settled ++ kids) host.parent) ≡ own_site host settled ++ kids) [
          | inl context ↦
              let to = inside_context host settled context in
              let one = forms context in
              let fits : length (site_in host settled ∷ kids) ≤ suc levels = subst (λ b. length (when b (site_in host settled) ++ kids) ≤ suc levels) one room_shown in
              subst (λ b. with_below levels all (sites_at (when b (site_in host settled) ++ kids) host.parent) ≡ when b (site_in host settled) ++ kids) (sym one)
              (context_first levels all (site_in host settled) kids apart.0
              (none_elsewhere inner children host.parent (ap (λ p. nat_eq p host.parent) to ∙ apart_flipped host.parent tag apart.0) beyond.0)
              (own_inside tag own_tag apart.0 tag_apart.1)
              (λ fewer le. subst (λ p. with_below fewer all (sites_at kids p) ≡ kids) to
              (inside fewer (subst (λ p. list_any (nat_eq p) (all_tags children) ≡ false) (sym to) tag_apart.0) own_children le))
              fits)
          | inr other ↦
              let to = inside_other host settled other in
              other_first levels all has_own (site_in host settled) kids
              (own_inside tag own_tag apart.0 tag_apart.1 ∙ none_elsewhere inner children tag (ap (λ p. nat_eq p tag) to ∙ apart.0) tag_apart.0)
              (subst (λ p. with_below levels all (sites_at kids p) ≡ kids) to
              (inside levels (subst (λ p. list_any (nat_eq p) (all_tags children) ≡ false) (sym to) beyond.0) own_children room_kids))
        ]
      where
        forms : is_context settled ≡ true → forms_view_of settled.fields.kind settled.fields.props ≡ true
        forms context = rw context refl

        own_tag : list_any (nat_eq tag) (tag ∷ all_tags children ++ all_tags siblings) ≡ true
        own_tag = or_left (nat_eq tag tag) (list_any (nat_eq tag) (all_tags children ++ all_tags siblings)) (eq-eqb tag tag refl)

        room_shown : length (own_site host settled ++ kids) ≤ suc levels
        room_shown =
            let whole : length ((own_site host settled ++ kids) ++ rest) ≤ suc levels = subst (λ b. length (unless_hidden b (own_site host settled ++ kids) ++ rest) ≤ suc levels) e room in
            omega (arith, whole, length-append (own_site host settled ++ kids) rest)

        room_kids : length kids ≤ suc levels
        room_kids = omega (arith, room_shown, length-append (own_site host settled) kids)

        -- below the node and below what is below it the whole list has the sites of the children
        own_inside : (other : ℕ) → list_any (nat_eq other) (tag ∷ all_tags children ++ all_tags siblings) ≡ true → nat_eq host.parent other ≡ false
            → list_any (nat_eq other) (all_tags siblings) ≡ false → sites_at all other ≡ sites_at kids other
        own_inside other h k beside =
            own other h ∙ ap (λ b. sites_at (unless_hidden b (own_site host settled ++ kids) ++ rest) other) e
            ∙ before_second (own_site host settled ++ kids) rest other (none_elsewhere host siblings other k beside)
            ∙ past_first (own_site host settled) kids other (when_elsewhere has_own (site_in host settled) other k)

        own_children : HasAllOf all inner children
        own_children other h =
            own_inside other (or_right (nat_eq other tag) (list_any (nat_eq other) (all_tags children ++ all_tags siblings)) (in_whole_first other (all_tags children) (all_tags siblings) h))
            (apart_from_one host.parent other (all_tags children) beyond.0 h) (not_in_second other (all_tags children) (all_tags siblings) others h)

-- a whole that is in preorder below the root, where it has as many levels as sites
whole_level : (all : List PlainSite) → ((levels : ℕ) → length all ≤ suc levels → with_below levels all (sites_at all 0) ≡ all) → sites_below (length all) all 0 ≡ all
whole_level [] h = refl
whole_level (site ∷ sites) h = h (length sites) (omega arith)

-- the host tree of a forest whose views have z 0 is its sites in preorder
pub level_tree : (forest : PlainForest SettledFields) → IsDistinct nat_eq (tags_of (contents_of forest)) → AllByRecursion (λ tag. 1 ≤ tag) (tags_of (contents_of forest))
    → AreLevel (sites_from root forest) → map level_site (host_tree_of forest) ≡ sites_from root forest
level_tree forest distinct low level =
    let all = sites_from root forest in
    let outside : list_any (nat_eq 0) (all_tags forest) ≡ false =
    not_among 0 (all_tags forest)
    (each_then (λ tag. 1 ≤ tag) (λ tag. nat_eq 0 tag ≡ false) (λ tag h. ne_eqb 0 tag (λ e. omega (arith, h, e))) (all_tags forest)
    (subst (AllByRecursion (λ tag. 1 ≤ tag)) (sym (tags_are forest)) low)) in
    ap (map level_site) (tree_of_level forest level) ∙ same_below all level (length all) 0
    ∙ whole_level all (λ levels room. in_preorder all levels root forest (subst (IsDistinct nat_eq) (sym (tags_are forest)) distinct) outside (λ tag h. refl) room)
