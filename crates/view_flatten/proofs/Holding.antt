-- Only in the sites that are marked as ones that may hold others do others lie.
use Rattle.std.proofs.Common.{◌≡◌, ◌≤◌, ℕ, zero, suc, List, [], ◌∷◌, ◌++◌, Bool, true, false, cond, not, ◌&&◌, filter, map, nat_eq, arith, refl, ap, sym, subst, ◌∙◌}
use Rattle.std.specs.Prelude.{pos}
use Rattle.std.specs.List.{AllByRecursion, IsDistinct, flat_map, list_any}
use Rattle.std.specs.List.Sorted.{IsPermutation}
use Rattle.std.proofs.lemmas.Bool.{both_ways, eqb-true, false_from_ne_true}
use Rattle.std.proofs.lemmas.Bool.Decides.{nat_tests}
use Rattle.std.proofs.lemmas.List.Elements.{All-cons, All-nil, filter-append}
use Rattle.std.proofs.lemmas.List.Sorted.{All-permutation}
use Rattle.shadow_kinds.specs.Traits.{forms_view_of, is_hidden_of}
use Rattle.shadow_node.specs.Forest.{PlainForest, none, node, preorder}
use Rattle.shadow_node.specs.Fields.{SettledFields, contents_of, tags_of}
use Rattle.shadow_node.specs.Pruned.{has_one_of, pruned}
use Rattle.shadow_node.specs.Stamps.{StampMap}
use Rattle.view_flatten.specs.declared.sites.Host.{Host}
use Rattle.view_flatten.specs.declared.sites.Site.{Site}
use Rattle.view_flatten.specs.declared.skips.Skip.{Skip}
use Rattle.view_flatten.specs.declared.skips.Skip.TheVariants.{Nothing, Since, Tags}
use Rattle.view_flatten.specs.Placing.{AreByZ, HoldOnlyWhereMarked, ordered_by, placed_sites, sites_at, tree_below}
use Rattle.view_flatten.specs.Sites.{PlainSite, AreSitesMarked, IsSiteMarked, begin_in, host_inside, is_context, own_site, plain_site, plain_sites, root, site_in, sites_from, unless_hidden, when}
use Rattle.view_flatten.specs.Skips.{skips}
use Rattle.view_flatten.proofs.Distinct.{each_in_both, each_in_first, each_in_second, each_of_two, each_then}
use Rattle.view_flatten.proofs.Inside.{passes_by_key}
use Rattle.view_flatten.proofs.Outside.{pruned_distinct, tags_in_preorder}

-- a node in which others may lie: it forms a context and does not pass the test
abbrev holds : (SettledFields → Bool) → SettledFields → Bool
holds test settled = is_context settled && not (test settled)

-- the host parent of nodes with that host
abbrev parent_of : Host → ℕ
parent_of host = host.parent

-- a site lies below that host parent
abbrev is_at : ℕ → PlainSite → Bool
is_at tag site = nat_eq site.parent tag

-- each node in which others may lie has another tag
abbrev HaveOtherTags : (SettledFields → Bool) → ℕ → List SettledFields → Type 0
HaveOtherTags test tag nodes = AllByRecursion (λ settled. holds test settled ≡ true → nat_eq settled.fields.tag tag ≡ false) nodes

-- no site of a node lies below another host parent than its own
own_elsewhere : (tag : ℕ) (host : Host) (settled : SettledFields) → nat_eq host.parent tag ≡ false → filter (is_at tag) (own_site host settled) ≡ []
own_elsewhere tag host settled apart =
    elim (forms_view_of settled.fields.kind settled.fields.props) as (λ b. filter (is_at tag) (when b (site_in host settled)) ≡ []) [
      | true ↦ ap (λ b. cond b (site_in host settled ∷ []) []) apart
      | false ↦ refl
    ]

-- below a tag that is not the host's, and not one of a node in which others may lie, there is no site
none_at : (test : SettledFields → Bool) (tag : ℕ) (host : Host) (forest : PlainForest SettledFields) → nat_eq host.parent tag ≡ false
    → HaveOtherTags test tag (preorder (pruned test forest)) → sites_at (sites_from host (pruned test forest)) tag ≡ []
none_at test tag host none apart h = refl
none_at test tag host (node settled children siblings) apart h =
    let below = sites_from (host_inside host settled) (cond (test settled) none (pruned test children)) in
    filter-append (is_at tag) (unless_hidden (is_hidden_of settled.fields.props) (own_site host settled ++ below)) (sites_from host (pruned test siblings))
    ∙ (λ i. none_shown (λ inside. none_at test tag (host_inside host settled) children inside) i
    ++ none_at test tag host siblings apart (each_in_second P (preorder (cond (test settled) none (pruned test children))) (preorder (pruned test siblings)) h.1) i)
  where
    P : SettledFields → Type 0
    P other = holds test other ≡ true → nat_eq other.fields.tag tag ≡ false

    inside_apart : test settled ≡ false → nat_eq (host_inside host settled).parent tag ≡ false
    inside_apart is =
        elim (is_context settled) as (λ b. is_context settled ≡ b
        → nat_eq (parent_of (cond b (record { parent = settled.fields.tag; begin = record { x = pos 0; y = pos 0 } }) (record { parent = host.parent; begin = begin_in host settled }))) tag ≡ false) [
          | true ↦ λ context. h.0 (λ i. context i && not (is i))
          | false ↦ λ _. apart
        ] refl

    none_shown : (nat_eq (host_inside host settled).parent tag ≡ false → HaveOtherTags test tag (preorder (pruned test children)) → sites_at (sites_from (host_inside host settled) (pruned test children)) tag ≡ [])
        → filter (is_at tag) (unless_hidden (is_hidden_of settled.fields.props) (own_site host settled ++ sites_from (host_inside host settled) (cond (test settled) none (pruned test children)))) ≡ []
    none_shown entered =
        let inside = host_inside host settled in
        let none_below : filter (is_at tag) (sites_from inside (cond (test settled) none (pruned test children))) ≡ [] =
        elim (test settled) as (λ b. test settled ≡ b → HaveOtherTags test tag (preorder (cond b none (pruned test children))) → filter (is_at tag) (sites_from inside (cond b none (pruned test children))) ≡ []) [
          | true ↦ λ is k. refl
          | false ↦ λ is k. entered (inside_apart is) k
        ] refl (each_in_first P (preorder (cond (test settled) none (pruned test children))) (preorder (pruned test siblings)) h.1) in
        elim (is_hidden_of settled.fields.props) as (λ b. filter (is_at tag) (unless_hidden b (own_site host settled ++ sites_from inside (cond (test settled) none (pruned test children)))) ≡ []) [
          | true ↦ refl
          | false ↦
              filter-append (is_at tag) (own_site host settled) (sites_from inside (cond (test settled) none (pruned test children)))
              ∙ (λ i. own_elsewhere tag host settled apart i ++ none_below i)
        ]

-- what holds of each node holds of each site, where it does so of the node's own
each_site : (P : SettledFields → Type 0) (Q : PlainSite → Type 0) → ((host : Host) (settled : SettledFields) → P settled → Q (site_in host settled))
    → (host : Host) (forest : PlainForest SettledFields) → AllByRecursion P (preorder forest) → AllByRecursion Q (sites_from host forest)
each_site P Q f host none h = tt
each_site P Q f host (node settled children siblings) h =
    each_in_both Q (unless_hidden (is_hidden_of settled.fields.props) (own_site host settled ++ sites_from (host_inside host settled) children)) (sites_from host siblings)
    (elim (is_hidden_of settled.fields.props) as (λ b. AllByRecursion Q (unless_hidden b (own_site host settled ++ sites_from (host_inside host settled) children))) [
      | true ↦ tt
      | false ↦
          each_in_both Q (own_site host settled) (sites_from (host_inside host settled) children)
          (elim (forms_view_of settled.fields.kind settled.fields.props) as (λ b. AllByRecursion Q (when b (site_in host settled))) [
            | true ↦ (f host settled h.0, tt)
            | false ↦ tt
          ])
          (each_site P Q f (host_inside host settled) children (each_in_first P (preorder children) (preorder siblings) h.1))
    ])
    (each_site P Q f host siblings (each_in_second P (preorder children) (preorder siblings) h.1))

-- what a site shows of its node; the frame is in the host parent
abbrev seen_of : PlainSite → SettledFields
seen_of site = record {
  fields = record { tag = site.tag; kind = site.view.kind; props = site.view.props; label = site.view.label };
  state = site.view.state;
  frame = site.view.frame;
}

-- whether a node is skipped is seen by what its site shows
seen_alike : (skip : Skip) (stamps : StampMap) (host : Host) (settled : SettledFields) → skips skip stamps (seen_of (site_in host settled)) ≡ skips skip stamps settled
seen_alike Nothing stamps host settled = refl
seen_alike (Since base) stamps host settled = refl
seen_alike (Tags tags) stamps host settled = refl

-- and so by that of the site that was found
found_alike : (skip : Skip) (stamps : StampMap) (site : Site) → skips skip stamps (seen_of (plain_site site)) ≡ skips skip stamps site.spot.tree.fields
found_alike Nothing stamps site = refl
found_alike (Since base) stamps site = refl
found_alike (Tags tags) stamps site = refl

module _ (skip : Skip) (stamps : StampMap) (forest : PlainForest SettledFields) (distinct : IsDistinct nat_eq (tags_of (contents_of forest)))
    (tagged : AllByRecursion (λ tag. 1 ≤ tag) (tags_of (contents_of (pruned (skips skip stamps) forest)))) where
  -- which nodes are skipped
  abbrev test : SettledFields → Bool
  test = skips skip stamps

  -- the nodes that are reached
  abbrev nodes : List SettledFields
  nodes = preorder (pruned test forest)

  -- all sites
  abbrev all : List PlainSite
  all = sites_from root (pruned test forest)

  -- the tag of a node
  abbrev tag_of : SettledFields → ℕ
  tag_of settled = settled.fields.tag

  same_tags : map tag_of nodes ≡ tags_of (contents_of (pruned test forest))
  same_tags = tags_in_preorder (pruned test forest)

  -- a node is found among those in which others may lie by its tag
  by_tag : AllByRecursion (λ settled. has_one_of (map tag_of (filter (holds test) nodes)) settled ≡ holds test settled) nodes
  by_tag = passes_by_key tag_of (holds test) nodes (subst (IsDistinct nat_eq) (sym same_tags) (pruned_distinct test forest distinct))

  -- each tag is at least 1
  low : AllByRecursion (λ settled. 1 ≤ tag_of settled) nodes
  low = each_of_tags nodes (subst (AllByRecursion (λ tag. 1 ≤ tag)) (sym same_tags) tagged)
    where
      each_of_tags : (some : List SettledFields) → AllByRecursion (λ tag. 1 ≤ tag) (map tag_of some) → AllByRecursion (λ settled. 1 ≤ tag_of settled) some
      each_of_tags [] h = tt
      each_of_tags (settled ∷ others) h = (h.0, each_of_tags others h.1)

  -- the nodes in which others may lie have other tags than one in which they may not
  other_tags : (settled : SettledFields) → has_one_of (map tag_of (filter (holds test) nodes)) settled ≡ false → HaveOtherTags test (tag_of settled) nodes
  other_tags settled absent =
      let among = map tag_of (filter (holds test) nodes) in
      each_then (λ other. has_one_of among other ≡ holds test other) (λ other. holds test other ≡ true → nat_eq (tag_of other) (tag_of settled) ≡ false)
      (λ other is own. false_from_ne_true (nat_eq (tag_of other) (tag_of settled))
      (λ same. both_ways (has_one_of among settled) absent (ap (λ tag. list_any (nat_eq tag) among) (sym (eqb-true (tag_of other) (tag_of settled) same)) ∙ is ∙ own))) nodes by_tag

  -- nothing lies below a node in which others may not lie
  each_bare : AllByRecursion (λ settled. holds test settled ≡ false → sites_at all (tag_of settled) ≡ []) nodes
  each_bare =
      each_then (λ settled. (has_one_of (map tag_of (filter (holds test) nodes)) settled ≡ holds test settled) × (1 ≤ tag_of settled))
      (λ settled. holds test settled ≡ false → sites_at all (tag_of settled) ≡ [])
      (λ settled h bare. none_at test (tag_of settled) root forest (below_none (tag_of settled) h.1) (other_tags settled (h.0 ∙ bare))) nodes
      (each_of_two (λ settled. has_one_of (map tag_of (filter (holds test) nodes)) settled ≡ holds test settled) (λ settled. 1 ≤ tag_of settled) nodes by_tag low)
    where
      below_none : (tag : ℕ) → 1 ≤ tag → nat_eq 0 tag ≡ false
      below_none tag h = grind (arith, nat_tests)

  -- and so in a site that shows such a node
  each_shut : AllByRecursion (λ site. holds test (seen_of site) ≡ false → sites_at all site.tag ≡ []) all
  each_shut =
      each_site (λ settled. holds test settled ≡ false → sites_at all (tag_of settled) ≡ []) (λ site. holds test (seen_of site) ≡ false → sites_at all site.tag ≡ [])
      (λ host settled h shut. h (ap (λ b. is_context settled && not b) (sym (seen_alike skip stamps host settled)) ∙ shut)) root (pruned test forest) each_bare

  -- the sites that were found hold others only where they are marked so
  pub found_holding : (sites : List Site) → plain_sites sites ≡ all → AreSitesMarked test sites → HoldOnlyWhereMarked (plain_sites sites) sites
  found_holding sites found marked =
      subst (λ some. HoldOnlyWhereMarked some sites) (sym found)
      (each_found sites (subst (AllByRecursion (λ site. holds test (seen_of site) ≡ false → sites_at all site.tag ≡ [])) (sym found) each_shut) marked)
    where
      each_found : (some : List Site) → AllByRecursion (λ site. holds test (seen_of site) ≡ false → sites_at all site.tag ≡ []) (plain_sites some)
          → AreSitesMarked test some → HoldOnlyWhereMarked all some
      each_found [] h m = All-nil (λ (site : Site). site.may_hold ≡ false → sites_at all (plain_site site).tag ≡ [])
      each_found (site ∷ others) h m =
          let mark : IsSiteMarked test site = m 0 site (omega arith) in
          All-cons (λ (site : Site). site.may_hold ≡ false → sites_at all (plain_site site).tag ≡ []) site others
          (λ shut. h.0 (ap (λ b. is_context site.spot.tree.fields && not b) (found_alike skip stamps site) ∙ sym mark.holds ∙ shut))
          (each_found others h.1 (λ k d lt. m (suc k) d (omega (arith, lt))))

-- and so once they are in order
pub ordered_holding : (old new : List Site) → IsPermutation old new → AreByZ (plain_sites old) (plain_sites new)
    → HoldOnlyWhereMarked (plain_sites old) old → HoldOnlyWhereMarked (plain_sites new) new
ordered_holding old new moved by_z h =
    let kept = All-permutation (λ (site : Site). site.may_hold ≡ false → sites_at (plain_sites old) (plain_site site).tag ≡ []) old new moved h in
    λ k d lt shut. by_z _ ∙ ap (ordered_by (λ site. site.z)) (kept k d lt shut)

-- so there is nothing below a site that is not marked so
pub nothing_below : (levels : ℕ) (sites : List PlainSite) (tag : ℕ) → sites_at sites tag ≡ [] → tree_below levels sites tag ≡ []
nothing_below zero sites tag h = refl
nothing_below (suc levels) sites tag h = ap (λ some. flat_map (λ placed. placed ∷ tree_below levels sites placed.tag) (placed_sites tag 0 some)) h
