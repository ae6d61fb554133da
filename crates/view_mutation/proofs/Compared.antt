-- Two lists of sites in step: one after the other, and at one node.
use Rattle.std.proofs.Common.{◌≡◌, ℕ, List, [], ◌∷◌, ◌++◌, map, true, false, cond, not, Option, Some, None, refl, ap, sym, ◌∙◌, subst, drop, unwrap_or, append-nil, append_assoc}
use Rattle.std.specs.Option.{option_map}
use Rattle.std.specs.Prelude.{pos}
use Rattle.std.proofs.lemmas.List.{map-append}
use Rattle.host_views.specs.declared.Mutation.{Mutation}
use Rattle.host_views.specs.Plain.{PlainMutation, plain_mutation, update}
use Rattle.host_views.specs.Same.{is_same_view}
use Rattle.host_views.proofs.Same.{same_itself}
use Rattle.shadow_kinds.specs.Axes.{z_order_of}
use Rattle.shadow_kinds.specs.Traits.{forms_view_of, is_hidden_of}
use Rattle.shadow_node.specs.Fields.{SettledFields}
use Rattle.view_flatten.specs.declared.sites.Host.{Host}
use Rattle.view_flatten.specs.Sites.{AreLevel, PlainSite, begin_in, host_inside, is_context, shown_host, shown_site, site_in, when}
use Rattle.view_flatten.proofs.Distinct.{each_in_both}
use Rattle.view_mutation.specs.Lookups.{IsListed}
use Rattle.view_mutation.specs.Together.{AreOneParent, AreCompared, StandAlike, site_updates, stands_at}

-- mutations that were added one list after the other
listed_both : (a b c : List Mutation) (first second : List PlainMutation) → IsListed a first b → IsListed b second c → IsListed a (first ++ second) c
listed_both a b c first second h k = record {
  listed = k.listed ∙ ap (λ list. list ++ second) h.listed ∙ append_assoc (map plain_mutation a) first second;
}

-- where sites stand at the same places, their updates come before those of later ones
updates_both : (olds news more_olds more_news : List PlainSite) → stands_at olds ≡ stands_at news
    → site_updates olds news ++ site_updates more_olds more_news ≡ site_updates (olds ++ more_olds) (news ++ more_news)
updates_both [] [] more_olds more_news e = refl
updates_both [] (is ∷ news) more_olds more_news e = let no : ⊥ = cc in absurd no
updates_both (was ∷ olds) [] more_olds more_news e = let no : ⊥ = cc in absurd no
updates_both (was ∷ olds) (is ∷ news) more_olds more_news e =
    let others = updates_both olds news more_olds more_news (ap (drop 1) e) in
    elim (not (is_same_view was.view is.view)) as (λ b. cond b (update is.tag is.view ∷ site_updates olds news) (site_updates olds news) ++ site_updates more_olds more_news
    ≡ cond b (update is.tag is.view ∷ site_updates (olds ++ more_olds) (news ++ more_news)) (site_updates (olds ++ more_olds) (news ++ more_news))) [
      | true ↦ ap (λ list. update is.tag is.view ∷ list) others
      | false ↦ others
    ]

-- no sites are in step
pub compared_none : (list : List Mutation) → AreCompared [] [] list list
compared_none list = record { stands = refl; old_level = tt; new_level = tt; updates = record { listed = sym (append-nil (map plain_mutation list)) } }

-- sites in step, and then others
pub compared_both : (olds news more_olds more_news : List PlainSite) (a b c : List Mutation) → AreCompared olds news a b → AreCompared more_olds more_news b c
    → AreCompared (olds ++ more_olds) (news ++ more_news) a c
compared_both olds news more_olds more_news a b c h k = record {
  stands =
      map-append (λ site. (site.parent, site.tag)) olds more_olds ∙ (λ i. h.stands i ++ k.stands i)
      ∙ sym (map-append (λ site. (site.parent, site.tag)) news more_news);
  old_level = each_in_both (λ site. site.z ≡ pos 0) olds more_olds h.old_level k.old_level;
  new_level = each_in_both (λ site. site.z ≡ pos 0) news more_news h.new_level k.new_level;
  updates = subst (λ updates. IsListed a updates c) (updates_both olds news more_olds more_news h.stands)
      (listed_both a b c (site_updates olds news) (site_updates more_olds more_news) h.updates k.updates);
}

-- the same sites have no updates
no_updates : (sites : List PlainSite) → site_updates sites sites ≡ []
no_updates [] = refl
no_updates (site ∷ sites) =
    ap (λ b. cond (not b) (update site.tag site.view ∷ site_updates sites sites) (site_updates sites sites)) (same_itself site.view) ∙ no_updates sites

-- a node's own site at z 0
own_level : (host : Option Host) (settled : SettledFields) → z_order_of settled.fields.props ≡ pos 0 → AreLevel (shown_site host settled)
own_level None settled e = tt
own_level (Some host) settled e =
    elim (forms_view_of settled.fields.kind settled.fields.props) as (λ b. AreLevel (when b (site_in host settled))) [ true ↦ (e, tt) | false ↦ tt ]

-- a node that stands where it stood is in step with itself
pub compared_still : (was_in is_in : Option Host) (was is : SettledFields) (list : List Mutation) → was_in ≡ is_in → was ≡ is → z_order_of is.fields.props ≡ pos 0
    → AreCompared (shown_site was_in was) (shown_site is_in is) list list
compared_still was_in is_in was is list same_host same level =
    let site = shown_site is_in is in
    subst (λ old. AreCompared old site list list) (sym (λ i. shown_site (same_host i) (same i)))
    (record {
      stands = refl;
      old_level = own_level is_in is level;
      new_level = own_level is_in is level;
      updates = record { listed = sym (ap (λ updates. map plain_mutation list ++ updates) (no_updates site) ∙ append-nil (map plain_mutation list)) };
    })

-- the tag of a host parent
abbrev parent_of : Host → ℕ
parent_of host = host.parent

module _ (was is : SettledFields) (alike : StandAlike was is) where
  -- the own sites of two nodes that stand alike stand at one place
  own_stands : (was_in is_in : Option Host) → AreOneParent was_in is_in → stands_at (shown_site was_in was) ≡ stands_at (shown_site is_in is)
  own_stands None None e = refl
  own_stands None (Some is_in) e = let no : ⊥ = cc in absurd no
  own_stands (Some was_in) None e = let no : ⊥ = cc in absurd no
  own_stands (Some was_in) (Some is_in) e =
      ap (λ b. stands_at (when b (site_in was_in was))) alike.view
      ∙ elim (forms_view_of is.fields.kind is.fields.props) as (λ b. stands_at (when b (site_in was_in was)) ≡ stands_at (when b (site_in is_in is))) [
        | true ↦ λ i. (ap (λ o. unwrap_or o was_in.parent) e i, alike.tag i) ∷ []
        | false ↦ refl
      ]

  -- and are in step where their update was added
  pub compared_own : (was_in is_in : Option Host) (before after : List Mutation) → AreOneParent was_in is_in
      → IsListed before (site_updates (shown_site was_in was) (shown_site is_in is)) after
      → AreCompared (shown_site was_in was) (shown_site is_in is) before after
  compared_own was_in is_in before after parent updates = record {
    stands = own_stands was_in is_in parent;
    old_level = own_level was_in was alike.old_level;
    new_level = own_level is_in is alike.new_level;
    updates = updates;
  }

  -- hosts of one tag stay so, where a node may be hidden
  pub one_shown_parent : (was_in is_in : Option Host) → AreOneParent was_in is_in → AreOneParent (shown_host was_in was) (shown_host is_in is)
  one_shown_parent was_in is_in e =
      ap (λ b. option_map (λ host. host.parent) (cond b None was_in)) alike.hidden
      ∙ elim (is_hidden_of is.fields.props) as (λ b. option_map (λ host. host.parent) (cond b None was_in) ≡ option_map (λ host. host.parent) (cond b None is_in)) [
        | true ↦ refl
        | false ↦ e
      ]

  -- and below the nodes
  pub one_parent_inside : (was_in is_in : Option Host) → AreOneParent was_in is_in
      → AreOneParent (option_map (λ host. host_inside host was) was_in) (option_map (λ host. host_inside host is) is_in)
  one_parent_inside None None e = refl
  one_parent_inside None (Some is_in) e = let no : ⊥ = cc in absurd no
  one_parent_inside (Some was_in) None e = let no : ⊥ = cc in absurd no
  one_parent_inside (Some was_in) (Some is_in) e =
      ap Some (parent_inside was_in was ∙ (λ i. cond (alike.context i) (alike.tag i) (ap (λ o. unwrap_or o was_in.parent) e i)) ∙ sym (parent_inside is_in is))
    where
      parent_inside : (host : Host) (settled : SettledFields) → (host_inside host settled).parent ≡ cond (is_context settled) settled.fields.tag host.parent
      parent_inside host settled =
          let own : Host = record { parent = settled.fields.tag; begin = record { x = pos 0; y = pos 0 } } in
          let same : Host = record { parent = host.parent; begin = begin_in host settled } in
          elim (is_context settled) as (λ b. parent_of (cond b own same) ≡ cond b settled.fields.tag host.parent) [ true ↦ refl | false ↦ refl ]
