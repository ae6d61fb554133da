-- Sites placed one after the other, each with those below it.
use Rattle.std.proofs.Common.{◌≡◌, ℕ, suc, ◌+◌, ◌<◌, List, [], ◌∷◌, ◌++◌, length, drop, get_or, drop-cons, add-one, append_assoc, refl, sym, ap, ◌∙◌}
use Rattle.host_views.specs.Plain.{PlainHostTree}
use Rattle.view_flatten.specs.declared.sites.Site.{Site}
use Rattle.view_flatten.specs.Placing.{blocks_below, placed_site, placed_sites, tree_below}
use Rattle.view_flatten.specs.Sites.{PlainSite, plain_site, plain_sites}

-- what is left to place from an index on, after the site there with those below it
pub blocks_after : (levels : ℕ) (all : List PlainSite) (parent index tag : ℕ) (sites : List Site) (site : Site) (a b new whole : PlainHostTree)
    → index < length sites → site ≡ get_or sites index site → tag ≡ (plain_site site).tag
    → b ≡ a ++ placed_site parent index (plain_site site) ∷ [] → new ≡ b ++ tree_below levels all tag
    → a ++ blocks_below levels all (placed_sites parent index (plain_sites (drop index sites))) ≡ whole
    → new ++ blocks_below levels all (placed_sites parent (index + 1) (plain_sites (drop (index + 1) sites))) ≡ whole
blocks_after levels all parent index tag sites site a b new whole lt is tag_is own below h =
    let placed = placed_site parent index (plain_site site) in
    let rest = blocks_below levels all (placed_sites parent (index + 1) (plain_sites (drop (index + 1) sites))) in
    let tree = tree_below levels all placed.tag in
    let cons : drop index sites ≡ get_or sites index site ∷ drop (suc index) sites = drop-cons sites index site lt in
    let split : drop index sites ≡ site ∷ drop (index + 1) sites = rw (cons, ← is, add-one) refl in
    ap (λ new. new ++ rest) (below ∙ (λ i. own i ++ tree_below levels all (tag_is i)))
    ∙ append_assoc (a ++ placed ∷ []) tree rest ∙ append_assoc a (placed ∷ []) (tree ++ rest)
    ∙ ap (λ left. a ++ blocks_below levels all (placed_sites parent index (plain_sites left))) (sym split) ∙ h
