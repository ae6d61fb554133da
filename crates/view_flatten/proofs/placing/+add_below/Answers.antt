use Rattle.std.proofs.Common.{◌≡◌, ◌-◌, ◌<◌, [], ◌++◌, false, length, rules, refl, ap, sym, subst, ◌∙◌}
use Rattle.std.proofs.lemmas.List.{append-nil}
use Rattle.view_flatten.specs.declared.sites.Site.{Site}
use Rattle.view_flatten.specs.Placed.{plain_places}
use Rattle.view_flatten.specs.Placing.{sites_at}
use Rattle.view_flatten.specs.Sites.{plain_site, plain_sites}
use Rattle.view_flatten.proofs.Blocks.{blocks_after}
use Rattle.view_flatten.proofs.Holding.{nothing_below}
use Rattle.view_flatten.proofs.placing.+add_below.Goals as goal

pub loop-index-preserved : goal.loop-index-preserved
loop-index-preserved t c =
    let kept = c.loop-index.invariant in
    let site = c.site-item.result in
    let sites = c.children_of-site-items.result.now in
    let lt : c.loop-index.index < length sites = search rules in
    record {
      left =
          blocks_after (c.args.levels - 1) (plain_sites c.args.sites.now) c.args.parent c.loop-index.index c.tag.result sites site (plain_places c.loop-index.places.items) (plain_places c.add_place.new.places.items) (plain_places c.add_below.new.places.items) _ lt c.site-item.is c.tag.ensures.tag
          c.in_ok-add_place.ensures.places c.in_ok-add_below.ensures.places kept.left;
      sites = kept.sites;
      closed = kept.closed;
      places = λ test marked places. c.in_ok-add_below.ensures.marked test marked
          (c.in_ok-add_place.ensures.marked test (ap (λ (site : Site). site.is_skipped) c.site-item.is ∙ (kept.sites test marked c.loop-index.index site lt).skipped ∙ ap (λ (site : Site). test site.spot.tree.fields) (sym c.site-item.is)) (kept.places test marked places));
      len = kept.len;
    }

pub loop-index-preserved-then-not-site : goal.loop-index-preserved-then-not-site
loop-index-preserved-then-not-site t c =
    let kept = c.loop-index.invariant in
    let site = c.site-item.result in
    let sites = c.children_of-site-items.result.now in
    let all = plain_sites c.args.sites.now in
    let levels = c.args.levels - 1 in
    let placed = plain_places c.add_place.new.places.items in
    let lt : c.loop-index.index < length sites = search rules in
    let shut : site.may_hold ≡ false = search rules in
    let bare : sites_at all (plain_site site).tag ≡ [] =
    subst (λ (other : Site). other.may_hold ≡ false → sites_at all (plain_site other).tag ≡ []) (sym c.site-item.is) (kept.closed c.loop-index.index site lt) shut in
    record {
      left =
          blocks_after levels all c.args.parent c.loop-index.index (plain_site site).tag sites site (plain_places c.loop-index.places.items) placed placed _ lt c.site-item.is refl
          c.in_ok-add_place.ensures.places (sym (append-nil placed) ∙ ap (λ below. placed ++ below) (sym (nothing_below levels all (plain_site site).tag bare))) kept.left;
      sites = kept.sites;
      closed = kept.closed;
      places = λ test marked places. c.in_ok-add_place.ensures.marked test (ap (λ (site : Site). site.is_skipped) c.site-item.is ∙ (kept.sites test marked c.loop-index.index site lt).skipped ∙ ap (λ (site : Site). test site.spot.tree.fields) (sym c.site-item.is)) (kept.places test marked places);
      len = kept.len;
    }
