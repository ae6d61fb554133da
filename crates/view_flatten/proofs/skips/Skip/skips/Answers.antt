use Rattle.std.proofs.Common.{◌∙◌, ap, subst, sym}
use Rattle.std.specs.List.{list_any}
use Rattle.std.specs.Prelude.{nat_eq}
use Rattle.view_flatten.proofs.TagSearch.{found_where}
use Rattle.view_flatten.specs.Skips.{DoTagsRise, skips}
use Rattle.view_flatten.proofs.skips.Skip.skips.Goals as goal

pub returns-in-Tags-clause-skips : goal.returns-in-Tags-clause-skips
returns-in-Tags-clause-skips c =
    let tags = c.in-Tags.tags.now in
    let spot = c.args.spot.now in
    c.is_ok.ensures.value ∙ found_where tags c.tag.result c.binary_search.result c.binary_search.ensures.position (subst DoTagsRise c.in-Tags.is c.requires.rise)
    ∙ ap (λ tag. list_any (nat_eq tag) tags) c.tag.ensures.tag ∙ ap (λ skip. skips skip spot.stamps spot.tree.fields) (sym c.in-Tags.is)
