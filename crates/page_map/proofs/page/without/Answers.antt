use Rattle.page_map.proofs.Cut.{cut_hit, cut_missed}
use Rattle.page_map.proofs.page.without.Goals as goal

pub returns-in-Some-clause-cut : goal.returns-in-Some-clause-cut
returns-in-Some-clause-cut g c = cut_hit c.args.tag c.args.entries.now c.in-Some.first.now c.in-Some.rest.now c.in-Some.ensures.cases.0 c.if-first-tag.true c.requires.rises

pub returns-in_default-clause-cut : goal.returns-in_default-clause-cut
returns-in_default-clause-cut g c = cut_missed c.args.tag c.args.entries.now c.in-Some.first.now c.in-Some.rest.now c.in-Some.ensures.cases.0 c.if-first-tag.false c.requires.rises c.requires.from
