use Rattle.std.proofs.Common.{drop, take, length}
use Rattle.page_map.proofs.Joined.{low_of_first, reach_of_first, low_of_none}
use Rattle.page_map.proofs.page.count_below.Goals as goal

pub returns-in-Some-clause-below : goal.returns-in-Some-clause-below
returns-in-Some-clause-below g c =
    let low = rw (c.first_tag.ensures, c.deref.ensures) at c.place_of.ensures.below in
    low_of_first c.args.pages.now c.in-Some.page.now _ (take c.place_of.result c.args.new.now) c.in-Some.ensures.cases.0 c.requires.pages c.requires.rises low

pub returns-in-Some-clause-rest : goal.returns-in-Some-clause-rest
returns-in-Some-clause-rest g c =
    let from = rw (c.first_tag.ensures, c.deref.ensures) at c.place_of.ensures.rest in
    reach_of_first c.args.pages.now c.in-Some.page.now _ (drop c.place_of.result c.args.new.now) c.in-Some.ensures.cases.0 c.requires.pages from

pub returns-in-None-clause-below : goal.returns-in-None-clause-below
returns-in-None-clause-below g c = low_of_none c.args.pages.now (take (length c.args.new.now) c.args.new.now) c.in-None.ensures.cases
