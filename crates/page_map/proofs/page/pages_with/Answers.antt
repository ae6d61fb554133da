use Rattle.std.proofs.Common.{◌≡◌, ◌-◌, ◌≤◌, ◌++◌, length, take, drop, take-append-drop, sym, ap, ◌∙◌, arith}
use Rattle.page_map.specs.Pages.{joined}
use Rattle.page_map.proofs.Counts.{raised_by_more}
use Rattle.page_map.proofs.Rising.{rising_left}
use Rattle.page_map.proofs.Joined.{here_rises, above_rises}
use Rattle.page_map.proofs.Merged.{rising-all_put, some_mine, placing_none, placing_more}
use Rattle.page_map.proofs.page.pages_with.Goals as goal

pub count_below-requires-clause-rises : goal.count_below-requires-clause-rises
count_below-requires-clause-rises g c = above_rises c.loop-first.left.now _ _ _ _ c.parted.ensures c.loop-first.invariant.placing.left_rises

pub merged-requires-clause-entries : goal.merged-requires-clause-entries
merged-requires-clause-entries g c = here_rises c.loop-first.left.now _ _ _ _ c.parted.ensures c.loop-first.invariant.placing.left_rises

pub merged-requires-clause-new : goal.merged-requires-clause-new
merged-requires-clause-new g c =
    let rest = c.loop-first.rest.now in
    let at = c.count_below.result in
    rw c.split_at.ensures.front (rising_left (take at rest) (drop at rest) (rw take-append-drop c.loop-first.invariant.placing.rest_rises))

pub push_parted-requires-clause-rises : goal.push_parted-requires-clause-rises
push_parted-requires-clause-rises g c =
    let here = here_rises c.loop-first.left.now _ _ _ _ c.parted.ensures c.loop-first.invariant.placing.left_rises in
    rw c.in_ok-entries.ensures.put (rising-all_put c.parted.result.1.now c.split_at.result.0.now here)

pub push_parted-requires-clause-some : goal.push_parted-requires-clause-some
push_parted-requires-clause-some g c =
    let was = c.loop-first.invariant.placing in
    let rest = c.loop-first.rest.now in
    let mine = c.split_at.result.0.now in
    let later = c.split_at.result.1.now in
    let cut : rest ≡ mine ++ later = rw (c.split_at.ensures.front, c.split_at.ensures.back) (sym (take-append-drop c.count_below.result rest)) in
    let low = rw (sym c.split_at.ensures.front) at c.count_below.ensures.below in
    let high = rw (sym c.split_at.ensures.back) at c.count_below.ensures.rest in
    let some : 1 ≤ length mine = some_mine c.loop-first.left.now _ _ _ rest mine later _ _ c.parted.ensures was.left_rises c.in-Some.ensures.cases.0 was.rest_rises cut low high in
    omega (arith, some, c.in_ok-entries.ensures.at_least)

pub loop-first-smaller : goal.loop-first-smaller
loop-first-smaller g c =
    let was = c.loop-first.invariant.placing in
    let rest = c.loop-first.rest.now in
    let mine = c.split_at.result.0.now in
    let later = c.split_at.result.1.now in
    let cut : rest ≡ mine ++ later = rw (c.split_at.ensures.front, c.split_at.ensures.back) (sym (take-append-drop c.count_below.result rest)) in
    let low = rw (sym c.split_at.ensures.front) at c.count_below.ensures.below in
    let high = rw (sym c.split_at.ensures.back) at c.count_below.ensures.rest in
    let some : 1 ≤ length mine = some_mine c.loop-first.left.now _ _ _ rest mine later _ _ c.parted.ensures was.left_rises c.in-Some.ensures.cases.0 was.rest_rises cut low high in
    omega (arith, some)

pub loop-first-preserved : goal.loop-first-preserved
loop-first-preserved g c =
    let was = c.loop-first.invariant.placing in
    let rest = c.loop-first.rest.now in
    let mine = c.split_at.result.0.now in
    let later = c.split_at.result.1.now in
    let cut : rest ≡ mine ++ later = rw (c.split_at.ensures.front, c.split_at.ensures.back) (sym (take-append-drop c.count_below.result rest)) in
    let low = rw (sym c.split_at.ensures.front) at c.count_below.ensures.below in
    let high = rw (sym c.split_at.ensures.back) at c.count_below.ensures.rest in
    let some : 1 ≤ length mine = some_mine c.loop-first.left.now _ _ _ rest mine later _ _ c.parted.ensures was.left_rises c.in-Some.ensures.cases.0 was.rest_rises cut low high in
    let front = joined c.loop-first.pages.items ++ joined c.parted.result.0.now in
    let is = c.in_ok-push_parted.ensures.joined ∙ ap (λ es. es ++ c.in_ok-entries.entries.items) c.in_ok-share_pages.ensures.joined ∙ ap (λ es. front ++ es) c.in_ok-entries.ensures.put in
    let wide : length c.in_ok-entries.entries.items ≡ _ = ap length c.in_ok-entries.ensures.put in
    record {
      placing = placing_more c.args.kept.now c.args.new.now c.loop-first.pages.items c.loop-first.left.now rest was _ _ _ mine later _ _ c.parted.ensures c.in-Some.ensures.cases.0 cut low high c.in_ok-entries.ensures.in_range c.push_parted.new.pages.items is c.in_ok-push_parted.ensures.pages
          (λ short. let one = c.in_ok-push_parted.ensures.one (omega (arith, wide)) in omega (arith, one, c.in_ok-share_pages.ensures.count))
          (λ enough pages below. c.in_ok-push_parted.ensures.half_full (omega (arith, wide)) (c.in_ok-share_pages.ensures.half_full pages below));
      counted = rw c.in_ok-push_parted.ensures.counted (raised_by_more c.args.count.now c.loop-first.count (length c.args.new.now - length rest) (length mine) (length c.in_ok-entries.entries.items) (length c.args.new.now - length later) c.loop-first.invariant.counted (omega (arith, c.in_ok-entries.ensures.at_least)) (omega (arith, was.shorter)));
      never_falls = omega arith;
      at_most = omega (arith, some, c.in_ok-entries.ensures.at_most, c.parted.ensures.has_room);
    }

pub loop-first-init : goal.loop-first-init
loop-first-init g c = record {
  placing = rw c.new-pages.ensures.items (placing_none c.args.kept.now c.args.new.now c.requires.pages c.requires.few c.requires.rises c.requires.in_range c.requires.new);
  counted = omega arith;
  never_falls = omega arith;
  at_most = omega arith;
}
