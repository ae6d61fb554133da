use Rattle.std.proofs.Common.{arith, ap, ◌++◌, ◌∙◌, length, take, drop, take-append-drop, append_assoc}
use Rattle.page_map.specs.Pages.{joined}
use Rattle.page_map.proofs.Counts.{raised_through}
use Rattle.page_map.proofs.Joined.{part_is_page, part_and_rest}
use Rattle.page_map.proofs.Rising.{rising_right}
use Rattle.page_map.proofs.page.push_shared.Goals as goal

pub push_page-requires-clause-page : goal.push_page-requires-clause-page
push_page-requires-clause-page g c =
    part_is_page c.loop-rest.rest.now c.in_ok-shared_entries.field-0.items (c.in_ok-shared_entries.ensures ∙ c.split_at.ensures.front) c.loop-rest.invariant.rises c.loop-rest-test.true

pub loop-rest-preserved : goal.loop-rest-preserved
loop-rest-preserved g c =
    let rest = c.loop-rest.rest.now in
    let old = joined c.loop-rest.pages.items in
    let is = c.in_ok-shared_entries.ensures ∙ c.split_at.ensures.front in
    let parts = part_and_rest rest c.in_ok-shared_entries.field-0.items c.split_at.result.1.now is c.split_at.ensures.back c.loop-rest-test.true in
    record {
      joined = ap (λ es. es ++ c.split_at.result.1.now) c.in_ok-push_page.ensures.joined
          ∙ rw (is, c.split_at.ensures.back) (append_assoc old (take 32 rest) (drop 32 rest) ∙ ap (λ es. old ++ es) (take-append-drop 32 rest))
          ∙ c.loop-rest.invariant.joined;
      pages = c.in_ok-push_page.ensures.pages;
      rises = rw c.split_at.ensures.back (rising_right (take 32 rest) (drop 32 rest) (rw take-append-drop c.loop-rest.invariant.rises));
      half_full = λ were. c.in_ok-push_page.ensures.half_full (omega (arith, parts.0)) (c.loop-rest.invariant.half_full were);
      many = omega (arith, parts.0, parts.1);
      short = omega (arith, parts.1, c.loop-rest.invariant.short);
      counted = raised_through c.args.count.now c.loop-rest.count _ (length c.args.entries.now) (length rest) (length c.in_ok-shared_entries.field-0.items) (length c.split_at.result.1.now) c.loop-rest.invariant.counted c.in_ok-push_page.ensures.counted parts.1 c.loop-rest.invariant.short;
    }
