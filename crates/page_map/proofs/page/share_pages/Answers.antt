use Rattle.std.proofs.Common.{[], ◌∷◌, ap, length, length-append, arith}
use Rattle.page_map.proofs.Joined.{joined_more, are_pages_more, half_full_more}
use Rattle.page_map.proofs.page.share_pages.Goals as goal

pub loop-page-preserved : goal.loop-page-preserved
loop-page-preserved g c =
    let pages = c.args.pages.now in
    let i = c.loop-page.page-index in
    record {
      joined = rw c.in_ok-push.ensures.items (joined_more c.args.all.now.items c.loop-page.all.items pages i c.page-item.result c.in_ok-try_clone.field-0 c.loop-page-test.true c.page-item.is c.in_ok-try_clone.ensures c.loop-page.invariant.joined);
      pages = rw c.in_ok-push.ensures.items (are_pages_more c.loop-page.all.items pages i c.page-item.result c.in_ok-try_clone.field-0 c.loop-page-test.true c.page-item.is c.in_ok-try_clone.ensures c.requires.pages c.loop-page.invariant.pages);
      count = omega (arith, c.loop-page.invariant.count, ap length c.in_ok-push.ensures.items, length-append c.loop-page.all.items (c.in_ok-try_clone.field-0 ∷ []));
      half_full = λ were half. rw c.in_ok-push.ensures.items (half_full_more c.loop-page.all.items pages i c.page-item.result c.in_ok-try_clone.field-0 c.loop-page-test.true c.page-item.is c.in_ok-try_clone.ensures half (c.loop-page.invariant.half_full were half));
    }
