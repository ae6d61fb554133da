use Rattle.std.proofs.Common.{ap, ◌∙◌}
use Rattle.page_map.proofs.Taken.{copied_more}
use Rattle.page_map.proofs.page.share_entries.Goals as goal

pub loop-entry-preserved : goal.loop-entry-preserved
loop-entry-preserved g c =
    let item = c.entry-item.result in
    c.in_ok-push.ensures.items ∙ copied_more c.args.all.now.items c.loop-entry.all.items c.args.entries.now c.loop-entry.entry-index item (item.0, c.in_ok-share.field-0) c.loop-entry-test.true c.entry-item.is (ap (λ v. (item.0, v)) c.in_ok-share.ensures) c.loop-entry.invariant
