use Rattle.std.proofs.Common.{sym, take, drop, take-append-drop, arith}
use Rattle.page_map.proofs.Rising.{rising_right}
use Rattle.page_map.proofs.Merged.{merging_more}
use Rattle.page_map.proofs.page.merged.Goals as goal

pub place_of-requires : goal.place_of-requires
place_of-requires g c = rising_right c.loop-entry.all.items c.loop-entry.rest.now c.loop-entry.invariant.rises

pub without-rest-requires-clause-rises : goal.without-rest-requires-clause-rises
without-rest-requires-clause-rises g c =
    let rest = c.loop-entry.rest.now in
    let at = c.place_of.result in
    let rises = rising_right c.loop-entry.all.items rest c.loop-entry.invariant.rises in
    rw c.split_at.ensures.back (rising_right (take at rest) (drop at rest) (rw take-append-drop rises))

pub loop-entry-preserved : goal.loop-entry-preserved
loop-entry-preserved g c =
    let rest = c.loop-entry.rest.now in
    let at = c.place_of.result in
    let new = c.args.new.now in
    let i = c.loop-entry.entry-index in
    let entry = c.entry-item.result in
    rw (c.in_ok-push.ensures.items, c.in_ok-share_entries.ensures, c.split_at.ensures.front, c.in_ok-share.ensures) (merging_more c.args.entries.now new i c.loop-entry.all.items rest (take at rest) (drop at rest) c.without-rest.result.now entry.0 entry.1 c.loop-entry.invariant c.requires.new c.loop-entry-test.true (sym c.entry-item.is) (sym (take-append-drop at rest)) c.place_of.ensures.below (rw (sym c.split_at.ensures.back) (c.without-rest.ensures.put _)) (rw (sym c.split_at.ensures.back) c.without-rest.ensures.short) (omega arith))
