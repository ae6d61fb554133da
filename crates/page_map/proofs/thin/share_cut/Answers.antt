use Rattle.std.proofs.Common.{◌≡◌, ap, sym, ◌∙◌, ◌++◌, take, drop, take-append-drop}
use Rattle.page_map.proofs.Cut.{copied_cut}
use Rattle.page_map.proofs.Rising.{rising_right}
use Rattle.page_map.proofs.thin.share_cut.Goals as goal

pub without-requires-clause-rises : goal.without-requires-clause-rises
without-requires-clause-rises g c =
    let es = c.args.entries.now in
    let at = c.place_of.result in
    rw c.split_at.ensures.back (rising_right (take at es) (drop at es) (rw take-append-drop c.requires))

pub returns : goal.returns
returns g c =
    let es = c.args.entries.now in
    let at = c.place_of.result in
    let old = c.args.all.now.items in
    let below = c.split_at.result.0.now in
    let whole : es ≡ below ++ c.split_at.result.1.now = rw (c.split_at.ensures.front, c.split_at.ensures.back) (sym (take-append-drop at es)) in
    c.in_ok-share_entries-2.ensures
    ∙ ap (λ xs. xs ++ c.without.result.now) c.in_ok-share_entries.ensures
    ∙ copied_cut c.args.tag old es below c.split_at.result.1.now c.without.result.now whole (rw c.split_at.ensures.front c.place_of.ensures.below) c.without.ensures.cut
