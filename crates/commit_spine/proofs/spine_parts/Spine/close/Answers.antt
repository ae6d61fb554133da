use Rattle.std.proofs.Common.{rules, sym}
use Rattle.std.specs.Prelude.{Some, None}
use Rattle.commit_spine.proofs.Closing.{ends_with}
use Rattle.commit_spine.proofs.spine_parts.Spine.close.Goals as goal

pub unreachable-requires : goal.unreachable-requires
unreachable-requires c =
    let kept = c.pass.inside.seat.me.0 in
    let end = ends_with _ _ kept _ _ None (search rules) (search rules) (search rules) c.close_with-closed.ensures.values.2 (search rules) in end.store

pub returns : goal.returns
returns c =
    let kept = c.pass.inside.seat.me.0 in
    rw (sym c.pass.view_is) (ends_with _ _ kept _ _ (Some c.in-Some.store) (search rules) (search rules) (search rules) c.close_with-closed.ensures.values.2 (search rules))
