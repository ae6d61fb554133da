use Rattle.std.proofs.Common.{sym, subst}
use Rattle.std.specs.Prelude.{◌^◌}
use Rattle.tree_query.specs.Bounds.{IsPlaceWithin}
use Rattle.tree_query.proofs.Near.{within_moved}
use Rattle.tree_query.proofs.hitting.Inside.meet.Goals as goal

pub is_held-is_held-requires-clause-origin : goal.is_held-is_held-requires-clause-origin
is_held-is_held-requires-clause-origin c =
    subst (IsPlaceWithin (2 ^ 61)) (sym c.moved_by-begin.ensures) (within_moved (2 ^ 60) (2 ^ 60) c.args.self.begin c.args.view.now.frame.origin c.requires.begin c.requires.origin)
