use Rattle.std.proofs.Common.{◌≡◌, ℕ}
use Rattle.std.specs.Prelude.{Some, nat_eq}
use Rattle.indexmap.specs.IndexMap.{get, keys}
use Rattle.run_actor.specs.declared.desks.Desk.{Desk}
use Rattle.run_actor.specs.Runs.{MayBegin}
use Rattle.run_actor.specs.Running.{HasRunSoFar, HasRunOnSoFar}
use Rattle.run_actor.proofs.run.run_actor.Given as goal

abbrev pub invariant-loop : goal.invariant-loop
invariant-loop g l =
    (goal.iterator-loop g).can_next l.iterator' × (goal.iterator-loop g).is_finite l.iterator' × (keys l.desks ≡ keys l.fn.desks) × HasRunSoFar l.fn.actor l.actor
    × ((id : ℕ) (was is : Desk g.row.P.Denot) → get nat_eq l.fn.desks id ≡ Some was → get nat_eq l.desks id ≡ Some is
    → MayBegin id (g.P.Port.told was.port) was.mount l.fn.actor
    → HasRunOnSoFar id (g.P.Port.told was.port) (g.P.Port.told is.port) was.mount is.mount l.fn.actor l.actor)
