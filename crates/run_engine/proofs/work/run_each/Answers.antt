use denote.Param.Send.{sendable}
use Rattle.std.proofs.Crossing.{crosses, sync}
use Rattle.run_engine.proofs.work.run_each.Goals as goal

pub needs_sync-requires-sync-T : goal.needs_sync-requires-sync-T
needs_sync-requires-sync-T g c κs =
    let spines = c.spines_are_shared.ensures in
    search (sendable, crosses) depth 20

pub for_each_mut-requires-send-T : goal.for_each_mut-requires-send-T
for_each_mut-requires-send-T g c κs _ = search (sendable, c.jobs_are_sent.ensures) depth 12

pub for_each_mut-requires-sync-F : goal.for_each_mut-requires-sync-F
for_each_mut-requires-sync-F g c κs _ =
    let map = c.needs_sync.ensures in
    let runtime = c.type_bounds.sync-R in
    let gate = c.type_bounds.sync-G in
    search (sendable, crosses, sync) depth 16
