use Rattle.std.proofs.Common.{◌≡◌, map, take}
use Rattle.host_views.specs.Plain.{plain_mutation}
use Rattle.frame_watch.specs.Reading.{frames_by}
use Rattle.frame_watch.proofs.changes.Given as goal

abbrev pub invariant-loop-mutation : goal.invariant-loop-mutation
invariant-loop-mutation l = l.changes.items ≡ frames_by l.registry (map plain_mutation (take l.mutation-index l.list))
