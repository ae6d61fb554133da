-- Where a run stands, as the machine of turns says it.
use Rattle.std.specs.Prelude.{ℕ, List, map}
use Rattle.tree_revision.specs.Records.{PlainRecord}
use Rattle.tree_revision.specs.Ports.{Told}
use Rattle.commit_core.specs.Plain.{plain_told}
use Rattle.commit_core.specs.PlainPorts.{records_of}
use Rattle.commit_core.specs.declared.plain_parts.PlainPass.{PlainPass}
use Rattle.commit_core.specs.declared.plain_parts.PlainPort.{PlainPort}
use Rattle.run_report.specs.Machine.{SurfaceNow, ActorNow, RunNow}
use Rattle.run_actor.specs.declared.desks.Desk.{Desk}
use Rattle.run_engine.specs.declared.workers.Worker.{Worker}
use Rattle.run_engine.specs.declared.runs.Run.{Run}
use Rattle.run_actor.specs.Actors.{actor_now}
use Rattle.run_actor.specs.Event.{base_of}

-- a surface whose history is in one hand
abbrev pub PlainDesk : Type 0
PlainDesk = Desk PlainPort

-- the admitted commits of a surface
abbrev pub desk_records : PlainDesk → List PlainRecord
desk_records desk = records_of desk.port.spine

-- what the port of a surface tells with that pass in it
abbrev pub told_with : PlainPass → PlainDesk → Told
told_with pass desk = plain_told desk.port.spine.first desk.port.spine.room (desk_records desk) pass.seen pass.floor pass.looks desk.port.begun

-- a surface of an id: its base is the one that stands mounted
abbrev pub surface_now : ℕ × PlainDesk → SurfaceNow
surface_now entry = record { id = entry.0; first = entry.1.port.spine.first; records = desk_records entry.1; base = base_of entry.1.mount }

-- an actor
abbrev pub worker_now : Worker → ActorNow
worker_now worker = actor_now worker.actor

-- surfaces and actors
abbrev pub now_of : List (ℕ × PlainDesk) → List Worker → RunNow
now_of entries workers = record { surfaces = map surface_now entries; actors = map worker_now workers }

-- a run
abbrev pub run_now : Run → RunNow
run_now run = now_of run.desks.entries run.workers.items
