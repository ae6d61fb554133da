-- A script that was read, as plain data.
use Rattle.std.specs.Prelude.{map}
use Rattle.tree_revision.specs.Records.{plain_op}
use Rattle.tree_revision.specs.Script.{PlainAct, commit, hold, mount, PlainStep, PlainActor, PlainSurface, PlainScript}
use Rattle.script_read.specs.declared.script.Act.{Act}
use Rattle.script_read.specs.declared.script.Act.TheVariants.{Commit, Hold, Mount}
use Rattle.script_read.specs.declared.script.Step.{Step}
use Rattle.script_read.specs.declared.script.ActorPlan.{ActorPlan}
use Rattle.script_read.specs.declared.script.SurfacePlan.{SurfacePlan}
use Rattle.script_read.specs.declared.script.Script.{Script}

abbrev pub plain_act : Act → PlainAct
plain_act (Commit op) = commit (plain_op op.value)
plain_act Hold = hold
plain_act Mount = mount

abbrev pub plain_step : Step → PlainStep
plain_step step = record { surface = step.surface; act = plain_act step.act }

abbrev pub plain_actor : ActorPlan → PlainActor
plain_actor actor = record { name = actor.name; steps = map plain_step actor.steps }

abbrev pub plain_surface : SurfacePlan → PlainSurface
plain_surface surface = record { id = surface.id; size = surface.size }

-- the script without pointers
abbrev pub plain_script : Script → PlainScript
plain_script script = record {
  version = script.version;
  surfaces = map plain_surface script.surfaces;
  actors = map plain_actor script.actors;
  turns = script.turns;
}
