use Rattle.std.proofs.Common.{◌≡◌, ◌&&◌, false, map, take}
use Rattle.std.specs.Prelude.{nat_eq}
use Rattle.std.specs.List.{list_any}
use Rattle.tree_revision.specs.Sound.{is_mount}
use Rattle.script_read.specs.Plain.{plain_step}
use Rattle.run_engine.proofs.jobs.mount_there.Given as goal

abbrev pub invariant-loop-step : goal.invariant-loop-step
invariant-loop-step l = list_any (λ step. is_mount step.act && nat_eq step.surface l.id) (map plain_step (take l.step-index l.steps)) ≡ false
