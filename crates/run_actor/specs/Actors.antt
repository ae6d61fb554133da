-- Actors in a run as plain data.
use Rattle.std.specs.Prelude.{◌≡◌, ℕ, List, length, nat_eq, Option, Some, None, option_and_then, option_map, unwrap_or, refl}
use Rattle.std.specs.Map.{lookup}
use Rattle.std.specs.Coded.{Coded, code_by, coded×, coded_list, coded_option, coded_ℕ}
use Rattle.tree_revision.specs.Records.{PlainOp, PlainRecord}
use Rattle.tree_revision.specs.CodedRecords.{coded_op}
use Rattle.tree_revision.specs.Script.{PlainAct, commit, hold, mount, PlainStep}
use Rattle.tree_revision.specs.Settled.{KeptRevision, coded_kept}
use Rattle.commit_core.specs.Commit.{PlainCommit, coded_commit, looked_at}
use Rattle.run_report.specs.declared.journal.StepPart.{StepPart}
use Rattle.run_report.specs.contracts.journal.StepPart as step_part
use Rattle.run_report.specs.declared.journal.MountPart.{MountPart}
use Rattle.run_report.specs.contracts.journal.MountPart as mount_part
use Rattle.run_report.specs.Points.{number_held}
use Rattle.run_report.specs.Machine.{ActorNow}

-- an actor in a run: its number and its name, the steps left, the answers so far, the transactions of its mounts, each with its surface's id, the revision that it holds on each surface, and the commit under way
pub record RunningActor : Type 0 where
  pub number : ℕ
  pub name : List ℕ
  pub left : List PlainStep
  pub answers : List StepPart
  pub mounts : List (ℕ × MountPart)
  pub held : List (ℕ × KeptRevision)
  pub commit : Option PlainCommit

-- a step by its surface's id and by its change, where it is a commit, or whether it holds
abbrev act_of : Option (Option PlainOp) → PlainAct
act_of None = mount
act_of (Some None) = hold
act_of (Some (Some op)) = commit op

abbrev change_in : PlainAct → Option (Option PlainOp)
change_in mount = None
change_in hold = Some None
change_in (commit op) = Some (Some op)

pub act_of_change : (act : PlainAct) → act_of (change_in act) ≡ act
act_of_change mount = refl
act_of_change hold = refl
act_of_change (commit op) = refl

abbrev coded_act : Coded PlainAct
coded_act = code_by (Option (Option PlainOp)) (coded_option (coded_option coded_op)) change_in act_of act_of_change

abbrev coded_step : Coded PlainStep
coded_step = code_by (ℕ × PlainAct) (coded× coded_ℕ coded_act) (λ s. (s.surface, s.act)) (λ p. record { surface = p.0; act = p.1 }) (λ _. refl)

abbrev pub coded_actor : Coded RunningActor
coded_actor =
    code_by (ℕ × (List ℕ × (List PlainStep × (List StepPart × (List (ℕ × MountPart) × (List (ℕ × KeptRevision) × Option PlainCommit))))))
    (coded× coded_ℕ (coded× (coded_list coded_ℕ) (coded× (coded_list coded_step) (coded× (coded_list (step_part.the_row).coded)
    (coded× (coded_list (coded× coded_ℕ (mount_part.the_row).coded)) (coded× (coded_list (coded× coded_ℕ coded_kept)) (coded_option coded_commit)))))))
    (λ a. (a.number, (a.name, (a.left, (a.answers, (a.mounts, (a.held, a.commit)))))))
    (λ p. record { number = p.0; name = p.1.0; left = p.1.1.0; answers = p.1.1.1.0; mounts = p.1.1.1.1.0; held = p.1.1.1.1.1.0; commit = p.1.1.1.1.1.1 })
    (λ _. refl)

-- how often a commit under way has looked
abbrev pub tries_under : Option PlainCommit → ℕ
tries_under under = unwrap_or (option_map (λ commit. commit.tries) under) 0

-- where an actor stands, as the machine of turns says it
abbrev pub actor_now : RunningActor → ActorNow
actor_now actor = record {
  name = actor.name;
  left = actor.left;
  answers = actor.answers;
  tries = tries_under actor.commit;
  looked = option_and_then looked_at actor.commit;
}

-- the revision that an actor holds on the surface of that id
abbrev pub revision_held : (id : ℕ) → RunningActor → Option KeptRevision
revision_held id actor = lookup (nat_eq id) actor.held

-- what is recorded of a commit of an actor on the surface of that id
abbrev pub commit_record : (id : ℕ) → PlainOp → RunningActor → PlainRecord
commit_record id op actor = record { actor = actor.number; call = length actor.answers; held = number_held id actor.answers; op = op }
