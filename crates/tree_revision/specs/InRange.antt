-- When the values of a script are in range.
use Rattle.std.specs.Prelude.{ℕ, ◌≤◌, List, IsTrue, nat_eq}
use Rattle.std.specs.List.{list_any}
use Rattle.shadow_node.specs.InRange.{IsTagInRange, IsEditInRange}
use Rattle.tree_build.specs.InRange.{AreNodesInRange}
use Rattle.tree_settle.specs.Limits.{IsSizeInRange}
use Rattle.tree_revision.specs.Records.{PlainOp, complete, state, props, resize}
use Rattle.tree_revision.specs.Script.{PlainAct, commit, PlainStep, PlainSurface}

-- a change that a commit makes
abbrev pub IsOpInRange : PlainOp → Type 0
IsOpInRange (complete nodes) = AreNodesInRange nodes
IsOpInRange (state tag change) = IsTagInRange tag
IsOpInRange (props tag change) = IsTagInRange tag × IsEditInRange change
IsOpInRange (resize size) = IsSizeInRange size
IsOpInRange _ = Unit {0}

-- what a step does
abbrev pub IsActInRange : PlainAct → Type 0
IsActInRange (commit op) = IsOpInRange op
IsActInRange _ = Unit {0}

-- a surface: its id is from 1 to 1,000,000, and its size in range
pub record IsSurfaceInRange (surface : PlainSurface) : Type 0 where
  pub low : 1 ≤ surface.id
  pub high : surface.id ≤ 1000000
  pub size : IsSizeInRange surface.size

-- a step: it is on one of the surfaces of these ids, and what it does is in range
pub record IsStepInRange (ids : List ℕ) (step : PlainStep) : Type 0 where
  pub surface : IsTrue (list_any (λ id. nat_eq id step.surface) ids)
  pub act : IsActInRange step.act
