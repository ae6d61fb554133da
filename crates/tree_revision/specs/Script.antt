-- A script as plain data.
use Rattle.std.specs.Prelude.{ℕ, List}
use Rattle.shadow_frame.specs.declared.Size.{Size}
use Rattle.tree_revision.specs.Records.{PlainOp}

-- what a step does
pub data PlainAct : Type 0 where
  commit : PlainOp → PlainAct
  hold : PlainAct
  mount : PlainAct

-- a step, on the surface of that id
pub record PlainStep : Type 0 where
  pub surface : ℕ
  pub act : PlainAct

-- an actor: its name, and its steps in order
pub record PlainActor : Type 0 where
  pub name : List ℕ
  pub steps : List PlainStep

-- a surface: its id and its first size
pub record PlainSurface : Type 0 where
  pub id : ℕ
  pub size : Size

-- a script: its surfaces and actors, and the list of turns, each the number of an actor
pub record PlainScript : Type 0 where
  pub version : ℕ
  pub surfaces : List PlainSurface
  pub actors : List PlainActor
  pub turns : List ℕ
