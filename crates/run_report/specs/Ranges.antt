-- The numbers of a journal that its report writes: each has at most 64 bits.
use Rattle.std.specs.Prelude.{ℕ, ℤ, ◌<◌, ◌^◌, Option, Some, None}
use Rattle.std.specs.Int.Signed.{mag}
use Rattle.std.specs.List.{AllByRecursion}
use Rattle.shadow_frame.specs.declared.Rect.{Rect}
use Rattle.native_state.specs.declared.StateCell.{StateCell}
use Rattle.prop_table.specs.Table.{AreNodeProps}
use Rattle.host_views.specs.declared.HostView.{HostView}
use Rattle.host_views.specs.Plain.{PlainPlacedView, PlainMutation, create, delete, insert, remove, update}
use Rattle.tree_revision.specs.Records.{PlainRecord}
use Rattle.tree_revision.specs.declared.record.Cancel.{Cancel}
use Rattle.tree_revision.specs.declared.record.Cancel.TheVariants.{Unkept, ChildOfLeaf, TwiceTag, TooDeep, TooManyNodes, KindChanged, FamiliesFull, NotMounted, Stateless, Stale}
use Rattle.tree_revision.specs.declared.record.Answer.{Answer}
use Rattle.tree_revision.specs.declared.record.Answer.TheVariants.{Held, Admitted, Cancelled, Mounted, Empty}
use Rattle.run_report.specs.declared.journal.StepName.{StepName}
use Rattle.run_report.specs.Journal.{PlainMount, PlainSurfacePart, PlainActorPart, PlainJournal}

-- a number of 64 bits
abbrev pub IsNumber : ℕ → Type 0
IsNumber n = n < 2 ^ 64

-- a coordinate: a signed number of 64 bits
abbrev pub IsCoordinate : ℤ → Type 0
IsCoordinate n = mag n < 2 ^ 63

-- a frame
pub record IsFrameInRange (frame : Rect) : Type 0 where
  pub x : IsCoordinate frame.origin.x
  pub y : IsCoordinate frame.origin.y
  pub width : IsCoordinate frame.size.width
  pub height : IsCoordinate frame.size.height

-- a state
pub record IsCellInRange (cell : StateCell) : Type 0 where
  pub count : IsNumber cell.count
  pub x : IsCoordinate cell.point.x
  pub y : IsCoordinate cell.point.y

-- a state, where there is one
abbrev pub IsStateInRange : Option StateCell → Type 0
IsStateInRange None = Unit {0}
IsStateInRange (Some cell) = IsCellInRange cell

-- a view: its frame, its state, and its props, which are in the ranges of the node's table
pub record IsViewInRange (view : HostView) : Type 0 where
  pub frame : IsFrameInRange view.frame
  pub state : IsStateInRange view.state
  pub props : AreNodeProps view.props

-- a mutation, with the view that it carries
abbrev pub IsMutationInRange : PlainMutation → Type 0
IsMutationInRange (create tag view) = IsNumber tag × IsViewInRange view
IsMutationInRange (delete tag) = IsNumber tag
IsMutationInRange (insert parent tag index) = IsNumber parent × IsNumber tag × IsNumber index
IsMutationInRange (remove parent tag index) = IsNumber parent × IsNumber tag × IsNumber index
IsMutationInRange (update tag view) = IsNumber tag × IsViewInRange view

-- the call of the step that mounted, where there is one
abbrev pub IsCallInRange : Option StepName → Type 0
IsCallInRange None = Unit {0}
IsCallInRange (Some step) = IsNumber step.call

-- a mount
pub record IsMountInRange (mount : PlainMount) : Type 0 where
  pub base : IsNumber mount.base
  pub to : IsNumber mount.to
  pub by : IsCallInRange mount.by
  pub mutations : AllByRecursion IsMutationInRange mount.mutations

-- a view that stands at the end
pub record IsPlacedInRange (placed : PlainPlacedView) : Type 0 where
  pub tag : IsNumber placed.tag
  pub parent : IsNumber placed.parent
  pub index : IsNumber placed.index
  pub view : IsViewInRange placed.view

-- an admitted commit: its call, and the number that its actor held
pub record IsRecordInRange (entry : PlainRecord) : Type 0 where
  pub call : IsNumber entry.call
  pub held : IsNumber entry.held

-- a surface's commits, mounts and last views
pub record IsPartInRange (part : PlainSurfacePart) : Type 0 where
  pub records : AllByRecursion IsRecordInRange part.records
  pub mounts : AllByRecursion IsMountInRange part.mounts
  pub last : AllByRecursion IsPlacedInRange part.last

-- what a cause carries
abbrev pub IsCauseInRange : Cancel → Type 0
IsCauseInRange (Unkept tag) = IsNumber tag
IsCauseInRange (ChildOfLeaf tag) = IsNumber tag
IsCauseInRange (TwiceTag tag) = IsNumber tag
IsCauseInRange TooDeep = Unit {0}
IsCauseInRange TooManyNodes = Unit {0}
IsCauseInRange (KindChanged tag) = IsNumber tag
IsCauseInRange FamiliesFull = Unit {0}
IsCauseInRange (NotMounted tag) = IsNumber tag
IsCauseInRange (Stateless tag) = IsNumber tag
IsCauseInRange (Stale tag count) = IsNumber tag × IsNumber count

-- an answer
abbrev pub IsAnswerInRange : Answer → Type 0
IsAnswerInRange (Held at) = IsNumber at
IsAnswerInRange (Admitted number tries) = IsNumber number × IsNumber tries
IsAnswerInRange (Cancelled at tries cause) = IsNumber at × IsNumber tries × IsCauseInRange cause
IsAnswerInRange (Mounted base to) = IsNumber base × IsNumber to
IsAnswerInRange (Empty at) = IsNumber at

-- the answers of an actor
abbrev pub AreAnswersInRange : PlainActorPart → Type 0
AreAnswersInRange part = AllByRecursion (λ step. IsAnswerInRange step.answer) part.steps

-- a journal
pub record IsInRange (journal : PlainJournal) : Type 0 where
  pub surfaces : AllByRecursion IsPartInRange journal.surfaces
  pub actors : AllByRecursion AreAnswersInRange journal.actors
