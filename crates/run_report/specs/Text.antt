-- The text of a report.
use Rattle.std.specs.Prelude.{ℕ, ℤ, ◌+◌, ◌/◌, ◌%◌, List, [], ◌∷◌, ◌++◌, Option, Some, None, codes, decimal, slice_index_or, map, nat_lt, if◌then◌else◌}
use Rattle.std.specs.List.{flat_map}
use Rattle.std.specs.Fmt.{signed_decimal}
use Rattle.native_state.specs.declared.StateCell.{StateCell}
use Rattle.prop_table.specs.Table.{v2_rules}
use Rattle.prop_table.specs.PairText.{pairs_text_of}
use Rattle.shadow_kinds.specs.Words.{word_of}
use Rattle.host_views.specs.declared.HostView.{HostView}
use Rattle.host_views.specs.Plain.{PlainPlacedView, PlainMutation, create, delete, insert, remove, update}
use Rattle.tree_revision.specs.Records.{PlainOp, complete, state, props, resize, stop, suspend, resume, PlainRecord}
use Rattle.tree_revision.specs.declared.record.Cancel.{Cancel}
use Rattle.tree_revision.specs.declared.record.Cancel.TheVariants.{Unkept, ChildOfLeaf, TwiceTag, TooDeep, TooManyNodes, KindChanged, FamiliesFull, NotMounted, Stateless, Stale}
use Rattle.tree_revision.specs.declared.record.Answer.{Answer}
use Rattle.tree_revision.specs.declared.record.Answer.TheVariants.{Held, Admitted, Cancelled, Mounted, Empty}
use Rattle.run_report.specs.declared.journal.StepPart.{StepPart}
use Rattle.run_report.specs.declared.journal.StepName.{StepName}
use Rattle.run_report.specs.Journal.{PlainMount, PlainSurfacePart, PlainActorPart, PlainJournal}

-- a space and a number
abbrev pub spaced : ℕ → List ℕ
spaced n = codes " " ++ decimal n

-- a space and a signed number
abbrev pub signed_spaced : ℤ → List ℕ
signed_spaced n = codes " " ++ signed_decimal n

-- a text and a number, to the end of a line
abbrev pub number_line : List ℕ → ℕ → List ℕ
number_line text n = text ++ (spaced n ++ codes "\n")

-- the word of a change
abbrev pub op_word_of : PlainOp → List ℕ
op_word_of (complete nodes) = codes "complete"
op_word_of (state tag change) = codes "state"
op_word_of (props tag change) = codes "props"
op_word_of (resize size) = codes "size"
op_word_of stop = codes "stop"
op_word_of suspend = codes "suspend"
op_word_of resume = codes "resume"

-- the name of the actor of that number
abbrev pub name_at : List PlainActorPart → ℕ → List ℕ
name_at actors actor = slice_index_or (map (λ part. part.name) actors) actor []

-- an admitted commit: its number, its actor and call, its word, and the number that its actor held
abbrev pub record_text : List PlainActorPart → ℕ → PlainRecord → List ℕ
record_text actors number entry =
    codes "commit" ++ (spaced number ++ (codes " " ++ (name_at actors entry.actor ++ (spaced entry.call
    ++ (codes " " ++ (op_word_of entry.op ++ (codes " held" ++ (spaced entry.held ++ codes "\n"))))))))

-- the texts of items that are numbered from n on
abbrev pub numbered : {A : Type 0} → (ℕ → A → List ℕ) → ℕ → List A → List ℕ
numbered text n [] = []
numbered text n (item ∷ items) = text n item ++ numbered text (n + 1) items

-- a surface and its commits, numbered from 1
abbrev pub history_text : List PlainActorPart → PlainSurfacePart → List ℕ
history_text actors part = number_line (codes "surface") part.id ++ numbered (record_text actors) 1 part.records

-- a cause to the end of its line: its number, its name, and what it carries
abbrev pub cause_text : Cancel → List ℕ
cause_text (Unkept tag) = number_line (codes "1 Unkept") tag
cause_text (ChildOfLeaf tag) = number_line (codes "2 ChildOfLeaf") tag
cause_text (TwiceTag tag) = number_line (codes "3 TwiceTag") tag
cause_text TooDeep = codes "4 TooDeep\n"
cause_text TooManyNodes = codes "5 TooManyNodes\n"
cause_text (KindChanged tag) = number_line (codes "6 KindChanged") tag
cause_text FamiliesFull = codes "7 FamiliesFull\n"
cause_text (NotMounted tag) = number_line (codes "8 NotMounted") tag
cause_text (Stateless tag) = number_line (codes "9 Stateless") tag
cause_text (Stale tag count) = codes "10 Stale" ++ (spaced tag ++ (spaced count ++ codes "\n"))

-- what a step was answered, to the end of its line
abbrev pub answer_text : Answer → List ℕ
answer_text (Held at) = number_line (codes "held") at
answer_text (Admitted number tries) = codes "admitted" ++ (spaced number ++ (codes " tries" ++ (spaced tries ++ codes "\n")))
answer_text (Cancelled at tries cause) = (codes "cancelled" ++ (spaced at ++ (codes " tries" ++ (spaced tries ++ codes " cause ")))) ++ cause_text cause
answer_text (Mounted base to) = codes "mounted" ++ (spaced base ++ (spaced to ++ codes "\n"))
answer_text (Empty at) = number_line (codes "empty") at

-- a step: its number within the actor, its surface, and its answer
abbrev pub step_text : ℕ → StepPart → List ℕ
step_text call part = (codes "step" ++ (spaced call ++ (codes " on" ++ (spaced part.surface ++ codes " ")))) ++ answer_text part.answer

-- an actor and its steps, numbered from 0
abbrev pub actor_text : PlainActorPart → List ℕ
actor_text part = (codes "actor " ++ (part.name ++ codes "\n")) ++ numbered step_text 0 part.steps

-- a digit in lower-case hexadecimal
abbrev pub hex_digit : ℕ → ℕ
hex_digit n = if nat_lt n 10 then 48 + n else 87 + n

-- bytes in lower-case hexadecimal, two digits each
abbrev pub hex_text : List ℕ → List ℕ
hex_text bytes = flat_map (λ byte. hex_digit (byte / 16) ∷ hex_digit (byte % 16) ∷ []) bytes

-- a state, where there is one: its count and its point
abbrev pub state_text : Option StateCell → List ℕ
state_text None = []
state_text (Some cell) = codes " state" ++ (spaced cell.count ++ (signed_spaced cell.point.x ++ signed_spaced cell.point.y))

-- a label, where it is not empty
abbrev pub label_text : List ℕ → List ℕ
label_text [] = []
label_text (byte ∷ bytes) = codes " label=" ++ hex_text (byte ∷ bytes)

-- a view: its kind, its frame, its state, the props that are not at their start, and its label
abbrev pub view_text : HostView → List ℕ
view_text view =
    (word_of view.kind ++ (codes " frame" ++ (signed_spaced view.frame.origin.x ++ (signed_spaced view.frame.origin.y
    ++ (signed_spaced view.frame.size.width ++ signed_spaced view.frame.size.height)))))
    ++ (state_text view.state ++ (pairs_text_of v2_rules view.props ++ label_text view.label))

-- a word, a tag and a view, to the end of a line
abbrev pub tagged_text : List ℕ → ℕ → HostView → List ℕ
tagged_text word tag view = (word ++ (spaced tag ++ codes " ")) ++ (view_text view ++ codes "\n")

-- a mutation
abbrev pub mutation_text : PlainMutation → List ℕ
mutation_text (create tag view) = tagged_text (codes "create") tag view
mutation_text (delete tag) = number_line (codes "delete") tag
mutation_text (insert parent tag index) = codes "insert" ++ (spaced parent ++ (spaced tag ++ (spaced index ++ codes "\n")))
mutation_text (remove parent tag index) = codes "remove" ++ (spaced parent ++ (spaced tag ++ (spaced index ++ codes "\n")))
mutation_text (update tag view) = tagged_text (codes "update") tag view

-- who mounted, to the end of the line: the step, or nobody for the closing mount
abbrev pub by_text : List PlainActorPart → Option StepName → List ℕ
by_text actors None = codes "closing\n"
by_text actors (Some step) = codes "by " ++ (name_at actors step.actor ++ (spaced step.call ++ codes "\n"))

-- a mount: from which revision to which, by whom, and its mutations
abbrev pub mount_text : List PlainActorPart → PlainMount → List ℕ
mount_text actors mount =
    (codes "transaction" ++ (spaced mount.base ++ (spaced mount.to ++ codes " "))) ++ (by_text actors mount.by ++ flat_map mutation_text mount.mutations)

-- a view that stands at the end: its tag, its host parent and its place there, and what it is
abbrev pub placed_text : PlainPlacedView → List ℕ
placed_text placed =
    (codes "view" ++ (spaced placed.tag ++ (codes " in" ++ (spaced placed.parent
    ++ (codes " at" ++ (spaced placed.index ++ codes " ")))))) ++ (view_text placed.view ++ codes "\n")

-- the mounts of a surface, and its last views
abbrev pub mounts_text : List PlainActorPart → PlainSurfacePart → List ℕ
mounts_text actors part =
    number_line (codes "mounts") part.id ++ (flat_map (mount_text actors) part.mounts ++ (number_line (codes "views") part.id ++ flat_map placed_text part.last))

-- a whole report: each surface's history, each actor's answers, each surface's mounts and last views
abbrev pub report_text : PlainJournal → List ℕ
report_text journal =
    codes "report 1\n" ++ (flat_map (history_text journal.actors) journal.surfaces
    ++ (flat_map actor_text journal.actors ++ (flat_map (mounts_text journal.actors) journal.surfaces ++ codes "end\n")))
