-- Names for the parts of a report that the code writes one by one; each is a part of a definition of `Text`, and nothing is promised by them.
use Rattle.std.specs.Prelude.{ℕ, List, [], ◌∷◌, ◌++◌, ◌/◌, ◌%◌, ◌<◌, All, codes}
use Rattle.std.specs.List.{flat_map}
use Rattle.shadow_frame.specs.declared.Rect.{Rect}
use Rattle.shadow_kinds.specs.declared.Kind.{Kind}
use Rattle.shadow_kinds.specs.Words.{word_of}
use Rattle.host_views.specs.declared.HostView.{HostView}
use Rattle.host_views.specs.Plain.{PlainHostTree, PlainMutation}
use Rattle.tree_revision.specs.Records.{PlainRecord}
use Rattle.run_report.specs.declared.journal.StepPart.{StepPart}
use Rattle.run_report.specs.Journal.{PlainMount, PlainSurfacePart, PlainActorPart}
use Rattle.run_report.specs.Named.{IsByActor}
use Rattle.run_report.specs.Text.{spaced, signed_spaced, record_text, numbered, history_text, step_text, actor_text, hex_digit, view_text, mutation_text, mount_text, placed_text, mounts_text}

-- the end of a line
abbrev pub line_end : List ℕ
line_end = codes "\n"

-- a text and two numbers, to the end of a line
abbrev pub pair_line : List ℕ → (m n : ℕ) → List ℕ
pair_line text m n = text ++ (spaced m ++ (spaced n ++ line_end))

-- a text and three numbers, to the end of a line
abbrev pub triple_line : List ℕ → (l m n : ℕ) → List ℕ
triple_line text l m n = text ++ (spaced l ++ (spaced m ++ (spaced n ++ line_end)))

-- the commits of a surface
abbrev pub records_text : List PlainActorPart → List PlainRecord → List ℕ
records_text actors entries = numbered (record_text actors) 1 entries

-- the histories of all surfaces
abbrev pub histories_text : List PlainActorPart → List PlainSurfacePart → List ℕ
histories_text actors parts = flat_map (history_text actors) parts

-- how a cancelled step's answer begins: the revision that it was cancelled at, and its tries
abbrev pub cancelled_head : (at tries : ℕ) → List ℕ
cancelled_head at tries = codes "cancelled" ++ (spaced at ++ (codes " tries" ++ (spaced tries ++ codes " cause ")))

-- how a step's line begins: its number within the actor, and its surface
abbrev pub step_head : (call surface : ℕ) → List ℕ
step_head call surface = codes "step" ++ (spaced call ++ (codes " on" ++ (spaced surface ++ codes " ")))

-- the steps of an actor
abbrev pub steps_text : List StepPart → List ℕ
steps_text parts = numbered step_text 0 parts

-- the line of an actor's name
abbrev pub actor_line : List ℕ → List ℕ
actor_line name = codes "actor " ++ (name ++ line_end)

-- all actors
abbrev pub actors_text : List PlainActorPart → List ℕ
actors_text parts = flat_map actor_text parts

-- a byte in lower-case hexadecimal, two digits
abbrev pub hex_pair : ℕ → List ℕ
hex_pair byte = hex_digit (byte / 16) ∷ hex_digit (byte % 16) ∷ []

-- a view's kind and frame
abbrev pub shape_text : Kind → Rect → List ℕ
shape_text kind frame =
    word_of kind ++ (codes " frame" ++ (signed_spaced frame.origin.x ++ (signed_spaced frame.origin.y
    ++ (signed_spaced frame.size.width ++ signed_spaced frame.size.height))))

-- a view, and the end of its line
abbrev pub view_line : HostView → List ℕ
view_line view = view_text view ++ line_end

-- a word and a tag, before a view
abbrev pub tagged_head : List ℕ → ℕ → List ℕ
tagged_head word tag = word ++ (spaced tag ++ codes " ")

-- some mutations
abbrev pub mutations_text : List PlainMutation → List ℕ
mutations_text mutations = flat_map mutation_text mutations

-- how a mount's line begins: from which revision to which
abbrev pub mount_head : (base to : ℕ) → List ℕ
mount_head base to = codes "transaction" ++ (spaced base ++ (spaced to ++ codes " "))

-- the mounts of a surface
abbrev pub transactions_text : List PlainActorPart → List PlainMount → List ℕ
transactions_text actors mounts = flat_map (mount_text actors) mounts

-- how the line of a view that stands at the end begins: its tag, its host parent, and its place there
abbrev pub placed_head : (tag parent index : ℕ) → List ℕ
placed_head tag parent index = codes "view" ++ (spaced tag ++ (codes " in" ++ (spaced parent ++ (codes " at" ++ (spaced index ++ codes " ")))))

-- the views that stand at the end
abbrev pub last_text : PlainHostTree → List ℕ
last_text views = flat_map placed_text views

-- the mounts of all surfaces
abbrev pub all_mounts_text : List PlainActorPart → List PlainSurfacePart → List ℕ
all_mounts_text actors parts = flat_map (mounts_text actors) parts

-- each record is of an actor whose number is below the count
abbrev pub AreByActors : ℕ → List PlainRecord → Type 0
AreByActors count entries = All (λ entry. entry.actor < count) entries

-- each mount is closing, or by a step of an actor whose number is below the count
abbrev pub AreMountedByActors : ℕ → List PlainMount → Type 0
AreMountedByActors count mounts = All (λ mount. IsByActor count mount.by) mounts
