-- The text of a summary.
use Rattle.std.specs.Prelude.{ℕ, List, ◌++◌, codes, length, sum_by, count_by, Bool, true, false, ◌&&◌, nat_eq}
use Rattle.std.specs.List.{flat_map}
use Rattle.tree_revision.specs.declared.record.Answer.{Answer}
use Rattle.tree_revision.specs.declared.record.Answer.TheVariants.{Held, Admitted, Cancelled, Mounted, Empty}
use Rattle.run_report.specs.declared.journal.StepPart.{StepPart}
use Rattle.run_report.specs.declared.summary.SurfaceCounts.{SurfaceCounts}
use Rattle.run_report.specs.Journal.{PlainSurfacePart, PlainActorPart, PlainJournal}
use Rattle.run_report.specs.Text.{spaced, number_line}

-- a commit that was cancelled
abbrev pub is_cancelled : Answer → Bool
is_cancelled (Held at) = false
is_cancelled (Admitted number tries) = false
is_cancelled (Cancelled at tries cause) = true
is_cancelled (Mounted base to) = false
is_cancelled (Empty at) = false

-- a step that was cancelled on the surface of that id
abbrev pub is_cancelled_on : ℕ → StepPart → Bool
is_cancelled_on id part = is_cancelled part.answer && nat_eq part.surface id

-- how many steps of all actors were cancelled on the surface of that id
abbrev pub cancelled_on : ℕ → List PlainActorPart → ℕ
cancelled_on id actors = sum_by (λ actor. count_by (is_cancelled_on id) actor.steps) actors

-- how many mutations all mounts of a surface have
abbrev pub mutation_count : PlainSurfacePart → ℕ
mutation_count part = sum_by (λ mount. length mount.mutations) part.mounts

-- what a run came to on a surface: how many commits were admitted, how many cancelled, how many transactions there were, with how many mutations, and how many views stand at the end
abbrev pub counts_of : List PlainActorPart → PlainSurfacePart → SurfaceCounts
counts_of actors part = record {
  commits = length part.records;
  cancelled = cancelled_on part.id actors;
  transactions = length part.mounts;
  mutations = mutation_count part;
  views = length part.last;
}

-- the line of a surface of that id
abbrev pub counts_line : ℕ → SurfaceCounts → List ℕ
counts_line id counts =
    codes "surface" ++ (spaced id
    ++ (codes " commits" ++ (spaced counts.commits
    ++ (codes " cancelled" ++ (spaced counts.cancelled
    ++ (codes " transactions" ++ (spaced counts.transactions
    ++ (codes " mutations" ++ (spaced counts.mutations
    ++ (codes " views" ++ (spaced counts.views ++ codes "\n")))))))))))

-- the line of a surface of a run
abbrev pub surface_line : List PlainActorPart → PlainSurfacePart → List ℕ
surface_line actors part = counts_line part.id (counts_of actors part)

-- the lines of some surfaces
abbrev pub surface_lines : List PlainActorPart → List PlainSurfacePart → List ℕ
surface_lines actors parts = flat_map (surface_line actors) parts

-- a whole summary of the run of that number: a line a surface
abbrev pub summary_text : ℕ → PlainJournal → List ℕ
summary_text number journal = number_line (codes "sweep") number ++ (surface_lines journal.actors journal.surfaces ++ codes "end\n")
