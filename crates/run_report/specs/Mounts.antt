-- The mounts of a surface: what its steps were answered gives them, and the histories fill them.
use Rattle.std.specs.Prelude.{ℕ, List, [], ◌∷◌, ◌++◌, nat_eq, if◌then◌else◌, Option, Some, None}
use Rattle.std.specs.List.{fold, flat_map, enumerate_from}
use Rattle.shadow_frame.specs.declared.Size.{Size}
use Rattle.view_mutation.specs.Mutations.{mutations_between}
use Rattle.tree_revision.specs.Records.{PlainRecord}
use Rattle.tree_revision.specs.Mountable.{mountable_of}
use Rattle.tree_revision.specs.declared.record.Answer.{Answer}
use Rattle.tree_revision.specs.declared.record.Answer.TheVariants.{Mounted}
use Rattle.mount_coordinator.specs.Mounted.{host_tree_at}
use Rattle.run_report.specs.declared.journal.StepName.{StepName}
use Rattle.run_report.specs.declared.journal.StepPart.{StepPart}
use Rattle.run_report.specs.Journal.{PlainMount, PlainActorPart}

-- from which revision to which a mount leads, and by which step; the closing one is by none
abbrev pub Passage : Type 0
Passage = record { base : ℕ; to : ℕ; by : Option StepName }

-- the passage that an answer names, where it names one
abbrev pub passage_of : StepName → Answer → List Passage
passage_of name (Mounted base to) = (record { base = base; to = to; by = Some name }) ∷ []
passage_of name _ = []

-- the passages that an actor's answers on the surface of that id name, in their order
abbrev pub passages_by : (id actor : ℕ) → List StepPart → List Passage
passages_by id actor parts =
    flat_map (λ entry. if nat_eq entry.1.surface id then passage_of (record { actor = actor; call = entry.0 }) entry.1.answer else []) (enumerate_from 0 parts)

-- the revision that the last of some passages leads to; before the first it is that of number 0
abbrev pub last_to : List Passage → ℕ
last_to passages = fold (λ number step. step.to) 0 passages

-- passages, and then the closing one where the last of them does not lead to the revision that may be mounted
abbrev pub closed : List PlainRecord → List Passage → List Passage
closed entries passages =
    if nat_eq (last_to passages) (mountable_of entries) then passages
    else passages ++ (record { base = last_to passages; to = mountable_of entries; by = None }) ∷ []

-- the passages of a surface of that id, which has those records: those that all actors' answers name, and the closing one
abbrev pub passages_on : (id : ℕ) → List PlainRecord → List PlainActorPart → List Passage
passages_on id entries actors = closed entries (flat_map (λ entry. passages_by id entry.0 entry.1.steps) (enumerate_from 0 actors))

-- a mount: its mutations lead from the host tree of the one revision to that of the other
abbrev pub mount_along : Size → List PlainRecord → Passage → PlainMount
mount_along first entries step =
    let mutations = mutations_between (host_tree_at first entries step.base) (host_tree_at first entries step.to) in
    record { base = step.base; to = step.to; by = step.by; mutations = mutations }

-- the passage of a mount
abbrev pub passage_in : PlainMount → Passage
passage_in mount = record { base = mount.base; to = mount.to; by = mount.by }
