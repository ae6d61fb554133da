-- The closing mount, and what a surface leaves.
use Rattle.std.proofs.Common.{◌≡◌, ℕ, List, [], ◌∷◌, ◌++◌, map, arith, ap, sym, subst, ◌∙◌, false, cond}
use Rattle.std.specs.Prelude.{nat_eq, Option, None, Some, Result, Ok, Err, IfOk}
use Rattle.std.specs.declared.alloc.AllocError.{AllocError}
use Rattle.std.proofs.lemmas.Bool.{eq-eqb, ne_eqb}
use Rattle.std.proofs.lemmas.List.{map-append}
use Rattle.std.proofs.lemmas.Option.{same_Some}
use Rattle.shadow_frame.specs.declared.Size.{Size}
use Rattle.host_views.specs.declared.PlacedView.{PlacedView}
use Rattle.host_views.specs.Plain.{plain_mutation, plain_placed}
use Rattle.view_flatten.specs.HostTree.{host_tree_of}
use Rattle.tree_revision.specs.Records.{PlainRecord}
use Rattle.tree_revision.specs.Settled.{KeptRevision}
use Rattle.tree_revision.specs.Stands.{StandsFor}
use Rattle.tree_revision.specs.Mountable.{mountable_of}
use Rattle.commit_core.specs.PlainPorts.{records_of, told_of, IsToldOf}
use Rattle.commit_core.specs.declared.plain_parts.PlainSpine.{PlainSpine}
use Rattle.commit_core.specs.declared.plain_parts.PlainPass.{PlainPass}
use Rattle.commit_core.specs.declared.plain_parts.PlainPort.{PlainPort}
use Rattle.mount_coordinator.specs.Mounted.{PlainCoordinator, IsBaseIn, host_tree_at}
use Rattle.mount_coordinator.specs.Answers.{IsTransaction, IsNothingNewer, IsFinishAnswer}
use Rattle.mount_coordinator.specs.declared.coordinator.Transaction.{Transaction}
use Rattle.run_report.specs.declared.journal.MountPart.{MountPart}
use Rattle.run_report.specs.declared.journal.SurfacePart.{SurfacePart}
use Rattle.run_report.specs.Journal.{plain_mount}
use Rattle.run_report.specs.Mounts.{Passage, closed, last_to, mount_along}
use Rattle.run_engine.specs.Now.{PlainDesk, desk_records}
use Rattle.run_engine.specs.Run.{IsOpen}
use Rattle.run_engine.specs.Ends.{IsClosedPart, IsPartOf}
use Rattle.run_actor.specs.Event.{base_of}

-- there is a closing mount
pub closing_some : (first : Size) (records : List PlainRecord) (passages : List Passage) (old new : PlainCoordinator) (transaction : Transaction) (part : MountPart) (mounts all : List MountPart)
    → IsTransaction first records old new transaction → last_to passages ≡ old.base.number
    → plain_mount part ≡ record { base = transaction.base; to = transaction.to; by = None; mutations = map plain_mutation transaction.mutations }
    → map plain_mount mounts ≡ map (mount_along first records) passages → all ≡ mounts ++ part ∷ []
    → map plain_mount all ≡ map (mount_along first records) (closed records passages)
closing_some first records passages old new transaction part mounts all done last part_is along all_are =
    let step : Passage = record { base = last_to passages; to = mountable_of records; by = None } in
    let base : transaction.base ≡ last_to passages = done.base ∙ sym last in
    let newer : nat_eq (last_to passages) (mountable_of records) ≡ false
    = ne_eqb (last_to passages) (mountable_of records) (λ e. omega (arith, e, base, done.newer, done.to))
    in
    let own : plain_mount part ≡ mount_along first records step =
    part_is ∙ (λ i. record { base = transaction.base; to = transaction.to; by = None; mutations = done.mutations i })
    ∙ (λ i. mount_along first records (record { base = base i; to = done.to i; by = None })) in
    ap (map plain_mount) all_are ∙ map-append plain_mount mounts (part ∷ []) ∙ (λ i. along i ++ own i ∷ [])
    ∙ sym (map-append (mount_along first records) passages (step ∷ []))
    ∙ ap (λ same. map (mount_along first records) (cond same passages (passages ++ step ∷ []))) (sym newer)

-- there is none
pub closing_none : (first : Size) (records : List PlainRecord) (passages : List Passage) (old new : PlainCoordinator) (mounts : List MountPart)
    → IsNothingNewer records old new → last_to passages ≡ old.base.number → map plain_mount mounts ≡ map (mount_along first records) passages
    → map plain_mount mounts ≡ map (mount_along first records) (closed records passages)
closing_none first records passages old new mounts nothing last along =
    along ∙ ap (λ same. map (mount_along first records) (cond same passages (passages ++ record { base = last_to passages; to = mountable_of records; by = None } ∷ [])))
    (sym (eq-eqb (last_to passages) (mountable_of records) (last ∙ sym nothing.same)))

-- the last views
pub last_views : (first : Size) (records : List PlainRecord) (front next : KeptRevision) (views : List PlacedView) → StandsFor first front records
    → next ≡ record { newest = front.mountable; mountable = front.mountable } → map plain_placed views ≡ host_tree_of next.newest.forest
    → map plain_placed views ≡ host_tree_at first records (mountable_of records)
last_views first records front next views stands is told =
    told ∙ ap (λ (next : KeptRevision). host_tree_of next.newest.forest) is ∙ ap host_tree_of stands.mountable.forest

-- what a finish answers
pub finish_none : (first : Size) (entries : List PlainRecord) (old new : PlainCoordinator) (found : Option Transaction) → found ≡ None → IsFinishAnswer first entries old new (Ok found)
    → IsNothingNewer entries old new
finish_none first entries old new found is answer = subst (λ found. IsFinishAnswer first entries old new (Ok found)) is answer

pub finish_some : (first : Size) (entries : List PlainRecord) (old new : PlainCoordinator) (found : Option Transaction) (transaction : Transaction) → found ≡ Some transaction
    → IsFinishAnswer first entries old new (Ok found) → IsTransaction first entries old new transaction
finish_some first entries old new found transaction is answer = subst (λ found. IsFinishAnswer first entries old new (Ok found)) is answer

-- a port's spine is what the port had
pub spine_stands : (port : PlainPort) (spine : PlainSpine) (pass : PlainPass) (front shared : KeptRevision) → IsToldOf spine pass (told_of port) → StandsFor spine.first front (records_of spine)
    → shared ≡ front → StandsFor port.spine.first shared (records_of port.spine)
spine_stands port spine pass front shared told stands is =
    subst (λ first. StandsFor first shared (records_of port.spine)) (sym told.first)
    (subst (λ records. StandsFor spine.first shared records) (sym (same_Some (records_of port.spine) (records_of spine) told.whole))
    (subst (λ front. StandsFor spine.first front (records_of spine)) (sym is) stands))

-- a base stands for the first of its surface's records
pub base_stands : (desk : PlainDesk) → IsOpen desk → (coordinator : PlainCoordinator) → desk.mount ≡ Some coordinator → IsBaseIn desk.port.spine.first (desk_records desk) coordinator.base
base_stands desk mounted coordinator is =
    subst (λ (c : PlainCoordinator). IsBaseIn desk.port.spine.first (desk_records desk) c.base) (same_Some mounted.coordinator coordinator (sym mounted.mounted ∙ is)) mounted.base

-- the part of closed records is that of the desk that they are of
pub part_of_desk : (id : ℕ) (desk : PlainDesk) (mounts : List MountPart) (records : List PlainRecord) (front : KeptRevision) (coordinator : PlainCoordinator) (result : Result SurfacePart AllocError)
    → records ≡ desk_records desk → StandsFor desk.port.spine.first front (desk_records desk) → IsBaseIn desk.port.spine.first (desk_records desk) coordinator.base
    → base_of desk.mount ≡ coordinator.base.number → IfOk result (IsClosedPart id records front coordinator.base mounts) → IfOk result (IsPartOf id desk mounts)
part_of_desk id desk mounts records front coordinator (Ok part) same stands mounted base is =
    λ passages last along. (subst (λ records. IsClosedPart id records front coordinator.base mounts part) same is).along desk.port.spine.first passages stands mounted (last ∙ base) along
part_of_desk id desk mounts records front coordinator (Err refusal) same stands mounted base is = tt
