-- One more commit, by a holder of the front, leaves what stands mounted.
use Rattle.std.proofs.Common.{◌≡◌, ◌≤◌, List, [], ◌∷◌, ◌++◌, length, length-append, take, take_all, arith, refl, sym, subst}
use Rattle.std.proofs.Math.Seq.{take-append_seam}
use Rattle.shadow_frame.specs.declared.Size.{Size}
use Rattle.tree_revision.specs.Records.{PlainOp, PlainRecord}
use Rattle.tree_revision.specs.Settled.{KeptRevision}
use Rattle.tree_revision.specs.Stands.{StandsFor}
use Rattle.mount_coordinator.specs.Mounted.{PlainCoordinator}
use Rattle.mount_coordinator.specs.Answers.{MayFinish}
use Rattle.mount_coordinator.proofs.Mounting.{still_base}

-- with one more record, whose holder had the front, the same stands mounted
pub one_more : (coordinator : PlainCoordinator) (front next : KeptRevision) (op : PlainOp) (may : MayFinish coordinator front)
    → ((first : Size) (entries : List PlainRecord) (entry : PlainRecord) → StandsFor first front entries → entry.held ≤ length entries
    → StandsFor first front (take entry.held entries) → entry.op ≡ op → StandsFor first next (entries ++ entry ∷ [])) → MayFinish coordinator next
one_more coordinator front next op may leads =
    let entries = may.entries in
    let entry : PlainRecord = record { actor = 0; call = 0; held = length entries; op = op } in
    let held : take (length entries) entries ≡ entries = take_all (length entries) entries (omega arith) in
    record {
      first = may.first;
      entries = entries ++ entry ∷ [];
      stands = leads may.first entries entry may.stands (omega arith) (subst (StandsFor may.first front) (sym held) may.stands) refl;
      mounted = still_base may.first entries (entries ++ entry ∷ []) coordinator.base
          (record { within = omega (arith, length-append entries (entry ∷ [])); same = take-append_seam entries (entry ∷ []) }) may.mounted;
    }
