use Rattle.std.proofs.Common.{◌≡◌, List, Option, Some, None, Ok, sym, subst}
use Rattle.shadow_frame.specs.declared.Size.{Size}
use Rattle.tree_revision.specs.Records.{PlainRecord}
use Rattle.tree_revision.specs.Stands.{StandsFor}
use Rattle.mount_coordinator.specs.declared.coordinator.Transaction.{Transaction}
use Rattle.mount_coordinator.specs.Mounted.{PlainCoordinator, IsBaseIn}
use Rattle.mount_coordinator.specs.Answers.{MayFinish, IsFinishAnswer}
use Rattle.mount_coordinator.proofs.Mounting.{transacted}
use Rattle.mount_coordinator.proofs.tests.commit_and_finish.Goals as goal

-- after a finish the first records up to the base stand mounted
mounted_after : (first : Size) (entries : List PlainRecord) (old new : PlainCoordinator) (given : Option Transaction) → IsBaseIn first entries old.base
    → IsFinishAnswer first entries old new (Ok given) → IsBaseIn first entries new.base
mounted_after first entries old new None mounted answer = subst (λ (coordinator : PlainCoordinator). IsBaseIn first entries coordinator.base) (sym answer.stays) mounted
mounted_after first entries old new (Some transaction) mounted answer = transacted first entries old new transaction answer

pub finish-requires : goal.finish-requires
finish-requires c = subst (MayFinish c.args.coordinator.now) (sym c.in_ok-shared.ensures) c.in_ok-front.ensures

pub returns : goal.returns
returns c =
    let may = c.in_ok-front.ensures in
    let shared = subst (λ front. StandsFor may.first front may.entries) (sym c.in_ok-shared.ensures) may.stands in
    record {
      first = may.first;
      entries = may.entries;
      stands = may.stands;
      mounted = mounted_after may.first may.entries c.args.coordinator.now c.finish.new.self c.in_ok-transaction.transaction may.mounted
          (c.in_ok-transaction.ensures may.first may.entries shared may.mounted);
    }
