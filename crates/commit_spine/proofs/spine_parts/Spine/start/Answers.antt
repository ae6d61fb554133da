use Rattle.std.proofs.Common.{rules}
use Rattle.commit_spine.specs.declared.store.Store.{Store}
use Rattle.commit_spine.proofs.InHand.{opens_with}
use Rattle.commit_spine.proofs.spine_parts.Spine.start.Goals as goal

pub new-requires : goal.new-requires
new-requires c =
    let store : Store = record { records = c.in_ok-records.records; front = c.args.first } in
    opens_with _ store _ (search rules) (search rules) (search rules) (search rules) (search rules) (search rules)
