use Rattle.std.proofs.Common.{Some, None, append-nil, ap, sym, ◌∙◌, rules}
use Rattle.frame_watch.proofs.Read.{all_read, one_read}
use Rattle.frame_watch.proofs.changes.Goals as goal
use Rattle.frame_watch.proofs.changes.Goals.{in-Some+in_ok-push, in_default}

pub loop-mutation-preserved : goal.loop-mutation-preserved
loop-mutation-preserved c =
    elim c.match-change_by.branch [
      | in-Some+in_ok-push w ↦ one_read c.args.registry.now c.args.list.now c.loop-mutation.mutation-index c.mutation-item.result (Some w.in-Some.change)
          c.loop-mutation.changes.items _ (search rules) c.mutation-item.is (sym w.in-Some.is ∙ c.change_by.ensures) c.loop-mutation.invariant
          (ap (λ v. v.items) w.changes-is ∙ w.in_ok-push.ensures.items)
      | in_default w ↦ one_read c.args.registry.now c.args.list.now c.loop-mutation.mutation-index c.mutation-item.result None
          c.loop-mutation.changes.items _ (search rules) c.mutation-item.is (sym w.in_default.is ∙ c.change_by.ensures) c.loop-mutation.invariant
          (ap (λ v. v.items) w.changes-is ∙ sym (append-nil c.loop-mutation.changes.items))
    ]

pub returns : goal.returns
returns c = λ old new mount.
    all_read c.args.registry.now c.args.list.now c.loop-mutation.mutation-index _ old new c.loop-mutation-test.false c.loop-mutation.invariant mount
