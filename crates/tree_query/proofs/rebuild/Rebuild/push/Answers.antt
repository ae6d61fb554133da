use Rattle.std.proofs.Common.{◌≡◌, ◌∷◌, [], ◌++◌, None, Some, ap, refl, sym, subst, ◌∙◌}
use Rattle.tree_revision.specs.Records.{plain_op, plain_record}
use Rattle.tree_query.specs.LedTo.{IsNextAfter, LeadsTo}
use Rattle.tree_query.specs.Rebuilt.{IsCauseAt, IsRebuildOf, last_number}
use Rattle.tree_query.proofs.Rebuilds.{cause_after_all, grown_by, no_cause}
use Rattle.tree_query.proofs.rebuild.Rebuild.push.Goals as goal

-- what the change leads to, at the last number
abbrev IsLed : (c : goal.In_ok-push-in-Ok) → Type 0
IsLed c = LeadsTo c.args.self.now (plain_op c.args.entry.now.op.value) (last_number c.args.self.now) c.args.entry.now.held c.in-Ok.next

leads : (c : goal.In_ok-push-in-Ok) → IsLed c
leads c =
    subst (λ op. LeadsTo c.args.self.now op (last_number c.args.self.now) c.args.entry.now.held c.in-Ok.next) (ap plain_op c.deref.ensures)
    (subst (λ n. LeadsTo c.args.self.now (plain_op c.deref.result.now) n c.args.entry.now.held c.in-Ok.next) c.len.ensures.len
    (subst (IsNextAfter c.args.self.now (plain_op c.deref.result.now) c.len.result c.args.entry.now.held) c.in-Ok.is c.in_ok-next.ensures))

pushed : (c : goal.In_ok-push-in-Ok) → c.push.new.self.items ≡ c.args.self.now ++ c.in-Ok.next ∷ []
pushed c = c.in_ok-push-in-Ok.ensures.items ∙ ap (λ list. list ++ c.in-Ok.next ∷ []) c.self.view_is

pub invariant_of-self-in-Ok : goal.invariant_of-self-in-Ok
invariant_of-self-in-Ok c =
    let known = c.self.invariant in
    let stands : IsRebuildOf known.first c.args.self.now known.entries = subst (λ seen. IsRebuildOf known.first seen known.entries) c.self.view_is known.stands in
    record {
      first = known.first;
      entries = known.entries ++ plain_record c.args.entry.now ∷ [];
      stands = subst (λ list. IsRebuildOf known.first list (known.entries ++ plain_record c.args.entry.now ∷ [])) (sym (pushed c))
          (grown_by c.args.self.now (plain_record c.args.entry.now) c.in-Ok.next (leads c) known.first known.entries stands);
    }

pub returns-in_ok-push-in-Ok : goal.returns-in_ok-push-in-Ok
returns-in_ok-push-in-Ok c = λ first entries h. (
  subst (λ list. IsRebuildOf first list (entries ++ plain_record c.args.entry.now ∷ [])) (sym (pushed c))
      (grown_by c.args.self.now (plain_record c.args.entry.now) c.in-Ok.next (leads c) first entries h),
  cause_after_all c.args.self.now (plain_op c.args.entry.now.op.value) c.args.entry.now.held None
      (no_cause c.args.self.now (plain_op c.args.entry.now.op.value) (last_number c.args.self.now) c.args.entry.now.held c.in-Ok.next (leads c)) first entries h,
)

pub returns-in-Err : goal.returns-in-Err
returns-in-Err c =
    let rebuild = c.args.self.now in
    let held = c.args.entry.now.held in
    let op = plain_op c.args.entry.now.op.value in
    let cause = c.in-Err.cause in
    let found : IsCauseAt rebuild (plain_op c.deref.result.now) c.len.result held (Some cause) =
    subst (IsNextAfter rebuild (plain_op c.deref.result.now) c.len.result held) c.in-Err.is c.in_ok-next.ensures in
    let is : IsCauseAt rebuild op (last_number rebuild) held (Some cause) =
    subst (λ op. IsCauseAt rebuild op (last_number rebuild) held (Some cause)) (ap plain_op c.deref.ensures)
    (subst (λ n. IsCauseAt rebuild (plain_op c.deref.result.now) n held (Some cause)) c.len.ensures.len found) in
    (cause_after_all rebuild op held (Some cause) is, refl)
