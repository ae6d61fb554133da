use Rattle.std.proofs.Common.{rules}
use Rattle.std.proofs.lemmas.Result.{err_from_is_err_and}
use Rattle.host_views.specs.Plain.{plain_mutation}
use Rattle.run_report.specs.Text.{mutation_text}
use Rattle.run_report.proofs.Lines.{whole_mapped, part_mapped}
use Rattle.run_report.proofs.mounts.write_mutations.Goals as goal

pub returns-in_err-write_mutation : goal.returns-in_err-write_mutation
returns-in_err-write_mutation g c =
    let p = err_from_is_err_and c.from_residual.result c.from_residual.ensures.1 in
    rw p.1
    (part_mapped (mutation_text) plain_mutation _ _ _ c.args.mutations.now c.loop-mutation.mutation-index c.mutation-item.result (search rules) c.mutation-item.is
    c.loop-mutation.invariant c.in_err-write_mutation.ensures)

pub loop-mutation-preserved : goal.loop-mutation-preserved
loop-mutation-preserved g c =
    whole_mapped (mutation_text) plain_mutation _ _ _ c.args.mutations.now c.loop-mutation.mutation-index c.mutation-item.result (search rules) c.mutation-item.is
    c.loop-mutation.invariant c.in_ok-write_mutation.ensures
