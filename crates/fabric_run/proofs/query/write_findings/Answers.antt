use Rattle.std.proofs.Common.{rules}
use Rattle.std.proofs.lemmas.Result.{err_from_is_err_and}
use Rattle.byte_ports.proofs.Joined.{part_each, whole_each}
use Rattle.fabric_run.specs.Query.{finding_line}
use Rattle.fabric_run.proofs.query.write_findings.Goals as goal

pub returns-in_err-write_finding : goal.returns-in_err-write_finding
returns-in_err-write_finding g c =
    let p = err_from_is_err_and c.from_residual.result c.from_residual.ensures.1 in
    rw p.1
    (part_each finding_line _ _ _ c.args.findings.now c.loop-finding.finding-index _ (search rules) c.loop-finding.invariant c.in_err-write_finding.ensures)

pub loop-finding-preserved : goal.loop-finding-preserved
loop-finding-preserved g c =
    whole_each finding_line _ _ _ c.args.findings.now c.loop-finding.finding-index _ (search rules) c.loop-finding.invariant c.in_ok-write_finding.ensures
