use Rattle.std.proofs.Common.{codes}
use Rattle.std.proofs.lemmas.Result.{err_from_is_err_and}
use Rattle.std.specs.List.{flat_map}
use Rattle.byte_ports.proofs.Joined.{part_first, part_then, then_rest}
use Rattle.run_report.specs.Text.{number_line}
use Rattle.fabric_run.specs.Query.{finding_line}
use Rattle.fabric_run.proofs.query.QueryText.write.Goals as goal

pub returns-in_err-write_tag_line : goal.returns-in_err-write_tag_line
returns-in_err-write_tag_line g c =
    let p = err_from_is_err_and c.from_residual.result c.from_residual.ensures.1 in
    rw p.1
    (part_first _ _ (number_line (codes "query") c.args.self.now.tag) _ c.in_err-write_tag_line.ensures)

pub returns-in_err-write_findings : goal.returns-in_err-write_findings
returns-in_err-write_findings g c =
    let p = err_from_is_err_and c.from_residual-in_err-write_findings.result c.from_residual-in_err-write_findings.ensures.1 in
    rw p.1
    (part_then _ _ _ (number_line (codes "query") c.args.self.now.tag) _ c.in_ok-write_tag_line.ensures
    (part_first _ _ (flat_map finding_line c.args.self.now.findings.items) _ (rw c.as_slice.ensures.value at c.in_err-write_findings.ensures)))

pub returns : goal.returns
returns g c =
    then_rest _ _ _ (number_line (codes "query") c.args.self.now.tag) _ _ c.in_ok-write_tag_line.ensures
    (then_rest _ _ _ (flat_map finding_line c.args.self.now.findings.items) _ _ (rw c.as_slice.ensures.value at c.in_ok-write_findings.ensures)
    c.write_whole.ensures)
