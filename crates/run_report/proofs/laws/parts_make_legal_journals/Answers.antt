use Rattle.run_report.proofs.Together.{parts_legal}
use Rattle.run_report.proofs.laws.parts_make_legal_journals.Goals as goal

pub returns : goal.returns
returns c = parts_legal
