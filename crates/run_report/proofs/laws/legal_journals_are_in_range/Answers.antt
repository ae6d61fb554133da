use Rattle.run_report.proofs.JournalsInRange.{legal_in_range}
use Rattle.run_report.proofs.laws.legal_journals_are_in_range.Goals as goal

pub returns : goal.returns
returns c = legal_in_range
