use Rattle.run_report.proofs.laws.reports_tell_legal_journals.Goals as goal
use Rattle.run_report.proofs.JournalBack.{journal_is}
use Rattle.run_report.proofs.JournalsInRange.{legal_in_range}
use Rattle.run_report.proofs.LegalTold.{legal_told}

pub returns : goal.returns
returns c script a b sound counts legal_a legal_b e =
    let told_a = legal_told script a sound legal_a (legal_in_range script a sound counts legal_a) in
    let told_b = legal_told script b sound legal_b (legal_in_range script b sound counts legal_b) in journal_is script a b told_a.0 told_a.1 told_b.1 e
