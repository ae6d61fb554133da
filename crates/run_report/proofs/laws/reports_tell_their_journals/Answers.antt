use Rattle.run_report.proofs.laws.reports_tell_their_journals.Goals as goal
use Rattle.run_report.proofs.JournalBack.{journal_is}

pub returns : goal.returns
returns c = journal_is
