use Rattle.run_report.proofs.EventLegal.{event_follows}
use Rattle.run_report.proofs.laws.events_keep_passages.Goals as goal

pub returns : goal.returns
returns c wish number act surface actor p at = event_follows wish number surface actor p act at
