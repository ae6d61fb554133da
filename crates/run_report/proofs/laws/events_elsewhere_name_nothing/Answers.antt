use Rattle.run_report.proofs.EventNames.{event_same}
use Rattle.run_report.proofs.laws.events_elsewhere_name_nothing.Goals as goal

pub returns : goal.returns
returns c wish id entries number steps step surface actor through at on off = event_same wish id entries number steps step surface actor through at on off step.act
