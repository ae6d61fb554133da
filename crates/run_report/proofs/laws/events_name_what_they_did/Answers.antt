use Rattle.std.proofs.Common.{refl}
use Rattle.run_report.proofs.EventNames.{event_names}
use Rattle.run_report.proofs.laws.events_name_what_they_did.Goals as goal

pub returns : goal.returns
returns c wish number steps step surface actor through at on = event_names wish number steps step surface actor through at on step.act refl
