use Rattle.std.proofs.Common.{refl}
use Rattle.run_report.proofs.EventLegal.{event_legal}
use Rattle.run_report.proofs.laws.events_keep_actors_legal.Goals as goal

pub returns : goal.returns
returns c wish floor reached number steps step surface actor m up = event_legal floor reached number steps step surface actor m up step.act refl
