use Rattle.run_report.proofs.EventLegal.{event_elsewhere}
use Rattle.run_report.proofs.laws.events_elsewhere_keep_actors_legal.Goals as goal

pub returns : goal.returns
returns c wish first id records floor number steps step surface actor through at on off h =
    event_elsewhere first id records floor number steps step surface actor through at on off h step.act
