use Rattle.run_report.proofs.EventLegal.{late_offer_legal}
use Rattle.run_report.proofs.laws.late_offers_keep_actors_legal.Goals as goal

pub returns : goal.returns
returns c = late_offer_legal
