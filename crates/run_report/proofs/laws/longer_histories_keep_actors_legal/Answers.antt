use Rattle.run_report.proofs.Actors.{legal_over_more}
use Rattle.run_report.proofs.laws.longer_histories_keep_actors_legal.Goals as goal

pub returns : goal.returns
returns c wish first id records longer floor reached number steps actor grows up h =
    legal_over_more first id records longer grows floor reached number steps actor up h
