use Rattle.run_report.proofs.EventLegal.{mounts_stay}
use Rattle.run_report.proofs.laws.longer_histories_keep_mounts.Goals as goal

pub returns : goal.returns
returns c = mounts_stay
