use Rattle.run_report.proofs.EventLegal.{mounts_along_follow}
use Rattle.run_report.proofs.laws.mounts_along_passages_follow.Goals as goal

pub returns : goal.returns
returns c = mounts_along_follow
