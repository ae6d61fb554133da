use Rattle.host_views.proofs.Same.{told_same}
use Rattle.host_views.proofs.HostView.is_same.Goals as goal

pub returns-clause-equal : goal.returns-clause-equal
returns-clause-equal c = told_same c.has_same_parts.result c.args.self.now c.args.other.now c.has_same_parts.ensures
