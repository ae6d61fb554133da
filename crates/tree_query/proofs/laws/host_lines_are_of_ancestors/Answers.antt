use Rattle.tree_query.proofs.HostLines.{each_line}
use Rattle.tree_query.proofs.laws.host_lines_are_of_ancestors.Goals as goal

pub returns : goal.returns
returns c = each_line
