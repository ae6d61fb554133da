use Rattle.std.proofs.Common.{◌∙◌}
use Rattle.run_report.proofs.Lines.{name_at_plain}
use Rattle.run_report.proofs.history.name_of.Goals as goal

pub returns : goal.returns
returns c = c.as_slice.ensures ∙ name_at_plain c.args.actors.now c.args.actor c.index-actors-actor.result c.requires
