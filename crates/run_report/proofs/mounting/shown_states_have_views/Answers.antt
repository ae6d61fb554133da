use Rattle.run_report.proofs.States.{each_state_has_view}
use Rattle.run_report.proofs.mounting.shown_states_have_views.Goals as goal

pub returns : goal.returns
returns c = each_state_has_view
