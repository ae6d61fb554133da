use Rattle.prop_table.proofs.Sameness.{props_eq-Decides}
use Rattle.prop_table.proofs.props.Props.is_same.Goals as goal

pub returns : goal.returns
returns g c = props_eq-Decides c.args.self.now c.args.other.now c.eq.result c.eq.ensures
