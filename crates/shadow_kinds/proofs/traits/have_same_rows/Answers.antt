use Rattle.shadow_kinds.proofs.SameProps.{props_answer}
use Rattle.shadow_kinds.proofs.traits.have_same_rows.Goals as goal

pub returns : goal.returns
returns c = props_answer c.args.a.now c.args.b.now c.is_same.result c.is_same.ensures
