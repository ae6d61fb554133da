use Rattle.std.proofs.Common.{refl, inr, subst, ap, ◌∙◌}
use Rattle.std.specs.Prelude.{Ok}
use Rattle.byte_ports.specs.Sources.{Took}
use Rattle.fabric_run.proofs.reading.script_from.Goals as goal

pub returns-in-Ok-Beyond-clause-reads : goal.returns-in-Ok-Beyond-clause-reads
returns-in-Ok-Beyond-clause-reads g c =
    let found = c.in-Ok-Beyond in
    let took = subst (Took _ _ 4194304) (found.is ∙ ap Ok found.field-0-is) c.read_up_to.ensures in
    inr (record { fault_is = refl; long = took.beyond })
