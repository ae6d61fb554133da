use denote.Param.SendFields.{declared_send}
use Rattle.surface.specs.contracts.parts.Mounter as mounter_type
use Rattle.surface.proofs.sending.mounters_are_sent.Goals as goal

pub returns : goal.returns
returns c = declared_send mounter_type.the_type (c.surfaces_are_sent.ensures, (c.coordinators_are_sent.ensures, tt))
