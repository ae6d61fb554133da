use denote.Param.Send.{sendable}
use denote.Param.SendFields.{declared_send}
use Rattle.surface.specs.contracts.parts.Handle as handle_type
use Rattle.surface.proofs.sending.handles_are_sent.Goals as goal

pub returns : goal.returns
returns c = declared_send handle_type.the_type (c.surfaces_are_sent.ensures, (c.revisions_are_sent.ensures, (search sendable, (search sendable, tt))))
