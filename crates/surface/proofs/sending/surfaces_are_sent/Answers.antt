use denote.Param.Send.{sendable}
use denote.Param.SendFields.{declared_send}
use Rattle.std.proofs.Crossing.{crosses}
use Rattle.surface.specs.contracts.parts.Surface as surface_type
use Rattle.surface.proofs.sending.surfaces_are_sent.Goals as goal

pub returns : goal.returns
returns c =
    let shared = c.spines_are_shared.ensures in
    let spine = c.spines_are_sent.ensures in
    let passes = c.passes_are_sent.ensures in
    declared_send surface_type.the_type (search (sendable, crosses) depth 20, (search (sendable, crosses) depth 20, tt))
