use denote.Hole.{as_row}
use denote.Param.Send.{IsSend, sendable, view_send}
use denote.Param.SendFields.{declared_send}
use Rattle.commit_spine.specs.contracts.pass.SpinePass as pass_type
use Rattle.commit_spine.specs.contracts.pass.SpinePass.TheInside as inside
use Rattle.commit_spine.proofs.sending.passes_are_sent.Goals as goal

pub needs_send-requires-send-T : goal.needs_send-requires-send-T
needs_send-requires-send-T c κs =
    let parts : IsSend (as_row inside.the_field) =
    declared_send inside.the_type (c.seats_are_sent.ensures, (search sendable, (search sendable, (search sendable, (search sendable, tt))))) in
    let pass : IsSend (as_row pass_type.the_field) = view_send _ _ _ _ _ parts in
    search sendable
