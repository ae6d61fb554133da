use denote.Hole.{as_row}
use denote.Param.Send.{IsSend, sendable}
use denote.Param.SendFields.{variants_send}
use Rattle.commit_core.specs.contracts.committer.Phase as phase_type
use Rattle.commit_core.proofs.sending.phases_are_sent.Goals as goal

pub needs_send-requires-send-T : goal.needs_send-requires-send-T
needs_send-requires-send-T c κs =
    let entry = c.records_are_sent.ensures in
    let ready = c.ready_commits_are_sent.ensures in
    let phase : IsSend (as_row phase_type.the_field) = search (variants_send) depth 12 in
    search sendable
