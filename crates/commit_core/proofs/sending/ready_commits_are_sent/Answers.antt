use denote.Hole.{as_row}
use denote.Param.Send.{IsSend, sendable}
use denote.Param.SendFields.{declared_send}
use Rattle.commit_core.specs.contracts.committer.ReadyCommit as ready_type
use Rattle.commit_core.proofs.sending.ready_commits_are_sent.Goals as goal

pub needs_send-requires-send-T : goal.needs_send-requires-send-T
needs_send-requires-send-T c κs =
    let ready : IsSend (as_row ready_type.the_field) = declared_send ready_type.the_type (c.records_are_sent.ensures, (c.shared_changes_are_sent.ensures, (c.revisions_are_sent.ensures, (c.revisions_are_sent.ensures, tt)))) in
    search sendable
