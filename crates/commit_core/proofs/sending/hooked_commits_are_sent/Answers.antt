use denote.Hole.{as_row}
use denote.Param.Send.{IsSend, sendable, view_send}
use denote.Param.SendFields.{declared_send}
use Rattle.commit_core.specs.contracts.committer.HookedCommitter as commit_type
use Rattle.commit_core.specs.contracts.committer.HookedCommitter.TheInside as inside
use Rattle.commit_core.proofs.sending.hooked_commits_are_sent.Goals as goal

pub needs_send-requires-send-T : goal.needs_send-requires-send-T
needs_send-requires-send-T c κs =
    let parts : IsSend (as_row inside.the_field) = declared_send inside.the_type (c.phases_are_sent.ensures, (c.revisions_are_sent.ensures, (search sendable, tt))) in
    let commit : IsSend (as_row commit_type.the_field) = view_send _ _ _ _ _ parts in
    search sendable
