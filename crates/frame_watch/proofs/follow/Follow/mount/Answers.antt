use Rattle.std.proofs.Common.{ap, ◌∙◌, map}
use Rattle.host_views.specs.Plain.{plain_mutation}
use Rattle.host_views.specs.Registry.{mutated}
use Rattle.frame_watch.proofs.Mounted.{may_apply, mounted}
use Rattle.frame_watch.proofs.follow.Follow.mount.Goals as goal

pub apply_all-requires : goal.apply_all-requires
apply_all-requires c = may_apply _ _ c.requires.old c.requires.new (rw c.self.view_is c.requires.mount)

pub returns-clause-mounted : goal.returns-clause-mounted
returns-clause-mounted c = λ old new mount.
    c.in_ok-apply_all.ensures.ok ∙ ap (mutated (map plain_mutation c.args.list.now)) c.self.view_is ∙ mounted _ _ old new mount
