use Rattle.std.proofs.Common.{◌≡◌, ◌++◌, drop, map}
use Rattle.tree_revision.specs.Records.{plain_record}
use Rattle.run_report.specs.Journal.{plain_mount}
use Rattle.fabric_run.specs.Frames.{mount_frames}
use Rattle.fabric_run.proofs.Following.{LeadOnFrom}
use Rattle.fabric_run.proofs.frames.frames_on.Given as goal

abbrev pub invariant-loop-mount : goal.invariant-loop-mount
invariant-loop-mount l =
    let each = mount_frames l.surface.size (map plain_record l.part.records) in
    record {
      mounts : l.mounts ++ map each (map plain_mount (drop l.mount-index l.mount-items)) ≡ map each (map plain_mount l.mount-items);
      views : LeadOnFrom l.surface.size (map plain_record l.part.records) l.follow (map plain_mount (drop l.mount-index l.mount-items));
    }
