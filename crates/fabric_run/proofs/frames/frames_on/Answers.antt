use Rattle.std.proofs.Common.{◌≡◌, ◌+◌, ◌++◌, ◌∷◌, [], ◌∙◌, ap, drop, map, rules, subst, sym}
use Rattle.host_views.specs.Plain.{plain_mutation}
use Rattle.tree_revision.specs.Records.{plain_record}
use Rattle.run_report.specs.Journal.{plain_mount}
use Rattle.mount_coordinator.specs.Mounted.{host_tree_at}
use Rattle.frame_watch.specs.Mounts.{IsMount}
use Rattle.fabric_run.specs.declared.frames.MountFrames.{MountFrames}
use Rattle.fabric_run.specs.Frames.{mount_frames}
use Rattle.fabric_run.proofs.Following.{LeadOnFrom, next_mounts, others_lead}
use Rattle.fabric_run.proofs.Zipped.{from_place, gathered}
use Rattle.fabric_run.proofs.frames.frames_on.Goals as goal

pub mount-requires : goal.mount-requires
mount-requires c =
    let first = c.args.surface.now.size in
    let entries = map plain_record c.args.part.now.records in
    let done = plain_mount c.mount-item.result in
    let from = from_place plain_mount c.as_slice-mount-items.result.now c.loop-mount.mount-index c.mount-item.result (search rules) c.mount-item.is in
    let lead = subst (LeadOnFrom first entries c.loop-mount.follow) from c.loop-mount.invariant.views in
    rw c.as_slice.ensures
    (record { old = host_tree_at first entries done.base; new = host_tree_at first entries done.to; mount = next_mounts first entries c.requires.lawful c.loop-mount.follow done _ lead })

pub loop-mount-preserved : goal.loop-mount-preserved
loop-mount-preserved c =
    let first = c.args.surface.now.size in
    let entries = map plain_record c.args.part.now.records in
    let done = plain_mount c.mount-item.result in
    let each = mount_frames first entries in
    let old = host_tree_at first entries done.base in
    let new = host_tree_at first entries done.to in
    let from = from_place plain_mount c.as_slice-mount-items.result.now c.loop-mount.mount-index c.mount-item.result (search rules) c.mount-item.is in
    let lead = subst (LeadOnFrom first entries c.loop-mount.follow) from c.loop-mount.invariant.views in
    let is : IsMount c.loop-mount.follow (map plain_mutation c.as_slice.result.now) old new =
    rw c.as_slice.ensures (next_mounts first entries c.requires.lawful c.loop-mount.follow done _ lead) in
    let changed = c.in_ok-changes.ensures.changes old new is in
    let mounted = c.in_ok-changes.ensures.mounted old new is in
    let rest = map each (map plain_mount (drop (c.loop-mount.mount-index + 1) c.as_slice-mount-items.result.now)) in
    let whole = map each (map plain_mount c.as_slice-mount-items.result.now) in
    let before : c.loop-mount.mounts ++ each done ∷ rest ≡ whole = ap (λ list. c.loop-mount.mounts ++ map each list) (sym from) ∙ c.loop-mount.invariant.mounts in
    let next : MountFrames = record { base = c.mount-item.result.base; to = c.mount-item.result.to; changes = c.from_vec.result } in
    let is_next : next ≡ each done =
    ap (λ changes. record { base = c.mount-item.result.base; to = c.mount-item.result.to; changes = changes }) (c.from_vec.ensures ∙ changed) in
    record {
      mounts = rw c.in_ok-push.ensures.ok (subst (λ x. (c.loop-mount.mounts ++ x ∷ []) ++ rest ≡ whole) (sym is_next) (gathered c.loop-mount.mounts (each done) rest whole before));
      views = others_lead first entries c.requires.lawful c.loop-mount.follow done _ lead c.mount.new.self mounted;
    }
