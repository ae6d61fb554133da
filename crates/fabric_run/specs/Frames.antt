-- The text of `frames`: the frames of host views that each mount changed.
use Rattle.std.specs.Prelude.{ℕ, List, ◌++◌, codes, map}
use Rattle.std.specs.List.{flat_map}
use Rattle.shadow_frame.specs.declared.Size.{Size}
use Rattle.frame_watch.specs.Frames.{frames_changed}
use Rattle.frame_watch.specs.declared.FrameChange.{FrameChange}
use Rattle.tree_revision.specs.Records.{PlainRecord}
use Rattle.tree_revision.specs.Script.{PlainScript}
use Rattle.mount_coordinator.specs.Mounted.{host_tree_at}
use Rattle.run_report.specs.Journal.{PlainMount}
use Rattle.run_report.specs.Text.{number_line, spaced}
use Rattle.run_report.specs.TextParts.{line_end, pair_line}
use Rattle.fabric_run.specs.declared.frames.MountFrames.{MountFrames}
use Rattle.fabric_run.specs.declared.frames.SurfaceFrames.{SurfaceFrames}
use Rattle.fabric_run.specs.Query.{frame_then}
use Rattle.fabric_run.specs.Surfaces.{RunSurface, surfaces_of_turns}

-- a mount on a surface of that first size, which has those records: the frames that changed between the revisions that it leads from and to
abbrev pub mount_frames : Size → List PlainRecord → PlainMount → MountFrames
mount_frames first entries mount =
    let changes = frames_changed (host_tree_at first entries mount.base) (host_tree_at first entries mount.to) in
    record { base = mount.base; to = mount.to; changes = changes }

-- a surface and all its mounts, the closing one too
abbrev pub frames_on : RunSurface → SurfaceFrames
frames_on (surface, part) = record { id = surface.id; mounts = map (mount_frames surface.size part.records) part.mounts }

-- the mounts of each surface in the turns of a script
abbrev pub frames_of : PlainScript → List SurfaceFrames
frames_of script = map frames_on (surfaces_of_turns script)

-- a frame that changed, by the tag of its view
abbrev pub change_line : FrameChange → List ℕ
change_line change = codes "frame" ++ (spaced change.tag ++ frame_then change.frame line_end)

-- a mount: from which revision to which, and the frames that it changed
abbrev pub mount_frames_text : MountFrames → List ℕ
mount_frames_text mount = pair_line (codes "mount") mount.base mount.to ++ flat_map change_line mount.changes

-- a surface and its mounts
abbrev pub surface_frames_text : SurfaceFrames → List ℕ
surface_frames_text surface = number_line (codes "surface") surface.id ++ flat_map mount_frames_text surface.mounts

-- the mounts of all surfaces
abbrev pub all_frames_text : List SurfaceFrames → List ℕ
all_frames_text surfaces = codes "frames\n" ++ (flat_map surface_frames_text surfaces ++ codes "end\n")

-- the frames that the mounts changed in the turns of a script
abbrev pub frames_text : PlainScript → List ℕ
frames_text script = all_frames_text (frames_of script)
