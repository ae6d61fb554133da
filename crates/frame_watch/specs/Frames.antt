-- Which views of a host tree have another frame than they had in an earlier one, or are new.
use Rattle.std.specs.Prelude.{Bool, false, not, List, ◌++◌, filter, map, Option, Some, None}
use Rattle.shadow_frame.specs.declared.Rect.{Rect}
use Rattle.shadow_frame.specs.Same.{is_same_frame}
use Rattle.host_views.specs.declared.HostView.{HostView}
use Rattle.host_views.specs.HostTree.{has_tag}
use Rattle.host_views.specs.Plain.{PlainPlacedView, PlainHostTree}
use Rattle.view_mutation.specs.Mutations.{view_at}
use Rattle.frame_watch.specs.declared.FrameChange.{FrameChange}

-- a view's tag and frame
abbrev pub frame_at : PlainPlacedView → FrameChange
frame_at placed = record { tag = placed.tag; frame = placed.view.frame }

-- whether a frame differs from that of the view which its tag had
abbrev pub is_other_frame : Option HostView → Rect → Bool
is_other_frame None frame = false
is_other_frame (Some was) frame = not (is_same_frame was.frame frame)

-- which host frames a mount changes: those of the tags of the new tree that are not in the old one, and then those of the tags
-- in both whose frames differ, each in host preorder of the new tree and with its frame there
abbrev pub frames_changed : (old new : PlainHostTree) → List FrameChange
frames_changed old new =
    map frame_at (filter (λ placed. not (has_tag old placed.tag)) new)
    ++ map frame_at (filter (λ placed. is_other_frame (view_at old placed.tag) placed.view.frame) new)
