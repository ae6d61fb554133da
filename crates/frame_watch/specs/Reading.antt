-- What is read of frames off a list of mutations and the registry that it is for.
use Rattle.std.specs.Prelude.{ℕ, List, Option, Some, None, if◌then◌else◌}
use Rattle.std.specs.FinMap.{get}
use Rattle.std.specs.List.{filter_map}
use Rattle.std.specs.Option.{option_map}
use Rattle.host_views.specs.declared.HostView.{HostView}
use Rattle.host_views.specs.Plain.{PlainMutation, create, delete, insert, remove, update}
use Rattle.host_views.specs.Registry.{PlainRegistry}
use Rattle.frame_watch.specs.declared.FrameChange.{FrameChange}
use Rattle.frame_watch.specs.Frames.{is_other_frame}

-- the view of a tag in a registry
abbrev pub view_in : PlainRegistry → ℕ → Option HostView
view_in registry tag = option_map (λ shown. shown.view) (get registry.views tag)

-- what a mutation changes of frames: a create the new view's, an update the view's where the registry has another one, and others none
abbrev pub frame_by : PlainRegistry → PlainMutation → Option FrameChange
frame_by registry (create tag view) = Some (record { tag = tag; frame = view.frame })
frame_by registry (update tag view) =
    if is_other_frame (view_in registry tag) view.frame then Some (record { tag = tag; frame = view.frame }) else None
frame_by registry (delete tag) = None
frame_by registry (insert parent tag index) = None
frame_by registry (remove parent tag index) = None

-- the same of each mutation, in their order
abbrev pub frames_by : PlainRegistry → List PlainMutation → List FrameChange
frames_by registry list = filter_map (frame_by registry) list
