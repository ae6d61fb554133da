-- How a node is placed in its parent: each axis by itself.
use Rattle.std.specs.Prelude.{ℤ, pos, ◌-ℤ◌, Option, Some, None, unwrap_or}
use Rattle.std.specs.Int.{int_max}
use Rattle.shadow_frame.specs.declared.Axis.{Axis}
use Rattle.shadow_frame.specs.declared.Size.{Size}
use Rattle.shadow_frame.specs.declared.Rect.{Rect}

-- the size that is left between a start and an end that are both given, and else nothing
abbrev pub size_between : Option ℤ → Option ℤ → ℤ → ℤ
size_between (Some start) (Some end) parent = int_max (pos 0) (parent -ℤ start -ℤ end)
size_between (Some start) None parent = pos 0
size_between None end parent = pos 0

-- a node's size along an axis: the given one, or what its start and its end leave of the parent
abbrev pub axis_size : Axis → ℤ → ℤ
axis_size axis parent = unwrap_or axis.size (size_between axis.start axis.end parent)

-- where a node of that size begins that names its end alone, or neither
abbrev pub start_before : Option ℤ → ℤ → ℤ → ℤ
start_before (Some end) size parent = parent -ℤ end -ℤ size
start_before None size parent = pos 0

-- where a node begins along an axis
abbrev pub axis_start : Axis → ℤ → ℤ
axis_start axis parent = unwrap_or axis.start (start_before axis.end (axis_size axis parent) parent)

-- the frame of a node in a parent of that size
abbrev pub placed : Axis → Axis → Size → Rect
placed x y parent = record {
  origin = record { x = axis_start x parent.width; y = axis_start y parent.height };
  size = record { width = axis_size x parent.width; height = axis_size y parent.height };
}
