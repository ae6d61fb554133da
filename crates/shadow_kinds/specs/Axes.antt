-- What a node's props say along each axis.
use Rattle.std.specs.Prelude.{ℤ, pos, unwrap_or}
use Rattle.shadow_frame.specs.declared.Axis.{Axis}
use Rattle.prop_table.specs.Props.{PropList, value_at}
use Rattle.prop_table.specs.declared.rows.TheConstants.{LEFT, TOP, RIGHT, BOTTOM, WIDTH, HEIGHT, Z}

-- left, right and width
abbrev pub x_axis_of : PropList → Axis
x_axis_of props = record { start = value_at props LEFT; end = value_at props RIGHT; size = value_at props WIDTH }

-- top, bottom and height
abbrev pub y_axis_of : PropList → Axis
y_axis_of props = record { start = value_at props TOP; end = value_at props BOTTOM; size = value_at props HEIGHT }

-- the order among siblings: z, or 0 where it is absent
abbrev pub z_order_of : PropList → ℤ
z_order_of props = unwrap_or (value_at props Z) (pos 0)
