-- What the rows of every table keep.
use Rattle.std.specs.Prelude.{List, Bool, nat_le, length}
use Rattle.std.specs.List.{list_all}
use Rattle.prop_table.specs.declared.table.Row.{Row}

-- a row's name has at most sixteen bytes
abbrev pub has_short_name : Row → Bool
has_short_name row = nat_le (length row.name.now) 16

-- each row's name has at most sixteen bytes
abbrev pub have_short_names : List Row → Bool
have_short_names rows = list_all has_short_name rows
