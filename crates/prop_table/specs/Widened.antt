-- Version 1 props as a node's props.
use Rattle.std.specs.Prelude.{◌++◌, drop}
use Rattle.prop_table.specs.Props.{PropList}
use Rattle.prop_table.specs.Table.{v2_rules, start_of}

-- the same rows, and the start of each row that version 2 adds
abbrev pub widened : PropList → PropList
widened props = props ++ start_of (drop 16 v2_rules)
