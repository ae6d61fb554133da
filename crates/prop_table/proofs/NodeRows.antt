-- What the node's table begins with.
use Rattle.std.proofs.Common.{rules}
use Rattle.prop_table.specs.Table.{v1_rules, v2_rules, AreInRows, AreNodeProps, start_of}

-- version 1's starts are in its rows
pub AreInRows-v1_start : AreInRows v1_rules (start_of v1_rules)
AreInRows-v1_start = search rules depth 40

-- a node's starts are in its rows
pub AreNodeProps-start : AreNodeProps (start_of v2_rules)
AreNodeProps-start = search rules depth 40
