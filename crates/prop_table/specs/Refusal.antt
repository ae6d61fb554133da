-- Why a text is no label.
use Rattle.std.specs.Prelude.{ℕ, ◌<◌, ◌≤◌}
use Rattle.prop_table.specs.declared.label.LabelRefusal.{LabelRefusal}
use Rattle.prop_table.specs.declared.label.LabelRefusal.TheVariants.{TooLong, Memory}

-- a text of that many bytes is refused for its length exactly above 256, and else for want of memory
abbrev pub refuses : ℕ → LabelRefusal → Type 0
refuses length TooLong = 256 < length
refuses length Memory = length ≤ 256
