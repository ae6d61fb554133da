-- The bytes of a label.
use Rattle.std.specs.Prelude.{ℕ, ◌≤◌, List, [], length, IsTrue, Some, None}
use Rattle.std.specs.Str.{is_utf8}
use Rattle.prop_table.specs.declared.label.Label.TheInside.{Inside}

-- a label without a text of its own is empty
abbrev pub bytes_of : Inside → List ℕ
bytes_of label = elim label.bytes [ None ↦ [] | Some bytes ↦ bytes.value.items ]

-- a text in UTF-8, of at most 256 bytes
pub record IsLabelText (bytes : List ℕ) : Type 0 where
  pub short : length bytes ≤ 256
  pub utf8 : IsTrue (is_utf8 bytes)
