-- Texts of a few pieces.
use Rattle.std.specs.Prelude.{ℕ, List, [], ◌∷◌, ◌++◌, decimal}
use Rattle.std.specs.Fmt.{signed_decimal}
use Rattle.run_report.specs.declared.pieces.Piece.{Piece}
use Rattle.run_report.specs.declared.pieces.Piece.TheVariants.{Text, Number, Signed}

-- a piece's text
abbrev pub piece_text : Piece → List ℕ
piece_text (Text text) = text.now
piece_text (Number number) = decimal number
piece_text (Signed number) = signed_decimal number

-- the texts of some pieces, one after another
abbrev pub text_of : List Piece → List ℕ
text_of [] = []
text_of (piece ∷ pieces) = piece_text piece ++ text_of pieces
