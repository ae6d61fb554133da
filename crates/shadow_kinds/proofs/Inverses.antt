-- A kind is given back by its word.
use Rattle.std.proofs.Common.{◌≡◌, Some, refl}
use Rattle.shadow_kinds.specs.Words.{word_of, kind_of_word}
use Rattle.shadow_kinds.specs.declared.Kind.{Kind}
use Rattle.shadow_kinds.specs.declared.Kind.TheVariants.{View, Text, Image, Scroll, Input}

pub kind_of_word-word_of : (kind : Kind) → kind_of_word (word_of kind) ≡ Some kind
kind_of_word-word_of View = refl
kind_of_word-word_of Text = refl
kind_of_word-word_of Image = refl
kind_of_word-word_of Scroll = refl
kind_of_word-word_of Input = refl
