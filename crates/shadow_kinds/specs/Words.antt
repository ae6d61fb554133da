-- What each kind is called, and its number.
use Rattle.std.specs.Prelude.{ℕ, List, Option, Some, None, codes, cond, bytes_eq}
use Rattle.shadow_kinds.specs.declared.Kind.{Kind}
use Rattle.shadow_kinds.specs.declared.Kind.TheVariants.{View, Text, Image, Scroll, Input}

-- a kind's word
abbrev pub word_of : Kind → List ℕ
word_of View = codes "view"
word_of Text = codes "text"
word_of Image = codes "image"
word_of Scroll = codes "scroll"
word_of Input = codes "input"

-- the kind of that word, None where it is no kind's
abbrev pub kind_of_word : List ℕ → Option Kind
kind_of_word word =
    cond (bytes_eq word (word_of View)) (Some View)
    (cond (bytes_eq word (word_of Text)) (Some Text)
    (cond (bytes_eq word (word_of Image)) (Some Image)
    (cond (bytes_eq word (word_of Scroll)) (Some Scroll)
    (cond (bytes_eq word (word_of Input)) (Some Input) None))))

-- a kind's number
abbrev pub code_of : Kind → ℕ
code_of View = 0
code_of Text = 1
code_of Image = 2
code_of Scroll = 3
code_of Input = 4
