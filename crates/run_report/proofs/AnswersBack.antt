-- Answers are read back from their lines.
use Rattle.std.proofs.Common.{◌≡◌, ℕ, ◌<◌, ◌^◌, List, [], ◌∷◌, ◌++◌, slice_index_or, cond, bytes_eq, codes, arith, refl, ap, ap₂, sym, ◌∙◌, append_assoc}
use Rattle.std.specs.List.{AllByRecursion}
use Rattle.std.specs.Fmt.{decimal}
use Rattle.std.proofs.lemmas.Fmt.{decimal_injective}
use Rattle.tree_revision.specs.declared.record.Cancel.{Cancel}
use Rattle.tree_revision.specs.declared.record.Cancel.TheVariants.{Unkept, ChildOfLeaf, TwiceTag, TooDeep, TooManyNodes, KindChanged, FamiliesFull, NotMounted, Stateless, Stale}
use Rattle.tree_revision.specs.declared.record.Answer.{Answer}
use Rattle.tree_revision.specs.declared.record.Answer.TheVariants.{Held, Admitted, Cancelled, Mounted, Empty}
use Rattle.run_report.specs.Text.{cause_text, answer_text}
use Rattle.run_report.specs.TextParts.{cancelled_head}
use Rattle.run_report.specs.Ranges.{IsCauseInRange, IsAnswerInRange}
use Rattle.run_report.proofs.LineWords.{IsWord, ends, other_word, line_off}
use Rattle.run_report.proofs.Words.{decimal_is_word}

-- the number of a cause
abbrev pub cause_word : Cancel → List ℕ
cause_word (Unkept tag) = codes "1"
cause_word (ChildOfLeaf tag) = codes "2"
cause_word (TwiceTag tag) = codes "3"
cause_word TooDeep = codes "4"
cause_word TooManyNodes = codes "5"
cause_word (KindChanged tag) = codes "6"
cause_word FamiliesFull = codes "7"
cause_word (NotMounted tag) = codes "8"
cause_word (Stateless tag) = codes "9"
cause_word (Stale tag count) = codes "10"

-- its name and what it carries
abbrev pub cause_words : Cancel → List (List ℕ)
cause_words (Unkept tag) = codes "Unkept" ∷ decimal tag ∷ []
cause_words (ChildOfLeaf tag) = codes "ChildOfLeaf" ∷ decimal tag ∷ []
cause_words (TwiceTag tag) = codes "TwiceTag" ∷ decimal tag ∷ []
cause_words TooDeep = codes "TooDeep" ∷ []
cause_words TooManyNodes = codes "TooManyNodes" ∷ []
cause_words (KindChanged tag) = codes "KindChanged" ∷ decimal tag ∷ []
cause_words FamiliesFull = codes "FamiliesFull" ∷ []
cause_words (NotMounted tag) = codes "NotMounted" ∷ decimal tag ∷ []
cause_words (Stateless tag) = codes "Stateless" ∷ decimal tag ∷ []
cause_words (Stale tag count) = codes "Stale" ∷ decimal tag ∷ decimal count ∷ []

-- the tag that it carries, 0 where there is none
abbrev cause_tag : Cancel → ℕ
cause_tag (Unkept tag) = tag
cause_tag (ChildOfLeaf tag) = tag
cause_tag (TwiceTag tag) = tag
cause_tag TooDeep = 0
cause_tag TooManyNodes = 0
cause_tag (KindChanged tag) = tag
cause_tag FamiliesFull = 0
cause_tag (NotMounted tag) = tag
cause_tag (Stateless tag) = tag
cause_tag (Stale tag count) = tag

-- the count that it carries, 0 where there is none
abbrev cause_count : Cancel → ℕ
cause_count (Unkept tag) = 0
cause_count (ChildOfLeaf tag) = 0
cause_count (TwiceTag tag) = 0
cause_count TooDeep = 0
cause_count TooManyNodes = 0
cause_count (KindChanged tag) = 0
cause_count FamiliesFull = 0
cause_count (NotMounted tag) = 0
cause_count (Stateless tag) = 0
cause_count (Stale tag count) = count

-- the cause of that number that carries these
abbrev cause_from : List ℕ → (tag count : ℕ) → Cancel
cause_from word tag count =
    cond (bytes_eq word (codes "1")) (Unkept tag)
    (cond (bytes_eq word (codes "2")) (ChildOfLeaf tag)
    (cond (bytes_eq word (codes "3")) (TwiceTag tag)
    (cond (bytes_eq word (codes "4")) TooDeep
    (cond (bytes_eq word (codes "5")) TooManyNodes
    (cond (bytes_eq word (codes "6")) (KindChanged tag)
    (cond (bytes_eq word (codes "7")) FamiliesFull
    (cond (bytes_eq word (codes "8")) (NotMounted tag)
    (cond (bytes_eq word (codes "9")) (Stateless tag)
    (Stale tag count)))))))))

-- a cause is given back by its number and what it carries
cause_back : (cause : Cancel) → cause_from (cause_word cause) (cause_tag cause) (cause_count cause) ≡ cause
cause_back (Unkept tag) = refl
cause_back (ChildOfLeaf tag) = refl
cause_back (TwiceTag tag) = refl
cause_back TooDeep = refl
cause_back TooManyNodes = refl
cause_back (KindChanged tag) = refl
cause_back FamiliesFull = refl
cause_back (NotMounted tag) = refl
cause_back (Stateless tag) = refl
cause_back (Stale tag count) = refl

-- the tag stands after the name
tag_word : (cause : Cancel) → slice_index_or (cause_words cause) 1 (decimal 0) ≡ decimal (cause_tag cause)
tag_word (Unkept tag) = refl
tag_word (ChildOfLeaf tag) = refl
tag_word (TwiceTag tag) = refl
tag_word TooDeep = refl
tag_word TooManyNodes = refl
tag_word (KindChanged tag) = refl
tag_word FamiliesFull = refl
tag_word (NotMounted tag) = refl
tag_word (Stateless tag) = refl
tag_word (Stale tag count) = refl

-- the count stands after the tag
count_word : (cause : Cancel) → slice_index_or (cause_words cause) 2 (decimal 0) ≡ decimal (cause_count cause)
count_word (Unkept tag) = refl
count_word (ChildOfLeaf tag) = refl
count_word (TwiceTag tag) = refl
count_word TooDeep = refl
count_word TooManyNodes = refl
count_word (KindChanged tag) = refl
count_word FamiliesFull = refl
count_word (NotMounted tag) = refl
count_word (Stateless tag) = refl
count_word (Stale tag count) = refl

-- the tag is in range
tag_range : (cause : Cancel) → IsCauseInRange cause → cause_tag cause < 2 ^ 64
tag_range (Unkept tag) p = p
tag_range (ChildOfLeaf tag) p = p
tag_range (TwiceTag tag) p = p
tag_range TooDeep p = omega arith
tag_range TooManyNodes p = omega arith
tag_range (KindChanged tag) p = p
tag_range FamiliesFull p = omega arith
tag_range (NotMounted tag) p = p
tag_range (Stateless tag) p = p
tag_range (Stale tag count) p = p.0

-- the count is in range
count_range : (cause : Cancel) → IsCauseInRange cause → cause_count cause < 2 ^ 64
count_range (Unkept tag) p = omega arith
count_range (ChildOfLeaf tag) p = omega arith
count_range (TwiceTag tag) p = omega arith
count_range TooDeep p = omega arith
count_range TooManyNodes p = omega arith
count_range (KindChanged tag) p = omega arith
count_range FamiliesFull p = omega arith
count_range (NotMounted tag) p = omega arith
count_range (Stateless tag) p = omega arith
count_range (Stale tag count) p = p.1

-- a cause is read back from its words
cause_is : (a b : Cancel) → IsCauseInRange a → IsCauseInRange b → cause_word a ≡ cause_word b → cause_words a ≡ cause_words b → a ≡ b
cause_is a b p q word words =
    let tag : cause_tag a ≡ cause_tag b = decimal_injective (cause_tag a) (cause_tag b) (tag_range a p) (tag_range b q)
    (sym (tag_word a) ∙ ap (λ list. slice_index_or list 1 (decimal 0)) words ∙ tag_word b) in
    let count : cause_count a ≡ cause_count b = decimal_injective (cause_count a) (cause_count b) (count_range a p) (count_range b q)
    (sym (count_word a) ∙ ap (λ list. slice_index_or list 2 (decimal 0)) words ∙ count_word b) in
    sym (cause_back a) ∙ (λ i. cause_from (word i) (tag i) (count i)) ∙ cause_back b

-- a cause's text is its words
cause_line_is : (cause : Cancel) → cause_text cause ≡ cause_word cause ++ ends (cause_words cause)
cause_line_is (Unkept tag) = refl
cause_line_is (ChildOfLeaf tag) = refl
cause_line_is (TwiceTag tag) = refl
cause_line_is TooDeep = refl
cause_line_is TooManyNodes = refl
cause_line_is (KindChanged tag) = refl
cause_line_is FamiliesFull = refl
cause_line_is (NotMounted tag) = refl
cause_line_is (Stateless tag) = refl
cause_line_is (Stale tag count) = refl

-- the words of a cause are words
cause_are_words : (cause : Cancel) → AllByRecursion IsWord (cause_word cause ∷ cause_words cause)
cause_are_words (Unkept tag) = (refl, (refl, (decimal_is_word tag, tt)))
cause_are_words (ChildOfLeaf tag) = (refl, (refl, (decimal_is_word tag, tt)))
cause_are_words (TwiceTag tag) = (refl, (refl, (decimal_is_word tag, tt)))
cause_are_words TooDeep = (refl, (refl, tt))
cause_are_words TooManyNodes = (refl, (refl, tt))
cause_are_words (KindChanged tag) = (refl, (refl, (decimal_is_word tag, tt)))
cause_are_words FamiliesFull = (refl, (refl, tt))
cause_are_words (NotMounted tag) = (refl, (refl, (decimal_is_word tag, tt)))
cause_are_words (Stateless tag) = (refl, (refl, (decimal_is_word tag, tt)))
cause_are_words (Stale tag count) = (refl, (refl, (decimal_is_word tag, (decimal_is_word count, tt))))

-- the first word of an answer
abbrev pub answer_word : Answer → List ℕ
answer_word (Held at) = codes "held"
answer_word (Admitted number tries) = codes "admitted"
answer_word (Cancelled at tries cause) = codes "cancelled"
answer_word (Mounted base to) = codes "mounted"
answer_word (Empty at) = codes "empty"

-- the words after it
abbrev pub answer_words : Answer → List (List ℕ)
answer_words (Held at) = decimal at ∷ []
answer_words (Admitted number tries) = decimal number ∷ codes "tries" ∷ decimal tries ∷ []
answer_words (Cancelled at tries cause) = decimal at ∷ codes "tries" ∷ decimal tries ∷ codes "cause" ∷ cause_word cause ∷ cause_words cause
answer_words (Mounted base to) = decimal base ∷ decimal to ∷ []
answer_words (Empty at) = decimal at ∷ []

-- an answer's line is its words
answer_line_is : (answer : Answer) → answer_text answer ≡ answer_word answer ++ ends (answer_words answer)
answer_line_is (Held at) = refl
answer_line_is (Admitted number tries) = refl
answer_line_is (Cancelled at tries cause) =
    ap (λ text. cancelled_head at tries ++ text) (cause_line_is cause)
    ∙ ap (λ text. codes "cancelled " ++ text) (append_assoc (decimal at) (codes " tries " ++ (decimal tries ++ codes " cause ")) (cause_word cause ++ ends (cause_words cause)))
    ∙ ap (λ text. codes "cancelled " ++ (decimal at ++ (codes " tries " ++ text))) (append_assoc (decimal tries) (codes " cause ") (cause_word cause ++ ends (cause_words cause)))
answer_line_is (Mounted base to) = refl
answer_line_is (Empty at) = refl

-- the words of an answer are words
answer_are_words : (answer : Answer) → AllByRecursion IsWord (answer_word answer ∷ answer_words answer)
answer_are_words (Held at) = (refl, (decimal_is_word at, tt))
answer_are_words (Admitted number tries) = (refl, (decimal_is_word number, (refl, (decimal_is_word tries, tt))))
answer_are_words (Cancelled at tries cause) = (refl, (decimal_is_word at, (refl, (decimal_is_word tries, (refl, cause_are_words cause)))))
answer_are_words (Mounted base to) = (refl, (decimal_is_word base, (decimal_is_word to, tt)))
answer_are_words (Empty at) = (refl, (decimal_is_word at, tt))

-- an answer is read back from its words
answer_is : (a b : Answer) → IsAnswerInRange a → IsAnswerInRange b → answer_word a ≡ answer_word b → answer_words a ≡ answer_words b → a ≡ b
answer_is (Held at) (Held at') p q word words = ap Held (decimal_injective at at' p q (cc))
answer_is (Held at) (Admitted number' tries') _ _ word _ = absurd (other_word (codes "held") (codes "admitted") refl word)
answer_is (Held at) (Cancelled at' tries' cause') _ _ word _ = absurd (other_word (codes "held") (codes "cancelled") refl word)
answer_is (Held at) (Mounted base' to') _ _ word _ = absurd (other_word (codes "held") (codes "mounted") refl word)
answer_is (Held at) (Empty at') _ _ word _ = absurd (other_word (codes "held") (codes "empty") refl word)
answer_is (Admitted number tries) (Held at') _ _ word _ = absurd (other_word (codes "admitted") (codes "held") refl word)
answer_is (Admitted number tries) (Admitted number' tries') p q word words = ap₂ Admitted (decimal_injective number number' p.0 q.0 (cc)) (decimal_injective tries tries' p.1 q.1 (cc))
answer_is (Admitted number tries) (Cancelled at' tries' cause') _ _ word _ = absurd (other_word (codes "admitted") (codes "cancelled") refl word)
answer_is (Admitted number tries) (Mounted base' to') _ _ word _ = absurd (other_word (codes "admitted") (codes "mounted") refl word)
answer_is (Admitted number tries) (Empty at') _ _ word _ = absurd (other_word (codes "admitted") (codes "empty") refl word)
answer_is (Cancelled at tries cause) (Held at') _ _ word _ = absurd (other_word (codes "cancelled") (codes "held") refl word)
answer_is (Cancelled at tries cause) (Admitted number' tries') _ _ word _ = absurd (other_word (codes "cancelled") (codes "admitted") refl word)
answer_is (Cancelled at tries cause) (Cancelled at' tries' cause') p q word words =
    let at_is : at ≡ at' = decimal_injective at at' p.0 q.0 (cc) in
    let tries_is : tries ≡ tries' = decimal_injective tries tries' p.1 q.1 (cc) in
    let cause_same : cause ≡ cause' = cause_is cause cause' p.2 q.2 (cc) (cc) in cc
answer_is (Cancelled at tries cause) (Mounted base' to') _ _ word _ = absurd (other_word (codes "cancelled") (codes "mounted") refl word)
answer_is (Cancelled at tries cause) (Empty at') _ _ word _ = absurd (other_word (codes "cancelled") (codes "empty") refl word)
answer_is (Mounted base to) (Held at') _ _ word _ = absurd (other_word (codes "mounted") (codes "held") refl word)
answer_is (Mounted base to) (Admitted number' tries') _ _ word _ = absurd (other_word (codes "mounted") (codes "admitted") refl word)
answer_is (Mounted base to) (Cancelled at' tries' cause') _ _ word _ = absurd (other_word (codes "mounted") (codes "cancelled") refl word)
answer_is (Mounted base to) (Mounted base' to') p q word words = ap₂ Mounted (decimal_injective base base' p.0 q.0 (cc)) (decimal_injective to to' p.1 q.1 (cc))
answer_is (Mounted base to) (Empty at') _ _ word _ = absurd (other_word (codes "mounted") (codes "empty") refl word)
answer_is (Empty at) (Held at') _ _ word _ = absurd (other_word (codes "empty") (codes "held") refl word)
answer_is (Empty at) (Admitted number' tries') _ _ word _ = absurd (other_word (codes "empty") (codes "admitted") refl word)
answer_is (Empty at) (Cancelled at' tries' cause') _ _ word _ = absurd (other_word (codes "empty") (codes "cancelled") refl word)
answer_is (Empty at) (Mounted base' to') _ _ word _ = absurd (other_word (codes "empty") (codes "mounted") refl word)
answer_is (Empty at) (Empty at') p q word words = ap Empty (decimal_injective at at' p q (cc))

-- an answer is read back from its line
pub answer_off : (a b : Answer) (s t : List ℕ) → IsAnswerInRange a → IsAnswerInRange b → answer_text a ++ s ≡ answer_text b ++ t → (a ≡ b) × (s ≡ t)
answer_off a b s t p q e =
    let line : (answer_word a ++ ends (answer_words a)) ++ s ≡ (answer_word b ++ ends (answer_words b)) ++ t =
    ap (λ text. text ++ s) (sym (answer_line_is a)) ∙ e ∙ ap (λ text. text ++ t) (answer_line_is b) in
    let words = line_off (answer_word a) (answer_word b) (answer_words a) (answer_words b) s t (answer_are_words a) (answer_are_words b) line in
    (answer_is a b p q words.0 words.1, words.2)
