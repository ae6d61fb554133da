-- Lines as words: no byte of a word is a space or the end of a line, so a line's text gives back its words.
use Rattle.std.proofs.Common.{◌≡◌, ℕ, ◌<◌, ◌≤◌, List, [], ◌∷◌, ◌++◌, Bool, true, false, ◌&&◌, cond, nat_eq, nat_le, arith, eq-eqb, refl, ap, sym, ◌∙◌, append_assoc, leb-true}
use Rattle.std.specs.List.{AllByRecursion, list_all}

-- a byte that may stand in a word
abbrev pub is_word_byte : ℕ → Bool
is_word_byte byte = nat_le 45 byte

-- a word
abbrev pub IsWord : List ℕ → Type 0
IsWord word = list_all is_word_byte word ≡ true

-- a text that begins with a byte that ends a word
abbrev pub EndsWord : List ℕ → Type 0
EndsWord [] = ⊥
EndsWord (byte ∷ bytes) = byte < 45

-- words to the end of a line, each after a space
abbrev pub ends : List (List ℕ) → List ℕ
ends [] = 10 ∷ []
ends (word ∷ words) = 32 ∷ (word ++ ends words)

-- words, each after a space
abbrev pub spread : List (List ℕ) → List ℕ
spread [] = []
spread (word ∷ words) = 32 ∷ (word ++ spread words)

-- of a conjunction both parts hold
pub and_left : (a b : Bool) → (a && b) ≡ true → a ≡ true
and_left true b e = refl
and_left false b e = e

-- the second part holds
pub and_right : (a b : Bool) → (a && b) ≡ true → b ≡ true
and_right true b e = e
and_right false b e = cc

-- a conjunction of what holds holds
pub and_both : (a b : Bool) → a ≡ true → b ≡ true → (a && b) ≡ true
and_both a b p q = rw (p, q) refl

-- two texts differ at a byte that both have
abbrev pub differs : List ℕ → List ℕ → Bool
differs [] y = false
differs (a ∷ x) [] = false
differs (a ∷ x) (b ∷ y) = cond (nat_eq a b) (differs x y) true

-- a choice by what holds
chosen_same : (same rest : Bool) → same ≡ true → cond same rest true ≡ true → rest ≡ true
chosen_same true rest p e = e
chosen_same false rest p e = absurd (cc)

-- texts that differ do not begin one text
pub apart : (x y s t : List ℕ) → differs x y ≡ true → x ++ s ≡ y ++ t → ⊥
apart [] y s t d e = cc
apart (a ∷ x) [] s t d e = cc
apart (a ∷ x) (b ∷ y) s t d e =
    let same : nat_eq a b ≡ true = eq-eqb a b (cc) in
    apart x y s t (chosen_same (nat_eq a b) (differs x y) same d) (cc)

-- such texts are not one
pub other_word : (x y : List ℕ) → differs x y ≡ true → x ≡ y → ⊥
other_word x y d e = apart x y [] [] d (ap (λ text. text ++ []) e)

-- two words in a row are a word
pub word-append : (x y : List ℕ) → IsWord x → IsWord y → IsWord (x ++ y)
word-append [] y p q = q
word-append (b ∷ x) y p q =
    and_both (is_word_byte b) (list_all is_word_byte (x ++ y)) (and_left (is_word_byte b) (list_all is_word_byte x) p)
    (word-append x y (and_right (is_word_byte b) (list_all is_word_byte x) p) q)

-- a byte is not both one of a word and the end of one
clash : (b c : ℕ) → is_word_byte b ≡ true → c < 45 → b ≡ c → ⊥
clash b c p q e = let h : 45 ≤ b = leb-true 45 b p in omega arith

-- a word does not go on where another ends
word_ended : (b : ℕ) (x s t : List ℕ) → is_word_byte b ≡ true → EndsWord t → b ∷ (x ++ s) ≡ t → ⊥
word_ended b x s [] p q e = q
word_ended b x s (c ∷ t) p q e = clash b c p q (cc)

-- words that end are read off a text in one way
pub word_off : (x y s t : List ℕ) → IsWord x → IsWord y → EndsWord s → EndsWord t → x ++ s ≡ y ++ t → (x ≡ y) × (s ≡ t)
word_off [] [] s t p q h k e = (refl, e)
word_off [] (b ∷ y) s t p q h k e = absurd (word_ended b y t s (and_left (is_word_byte b) (list_all is_word_byte y) q) h (sym e))
word_off (b ∷ x) [] s t p q h k e = absurd (word_ended b x s t (and_left (is_word_byte b) (list_all is_word_byte x) p) k e)
word_off (b ∷ x) (c ∷ y) s t p q h k e =
    let rest = word_off x y s t (and_right (is_word_byte b) (list_all is_word_byte x) p) (and_right (is_word_byte c) (list_all is_word_byte y) q) h k (cc) in
    let x_is : x ≡ y = rest.0 in (cc, rest.1)

-- what follows a word in a line ends it
ends_word : (words : List (List ℕ)) (s : List ℕ) → EndsWord (ends words ++ s)
ends_word [] s = omega arith
ends_word (word ∷ words) s = omega arith

-- the words of a line are read off a text in one way
pub ends_off : (xs ys : List (List ℕ)) (s t : List ℕ) → AllByRecursion IsWord xs → AllByRecursion IsWord ys → ends xs ++ s ≡ ends ys ++ t → (xs ≡ ys) × (s ≡ t)
ends_off [] [] s t p q e = (refl, cc)
ends_off [] (y ∷ ys) s t p q e = absurd (cc)
ends_off (x ∷ xs) [] s t p q e = absurd (cc)
ends_off (x ∷ xs) (y ∷ ys) s t p q e =
    let tail : (x ++ ends xs) ++ s ≡ (y ++ ends ys) ++ t = cc in
    let word = word_off x y (ends xs ++ s) (ends ys ++ t) p.0 q.0 (ends_word xs s) (ends_word ys t) (sym (append_assoc x (ends xs) s) ∙ tail ∙ append_assoc y (ends ys) t) in
    let rest = ends_off xs ys s t p.1 q.1 word.1 in
    let x_is : x ≡ y = word.0 in
    let xs_is : xs ≡ ys = rest.0 in (cc, rest.1)

-- and so is a first word before them
pub line_off : (x y : List ℕ) (xs ys : List (List ℕ)) (s t : List ℕ) → AllByRecursion IsWord (x ∷ xs) → AllByRecursion IsWord (y ∷ ys) → (x ++ ends xs) ++ s ≡ (y ++ ends ys) ++ t
    → (x ≡ y) × (xs ≡ ys) × (s ≡ t)
line_off x y xs ys s t p q e =
    let word = word_off x y (ends xs ++ s) (ends ys ++ t) p.0 q.0 (ends_word xs s) (ends_word ys t) (sym (append_assoc x (ends xs) s) ∙ e ∙ append_assoc y (ends ys) t) in
    let rest = ends_off xs ys s t p.1 q.1 word.1 in (word.0, rest.0, rest.1)

-- what stands before both of two equal texts can go
pub after_same : (u v w s t : List ℕ) → (u ++ v) ++ s ≡ (u ++ w) ++ t → v ++ s ≡ w ++ t
after_same [] v w s t e = e
after_same (b ∷ u) v w s t e = after_same u v w s t (cc)

-- words in a row, and words to the end of a line
pub spread-append : (xs ys : List (List ℕ)) → spread (xs ++ ys) ≡ spread xs ++ spread ys
spread-append [] ys = refl
spread-append (x ∷ xs) ys = ap (λ rest. 32 ∷ (x ++ rest)) (spread-append xs ys) ∙ ap (λ rest. 32 ∷ rest) (sym (append_assoc x (spread xs) (spread ys)))

-- words to the end of a line are words in a row, and the end
pub ends_spread : (xs : List (List ℕ)) → ends xs ≡ spread xs ++ 10 ∷ []
ends_spread [] = refl
ends_spread (x ∷ xs) = ap (λ rest. 32 ∷ (x ++ rest)) (ends_spread xs) ∙ ap (λ rest. 32 ∷ rest) (sym (append_assoc x (spread xs) (10 ∷ [])))

-- the same holds of two lists in a row
pub words-append : (xs ys : List (List ℕ)) → AllByRecursion IsWord xs → AllByRecursion IsWord ys → AllByRecursion IsWord (xs ++ ys)
words-append [] ys p q = q
words-append (x ∷ xs) ys p q = (p.0, words-append xs ys p.1 q)
