-- Numbers, names and labels are words, and are read back.
use Rattle.std.proofs.Common.{◌≡◌, ℕ, ℤ, pos, negsuc, zero, suc, ◌+◌, ◌/◌, ◌%◌, ◌≤◌, List, [], ◌∷◌, Bool, true, false, ◌&&◌, if◌then◌else◌, IsTrue, nat_le, nat_lt, ◌==◌, arith, refl, le-leb, length}
use Rattle.std.specs.List.{list_all}
use Rattle.std.specs.Fmt.{digits, digits_onto, digit_glyph, decimal, signed_decimal}
use Rattle.tree_revision.specs.Sound.{is_name_byte, is_name}
use Rattle.run_report.specs.Text.{hex_digit, hex_text}
use Rattle.run_report.proofs.LineWords.{is_word_byte, IsWord, and_left, and_right, and_both}

-- a choice between two bytes of words is one
either_byte : (b : Bool) (x y : ℕ) → 45 ≤ x → 45 ≤ y → is_word_byte (if b then x else y) ≡ true
either_byte true x y p q = le-leb 45 x p
either_byte false x y p q = le-leb 45 y q

-- a choice between two words is a word
either_is_word : (b : Bool) (x y : List ℕ) → IsWord x → IsWord y → IsWord (if b then x else y)
either_is_word true x y p q = p
either_is_word false x y p q = q

-- digits before a word are a word
digits_is_word : (k n : ℕ) (acc : List ℕ) → IsWord acc → IsWord (digits_onto k 10 false n acc)
digits_is_word zero n acc p = p
digits_is_word (suc k) n acc p =
    let glyph : ℕ = digit_glyph false (n % 10) in
    let more : IsWord (glyph ∷ acc) = and_both (is_word_byte glyph) (list_all is_word_byte acc) (either_byte (nat_lt (n % 10) 10) (48 + n % 10) (87 + n % 10) (omega arith) (omega arith)) p in
    either_is_word (n / 10 == 0) (glyph ∷ acc) (digits_onto k 10 false (n / 10) (glyph ∷ acc)) more (digits_is_word k (n / 10) (glyph ∷ acc) more)

-- a number in decimals is a word
pub decimal_is_word : (n : ℕ) → IsWord (decimal n)
unfolding digits
decimal_is_word n = digits_is_word 64 n [] refl

-- so is a signed one
pub signed_is_word : (n : ℤ) → IsWord (signed_decimal n)
signed_is_word (pos n) = decimal_is_word n
signed_is_word (negsuc n) = decimal_is_word (suc n)

-- a byte of a name is one of a word
name_byte : (b : ℕ) → is_name_byte b ≡ true → is_word_byte b ≡ true
name_byte b e = grind arith

-- bytes of names are a word
name_bytes : (bytes : List ℕ) → list_all is_name_byte bytes ≡ true → IsWord bytes
name_bytes [] e = refl
name_bytes (b ∷ bytes) e =
    and_both (is_word_byte b) (list_all is_word_byte bytes) (name_byte b (and_left (is_name_byte b) (list_all is_name_byte bytes) e))
    (name_bytes bytes (and_right (is_name_byte b) (list_all is_name_byte bytes) e))

-- a name is a word
pub name_is_word : (name : List ℕ) → IsTrue (is_name name) → IsWord name
name_is_word name e = name_bytes name (and_right (nat_le 1 (length name) && nat_le (length name) 32) (list_all is_name_byte name) e)

-- a digit in hexadecimal is a byte of a word
hex_digit_byte : (n : ℕ) → is_word_byte (hex_digit n) ≡ true
hex_digit_byte n = either_byte (nat_lt n 10) (48 + n) (87 + n) (omega arith) (omega arith)

-- bytes in hexadecimal are a word
pub hex_is_word : (bytes : List ℕ) → IsWord (hex_text bytes)
hex_is_word [] = refl
hex_is_word (b ∷ bytes) =
    and_both (is_word_byte (hex_digit (b / 16))) (is_word_byte (hex_digit (b % 16)) && list_all is_word_byte (hex_text bytes)) (hex_digit_byte (b / 16))
    (and_both (is_word_byte (hex_digit (b % 16))) (list_all is_word_byte (hex_text bytes)) (hex_digit_byte (b % 16)) (hex_is_word bytes))

-- a digit is read back
hex_digit_is : (m n : ℕ) → hex_digit m ≡ hex_digit n → m ≡ n
hex_digit_is m n e = grind arith

-- and are read back
pub hex_is : (a b : List ℕ) → hex_text a ≡ hex_text b → a ≡ b
hex_is [] [] e = refl
hex_is [] (y ∷ ys) e = absurd (cc)
hex_is (x ∷ xs) [] e = absurd (cc)
hex_is (x ∷ xs) (y ∷ ys) e =
    let high : x / 16 ≡ y / 16 = hex_digit_is (x / 16) (y / 16) (cc) in
    let low : x % 16 ≡ y % 16 = hex_digit_is (x % 16) (y % 16) (cc) in
    let byte : x ≡ y = omega arith in
    let rest : xs ≡ ys = hex_is xs ys (cc) in cc
