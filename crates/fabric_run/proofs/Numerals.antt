-- A number in plain decimals, as `clap` reads it.
use Rattle.std.proofs.Common.{◌≡◌, ◌∙◌, ◌≤◌, ◌==◌, ℕ, Bool, true, false, [], ◌∷◌, refl, ap, arith}
use Rattle.std.specs.Prelude.{decimal, pos}
use Rattle.std.specs.Str.Parse.{IsNumeral, digits_value, without_leading_plus}
use Rattle.std.proofs.lemmas.Bool.{ne_eqb}
use Rattle.std.proofs.lemmas.Fmt.{decimal_is_IsNumeral}
use Rattle.std.proofs.lemmas.Int.{ints}
use Rattle.std.proofs.lemmas.Str.Parse.{digit_from_value}
use Rattle.clap.specs.Lexer.{without_minus}
use Rattle.clap.specs.Walk.{Text}
use Rattle.clap.specs.Values.{IsSignedIn}
use Rattle.clap.specs.ValueTests.{accepts}
use Rattle.clap.specs.declared.builder.value_parser.ValueParser.TheVariants as vp
use Rattle.clap.proofs.ValueTestLemmas.{Accepts-accepts, accepts-Accepts}
use Rattle.fabric_run.specs.Steps.{IsSmallNumeral}
use Rattle.fabric_run.specs.Words.{number_in}
use Rattle.fabric_run.proofs.WalkOfWords.{is_dashes, is_flag}

-- what a numeral begins with is neither a hyphen nor a plus
no_sign : (ds : Text) → IsNumeral 10 ds → (is_dashes ds ≡ false) × (is_flag ds ≡ false) × (without_minus ds ≡ ds) × (without_leading_plus ds ≡ ds)
no_sign [] h = absurd (omega (arith, h.0))
no_sign (d ∷ ds) h =
    let minus : (d == 45) ≡ false = ne_eqb d 45 (λ e. omega (arith, digit_from_value d h.1.0)) in
    let plus : (d == 43) ≡ false = ne_eqb d 43 (λ e. omega (arith, digit_from_value d h.1.0)) in
    (rw minus refl, rw minus refl, rw minus refl, rw plus refl)

accepted : (ds : Text) (n : ℕ) → IsNumeral 10 ds → digits_value 10 ds ≡ n → n ≤ 1000000 → IsSignedIn (pos 0) (pos 1000000) ds
accepted [] n h is small = absurd (omega (arith, h.0))
accepted (d ∷ ds) n h is small =
    let minus : (d == 45) ≡ false = ne_eqb d 45 (λ e. omega (arith, digit_from_value d h.1.0)) in
    let plus : (d == 43) ≡ false = ne_eqb d 43 (λ e. omega (arith, digit_from_value d h.1.0)) in
    rw (minus, plus, is) (h, record { sfits = omega (arith, small) }, omega (arith, ints), omega (arith, ints, small))

module _ (n : ℕ) (small : n ≤ 1000000) where
  numeral : IsNumeral 10 (decimal n) × (digits_value 10 (decimal n) ≡ n)
  numeral = decimal_is_IsNumeral n (omega (arith, small))

  pub not_dashes : is_dashes (decimal n) ≡ false
  not_dashes = (no_sign (decimal n) numeral.0).0

  pub not_flag : is_flag (decimal n) ≡ false
  not_flag = (no_sign (decimal n) numeral.0).1

  pub is_taken : accepts false (vp.Signed (pos 0) (pos 1000000)) (decimal n) ≡ true
  is_taken = Accepts-accepts false (vp.Signed (pos 0) (pos 1000000)) (decimal n) (accepted (decimal n) n numeral.0 numeral.1 small)

  pub is_read : number_in (without_minus (decimal n)) ≡ n
  is_read = ap number_in (no_sign (decimal n) numeral.0).2 ∙ ap (digits_value 10) (no_sign (decimal n) numeral.0).3 ∙ numeral.1

no_plus : (ds : Text) → IsNumeral 10 ds → without_leading_plus ds ≡ ds
no_plus ds h = (no_sign ds h).3

readable_from : (text : Text) → IsSignedIn (pos 0) (pos 1000000) text → IsSmallNumeral (without_minus text)
readable_from [] h = absurd (omega (arith, h.0.0))
readable_from (d ∷ ds) h = go (d == 45) refl
  where
    go : (b : Bool) → (d == 45) ≡ b → IsSmallNumeral (without_minus (d ∷ ds))
    go true e =
        let numeral : IsNumeral 10 ds = rw e at h.0 in
        let high = rw e at h.3 in
        let low = rw e at h.2 in
        let plus = no_plus ds numeral in
        rw e (record { numeral = rw plus numeral; small = rw plus (omega (arith, ints)) })
    go false e =
        let numeral : IsNumeral 10 (without_leading_plus (d ∷ ds)) = rw e at h.0 in
        let high = rw e at h.3 in
        rw e (record { numeral = numeral; small = omega (arith, ints) })

-- a text that is taken can be read
pub readable : (text : Text) → accepts false (vp.Signed (pos 0) (pos 1000000)) text ≡ true → IsSmallNumeral (without_minus text)
readable text e = readable_from text (accepts-Accepts false (vp.Signed (pos 0) (pos 1000000)) text e)
