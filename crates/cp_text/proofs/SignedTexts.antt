-- Signed texts are the signed decimal texts of 64 bits, both ways.
use Rattle.std.proofs.Common.{◌≡◌, ℕ, zero, suc, ◌^◌, ◌<◌, ◌≤◌, ◌≢◌, ◌==◌, true, false, inl, inr, List, [], ◌∷◌, length, get_or, ℤ, pos, negsuc, Option, Some, None, FitsSigned, refl, sym, ap, ◌∙◌, arith}
use Rattle.std.specs.Prelude.{decimal, nat_lt}
use Rattle.std.specs.Fmt.{signed_decimal}
use Rattle.std.specs.Int.{w64}
use Rattle.std.proofs.lemmas.Bool.{cases_eq}
use Rattle.std.proofs.lemmas.Fmt.{decimal_nonempty, length_signed_le, signed_decimal_injective}
use Rattle.std.proofs.lemmas.List.Elements.{All-cons, All-get_or, All-weaker}
use Rattle.cp_text.proofs.Choices.{chosen, left, taken}
use Rattle.cp_text.proofs.NumberTexts.{decimal-are_digits, length-decimal-bounds, spelled_number-decimal, spelled_number-spelled}
use Rattle.cp_text.specs.Number.{spelled_number}
use Rattle.cp_text.specs.Signed.{AreSignedDigits, IsSignedDigit, negated, plain, signed_of}

-- where a plain number is found
plain-some : (o : Option ℕ) (z : ℤ) → plain o ≡ Some z → (n : ℕ) × (o ≡ Some n) × (Some (pos n) ≡ Some z) × (n < 2 ^ 63)
plain-some None z h = cc h
plain-some (Some n) z h =
    let test = chosen (nat_lt n (2 ^ 63)) (Some (pos n)) z h in
    let low : n < 2 ^ 63 = grind (arith, test.0) in
    (n, refl, test.1, low)

-- where a negated number is found
negated-some : (o : Option ℕ) (z : ℤ) → negated o ≡ Some z → (n : ℕ) × (o ≡ Some (suc n)) × (Some (negsuc n) ≡ Some z) × (n < 2 ^ 63)
negated-some None z h = cc h
negated-some (Some zero) z h = cc h
negated-some (Some (suc n)) z h =
    let test = chosen (nat_lt n (2 ^ 63)) (Some (negsuc n)) z h in
    let low : n < 2 ^ 63 = grind (arith, test.0) in
    (n, refl, test.1, low)

-- the number behind a `Some`
same_signed : (y z : ℤ) → Some y ≡ Some z → y ≡ z
same_signed y z h = cc

-- numbers of 64 bits
fits_pos : (n : ℕ) → n < 2 ^ 63 → FitsSigned w64 (pos n)
fits_pos n low = record { sfits = low }

fits_negsuc : (n : ℕ) → n < 2 ^ 63 → FitsSigned w64 (negsuc n)
fits_negsuc n low = record { sfits = low }

-- a text with no minus
signed_of-plain : (text : List ℕ) → get_or text 0 0 ≢ 45 → signed_of text ≡ plain (spelled_number text)
signed_of-plain [] h = refl
signed_of-plain (first ∷ rest) h =
    let test : (first == 45) ≡ false = grind (arith, h) in
    left (first == 45) (negated (spelled_number rest)) (plain (spelled_number (first ∷ rest))) test

-- a text with a minus
signed_of-minus : (first : ℕ) (rest : List ℕ) → first ≡ 45 → signed_of (first ∷ rest) ≡ negated (spelled_number rest)
signed_of-minus first rest h =
    let test : (first == 45) ≡ true = grind (arith, h) in
    taken (first == 45) (negated (spelled_number rest)) (plain (spelled_number (first ∷ rest))) test

-- what is read without a minus
plain-spelled : (text : List ℕ) (z : ℤ) → plain (spelled_number text) ≡ Some z → (text ≡ signed_decimal z) × FitsSigned w64 z
plain-spelled text z h =
    let found = plain-some (spelled_number text) z h in
    let spelled = spelled_number-spelled text found.0 found.1 in
    let same = same_signed (pos found.0) z found.2 in
    (spelled.0 ∙ ap signed_decimal same, rw (← same) (fits_pos found.0 found.3))

-- what is read after a minus
negated-spelled : (first : ℕ) (rest : List ℕ) (z : ℤ) → first ≡ 45 → negated (spelled_number rest) ≡ Some z
    → ((first ∷ rest) ≡ signed_decimal z) × FitsSigned w64 z
negated-spelled first rest z minus h =
    let found = negated-some (spelled_number rest) z h in
    let spelled = spelled_number-spelled rest (suc found.0) found.1 in
    let same = same_signed (negsuc found.0) z found.2 in
    (rw (minus, spelled.0) (ap signed_decimal same), rw (← same) (fits_negsuc found.0 found.3))

-- what is read as a signed number is its signed decimal text
pub signed_of-spelled : (text : List ℕ) (z : ℤ) → signed_of text ≡ Some z → (text ≡ signed_decimal z) × FitsSigned w64 z
signed_of-spelled [] z h = cc h
signed_of-spelled (first ∷ rest) z h =
    elim (cases_eq first 45) [
      | inl minus ↦ negated-spelled first rest z minus (sym (signed_of-minus first rest minus) ∙ h)
      | inr digit ↦ plain-spelled (first ∷ rest) z (sym (signed_of-plain (first ∷ rest) digit) ∙ h)
    ]

-- the first byte of a decimal text is no minus
decimal-no_minus : (n : ℕ) → n < 2 ^ 64 → get_or (decimal n) 0 0 ≢ 45
decimal-no_minus n low =
    let first = All-get_or (λ byte. (48 ≤ byte) × (byte ≤ 57)) (decimal n) 0 0 (decimal_nonempty n low) (decimal-are_digits n low) in
    λ minus. absurd (omega arith)

-- the signed decimal text of a number is read as it
pub signed_of-decimal : (z : ℤ) → FitsSigned w64 z → signed_of (signed_decimal z) ≡ Some z
signed_of-decimal (pos n) fits =
    let low : n < 2 ^ 63 = fits.sfits in
    let short : n < 2 ^ 64 = omega arith in
    let test : nat_lt n (2 ^ 63) ≡ true = grind (arith, low) in
    signed_of-plain (decimal n) (decimal-no_minus n short) ∙ ap plain (spelled_number-decimal n short)
    ∙ taken (nat_lt n (2 ^ 63)) (Some (pos n)) None test
signed_of-decimal (negsuc n) fits =
    let low : n < 2 ^ 63 = fits.sfits in
    let short : suc n < 2 ^ 64 = omega arith in
    let test : nat_lt n (2 ^ 63) ≡ true = grind (arith, low) in
    ap negated (spelled_number-decimal (suc n) short) ∙ taken (nat_lt n (2 ^ 63)) (Some (negsuc n)) None test

-- a signed decimal text has digits, and a minus where there is one
pub signed_decimal-are_digits : (z : ℤ) → FitsSigned w64 z → AreSignedDigits (signed_decimal z)
signed_decimal-are_digits (pos n) fits =
    let low : n < 2 ^ 63 = fits.sfits in
    All-weaker (λ byte. (48 ≤ byte) × (byte ≤ 57)) IsSignedDigit (λ byte h. inr h) (decimal n) (decimal-are_digits n (omega arith))
signed_decimal-are_digits (negsuc n) fits =
    let low : n < 2 ^ 63 = fits.sfits in
    All-cons IsSignedDigit 45 (decimal (suc n)) (inl refl)
    (All-weaker (λ byte. (48 ≤ byte) × (byte ≤ 57)) IsSignedDigit (λ byte h. inr h) (decimal (suc n)) (decimal-are_digits (suc n) (omega arith)))

-- it is 1 to 20 bytes
pub length-signed_decimal-bounds : (z : ℤ) → FitsSigned w64 z → (1 ≤ length (signed_decimal z)) × (length (signed_decimal z) ≤ 20)
length-signed_decimal-bounds (pos n) fits =
    let low : n < 2 ^ 63 = fits.sfits in
    length-decimal-bounds n (omega arith)
length-signed_decimal-bounds (negsuc n) fits =
    let low : n < 2 ^ 63 = fits.sfits in
    (omega arith, length_signed_le 19 (negsuc n) (omega arith) low)

-- numbers of one text are one
pub signed_decimal-one : (y z : ℤ) → FitsSigned w64 y → FitsSigned w64 z → signed_decimal y ≡ signed_decimal z → y ≡ z
signed_decimal-one y z fits_y fits_z same = signed_decimal_injective y z fits_y.sfits fits_z.sfits same
