-- Number texts are the decimal texts of 64 bits, both ways.
use Rattle.std.proofs.Common.{◌≡◌, ℕ, ◌+◌, ◌-◌, ◌*◌, ◌^◌, ◌<◌, ◌≤◌, ◌==◌, true, false, ◌&&◌, inl, inr, List, [], ◌∷◌, length, get_or, Option, Some, None, refl, sym, ap, ◌∙◌, arith}
use Rattle.std.specs.Prelude.{decimal, nat_lt, unwrap_or}
use Rattle.std.specs.Char.{digit_value, is_ascii_digit}
use Rattle.std.specs.Str.Parse.{AllDigits, digits_value, digits_value_after}
use Rattle.std.proofs.lemmas.Bool.{and_parts, cases_lt}
use Rattle.std.proofs.lemmas.List.Elements.{All-from_get_or}
use Rattle.std.proofs.lemmas.Str.Parse.{IsNumeralModel, digit_at, numerals_by_value, tells_digits}
use Rattle.std.proofs.lemmas.Fmt.{decimal-digits_value, decimal_digit, decimal_nonempty, digits_decimal, digits_value-decimal, first_decimal, length-decimal-le}
use Rattle.cp_text.proofs.Choices.{chosen, other, taken}
use Rattle.cp_text.specs.Number.{AreDigits, digits_after, extended, spelled_number}

-- std's digits and their value, as std's lemmas take them
numerals : IsNumeralModel (AllDigits 10) (digits_value 10)
numerals = numerals_by_value (AllDigits 10) tells_digits

-- the two tests of a digit agree
digit_tested : (byte : ℕ) → is_ascii_digit byte ≡ true → (digit_value byte < 10) × (digit_value byte ≡ byte - 48)
digit_tested byte h = grind (arith)

digit_found : (byte : ℕ) → digit_value byte < 10 → (is_ascii_digit byte ≡ true) × (digit_value byte ≡ byte - 48)
digit_found byte h = grind (arith)

-- the value behind a `Some`
same_value : (m n : ℕ) → Some m ≡ Some n → m ≡ n
same_value m n h = ap (λ (o : Option ℕ). unwrap_or o 0) h

-- digits that have a value of 64 bits are digits, and the value is std's
pub digits_after-some : (value : ℕ) (text : List ℕ) (n : ℕ) → value < 2 ^ 64 → digits_after value text ≡ Some n
    → AllDigits 10 text × (digits_value_after 10 value text ≡ n) × (n < 2 ^ 64)
digits_after-some value [] n low h = (tt, same_value value n h, rw (← same_value value n h) low)
digits_after-some value (byte ∷ rest) n low h =
    let test = chosen (is_ascii_digit byte && nat_lt (extended value byte) (2 ^ 64)) (digits_after (extended value byte) rest) n h in
    let parts = and_parts (is_ascii_digit byte) (nat_lt (extended value byte) (2 ^ 64)) test.0 in
    let digit = digit_tested byte parts.0 in
    let next : extended value byte < 2 ^ 64 = grind (arith, parts.1) in
    let ih = digits_after-some (extended value byte) rest n next test.1 in
    ((digit.0, ih.0), rw digit.1 ih.1, ih.2)

-- more digits make no smaller value
after-le : (value : ℕ) (text : List ℕ) → value ≤ digits_value_after 10 value text
after-le value [] = omega arith
after-le value (byte ∷ rest) = let ih = after-le (value * 10 + digit_value byte) rest in omega (arith, ih)

-- digits whose value has 64 bits have that value
pub digits_after-digits : (value : ℕ) (text : List ℕ) → AllDigits 10 text → digits_value_after 10 value text < 2 ^ 64
    → digits_after value text ≡ Some (digits_value_after 10 value text)
digits_after-digits value [] digits low = refl
digits_after-digits value (byte ∷ rest) digits low =
    let digit = digit_found byte digits.0 in
    let same : value * 10 + digit_value byte ≡ extended value byte = rw digit.1 refl in
    let all : digits_value_after 10 (extended value byte) rest < 2 ^ 64 = rw same at low in
    let next = after-le (extended value byte) rest in
    let test : (is_ascii_digit byte && nat_lt (extended value byte) (2 ^ 64)) ≡ true = grind (arith, digit.0, next, all) in
    taken _ (digits_after (extended value byte) rest) None test
    ∙ digits_after-digits (extended value byte) rest digits.1 all
    ∙ rw same refl

-- digits in one form: not none, and no zero before another digit
abbrev IsShortest : List ℕ → Type 0
IsShortest text = (0 < length text) × (get_or text 0 0 ≡ 48 → length text ≡ 1)

-- a text is a number where it is digits in one form whose value has 64 bits
pub spelled_number-digits : (text : List ℕ) → AllDigits 10 text → IsShortest text → digits_value 10 text < 2 ^ 64
    → spelled_number text ≡ Some (digits_value 10 text)
spelled_number-digits [] digits form low = absurd (omega arith)
spelled_number-digits (digit ∷ []) digits form low = digits_after-digits 0 (digit ∷ []) digits low
spelled_number-digits (first ∷ second ∷ rest) digits form low =
    let test : (first == 48) ≡ false = grind (arith, form.1) in
    rw test (digits_after-digits 0 (first ∷ second ∷ rest) digits low)

-- a number's text is digits in one form whose value is the number
pub spelled_number-some : (text : List ℕ) (n : ℕ) → spelled_number text ≡ Some n
    → AllDigits 10 text × IsShortest text × (digits_value 10 text ≡ n) × (n < 2 ^ 64)
spelled_number-some [] n h = cc h
spelled_number-some (digit ∷ []) n h =
    let read = digits_after-some 0 (digit ∷ []) n (omega arith) h in
    (read.0, (omega arith, λ zero. refl), read.1, read.2)
spelled_number-some (first ∷ second ∷ rest) n h =
    let test = other (first == 48) (digits_after 0 (first ∷ second ∷ rest)) n h in
    let read = digits_after-some 0 (first ∷ second ∷ rest) n (omega arith) test.1 in
    (read.0, (omega arith, λ zero. absurd (grind (arith, test.0, zero))), read.1, read.2)

-- what is read as a number is its decimal text
pub spelled_number-spelled : (text : List ℕ) (n : ℕ) → spelled_number text ≡ Some n → (text ≡ decimal n) × (n < 2 ^ 64)
spelled_number-spelled text n h =
    let read = spelled_number-some text n h in
    let low : digits_value 10 text < 2 ^ 64 = rw read.2 read.3 in
    let spelled = decimal-digits_value numerals text read.0 read.1.0 read.1.1 low in
    (sym spelled ∙ ap decimal read.2, read.3)

-- the decimal text of a number is in one form
decimal-shortest : (n : ℕ) → n < 2 ^ 64 → IsShortest (decimal n)
decimal-shortest n low =
    elim (cases_lt 0 n) [
      | inl above ↦ let first = first_decimal n above low in (decimal_nonempty n low, λ zero. absurd (omega arith))
      | inr none ↦
          let e : n ≡ 0 = omega arith in
          let text : decimal n ≡ 48 ∷ [] = ap decimal e ∙ decimal_digit 0 (omega arith) in
          rw text (omega arith, λ zero. refl)
    ]

-- the decimal text of a number is read as it
pub spelled_number-decimal : (n : ℕ) → n < 2 ^ 64 → spelled_number (decimal n) ≡ Some n
spelled_number-decimal n low =
    let value = digits_value-decimal numerals n low in
    spelled_number-digits (decimal n) (digits_decimal numerals n low) (decimal-shortest n low) (rw value low)
    ∙ ap Some value

-- no byte of a decimal text is but a digit 0 to 9
pub decimal-are_digits : (n : ℕ) → n < 2 ^ 64 → AreDigits (decimal n)
decimal-are_digits n low =
    let digits = digits_decimal numerals n low in
    All-from_get_or (λ byte. (48 ≤ byte) × (byte ≤ 57)) (decimal n) 0 (λ i h. digit_at (decimal n) i digits h)

-- it is 1 to 20 bytes
pub length-decimal-bounds : (n : ℕ) → n < 2 ^ 64 → (1 ≤ length (decimal n)) × (length (decimal n) ≤ 20)
length-decimal-bounds n low =
    let some = decimal_nonempty n low in
    (omega arith, length-decimal-le 20 n (omega arith) (omega arith) low)
