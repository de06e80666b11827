-- Hex texts of bytes, both ways, and beside those of the crate `hex`.
use Rattle.std.proofs.Common.{◌≡◌, ℕ, zero, suc, ◌+◌, ◌*◌, ◌/◌, ◌%◌, ◌<◌, ◌==◌, Bool, true, false, ◌&&◌, inl, inr, List, [], ◌∷◌, ◌++◌, length, slice_index, take, drop, Option, Some, None, Result, Ok, Err, refl, sym, ap, ◌∙◌, arith}
use Rattle.std.specs.Prelude.{is_some}
use Rattle.std.specs.Char.{digit_char}
use Rattle.std.specs.List.{list_all}
use Rattle.std.proofs.lemmas.Bool.{and_cases, and_parts, cases_Bool, cases_eq, cases_lt, eqb-true}
use Rattle.std.proofs.lemmas.List.{append_assoc, take-append-drop}
use Rattle.std.proofs.lemmas.List.Elements.{All-cons, All-head, All-nil, All-tail}
use Rattle.hex.specs.Hex.{decode_of, decode_pairs, digit_or_error, encode_lower, encode_with, hex_digit_value, lower_digits, ◌>>=◌}
use Rattle.hex.specs.declared.error.FromHexError.{FromHexError}
use Rattle.hex.proofs.HexLemmas.{decode_of-even}
use Rattle.cp_text.specs.HexText.{AreBytes, AreHexDigits, IsHexDigit, digit_of, hex_of, hex_text, led_by}

-- ---- digits

-- what is read as a digit is the digit of its value, which is below 16
digit_of-some : (byte v : ℕ) → digit_of byte ≡ Some v → (byte ≡ digit_char v) × (v < 16)
digit_of-some byte v h = grind (arith)

-- the digit of a value below 16 is read as that value
digit_of-char : (v : ℕ) → v < 16 → digit_of (digit_char v) ≡ Some v
digit_of-char v low = grind (arith)

-- it is one of the digits of a hex text
digit_char-is_digit : (v : ℕ) → v < 16 → IsHexDigit (digit_char v)
digit_char-is_digit v low = grind (arith)

-- ---- both ways

-- where a byte in front of bytes is found
led_by-some : (high low : Option ℕ) (rest : Option (List ℕ)) (bytes : List ℕ) → led_by high low rest ≡ Some bytes
    → (h : ℕ) × (l : ℕ) × (others : List ℕ) × (high ≡ Some h) × (low ≡ Some l) × (rest ≡ Some others) × ((h * 16 + l) ∷ others ≡ bytes)
led_by-some None low rest bytes h = cc h
led_by-some (Some a) None rest bytes h = cc h
led_by-some (Some a) (Some b) None bytes h = cc h
led_by-some (Some a) (Some b) (Some others) bytes h = (a, b, others, refl, refl, refl, cc)

-- and what it is there
led_by-found : (high low : Option ℕ) (rest : Option (List ℕ)) (h l : ℕ) (others : List ℕ) → high ≡ Some h → low ≡ Some l
    → rest ≡ Some others → led_by high low rest ≡ Some ((h * 16 + l) ∷ others)
led_by-found high low rest h l others is_high is_low is_rest = rw (is_high, is_low, is_rest) refl

-- it is not found where one part is not
led_by-no_low : (high : Option ℕ) (rest : Option (List ℕ)) → led_by high None rest ≡ None
led_by-no_low None rest = refl
led_by-no_low (Some h) rest = refl

led_by-no_rest : (high low : Option ℕ) → led_by high low None ≡ None
led_by-no_rest None low = refl
led_by-no_rest (Some h) None = refl
led_by-no_rest (Some h) (Some l) = refl

-- what is read as bytes is their text
pub hex_of-spelled : (text bytes : List ℕ) → hex_of text ≡ Some bytes → (text ≡ hex_text bytes) × AreBytes bytes
hex_of-spelled [] bytes h =
    let none : [] ≡ bytes = cc in
    rw (← none) (refl, All-nil (λ (item : ℕ). item < 256))
hex_of-spelled (digit ∷ []) bytes h = cc h
hex_of-spelled (high ∷ low ∷ rest) bytes h =
    let found = led_by-some (digit_of high) (digit_of low) (hex_of rest) bytes h in
    let first = digit_of-some high found.0 found.3 in
    let second = digit_of-some low found.1 found.4 in
    let ih = hex_of-spelled rest found.2 found.5 in
    let byte : ℕ = found.0 * 16 + found.1 in
    let quotient : byte / 16 ≡ found.0 = omega (arith, first.1, second.1) in
    let remainder : byte % 16 ≡ found.1 = omega (arith, first.1, second.1) in
    let small : byte < 256 = omega (arith, first.1, second.1) in
    let is_high : high ≡ digit_char (byte / 16) = first.0 ∙ ap digit_char (sym quotient) in
    let is_low : low ≡ digit_char (byte % 16) = second.0 ∙ ap digit_char (sym remainder) in
    let spelled : (high ∷ low ∷ rest) ≡ hex_text (byte ∷ found.2) =
    ap (λ (d : ℕ). d ∷ low ∷ rest) is_high ∙ ap (λ (d : ℕ). digit_char (byte / 16) ∷ d ∷ rest) is_low
    ∙ ap (λ (others : List ℕ). digit_char (byte / 16) ∷ digit_char (byte % 16) ∷ others) ih.0 in
    (spelled ∙ ap hex_text found.6, rw (← found.6) (All-cons (λ (item : ℕ). item < 256) byte found.2 small ih.1))

-- the text of bytes is read as them
pub hex_of-text : (bytes : List ℕ) → AreBytes bytes → hex_of (hex_text bytes) ≡ Some bytes
hex_of-text [] h = refl
hex_of-text (byte ∷ rest) h =
    let small = All-head (λ (item : ℕ). item < 256) byte rest h in
    let high : byte / 16 < 16 = omega (arith, small) in
    let low : byte % 16 < 16 = omega (arith, small) in
    let whole : byte / 16 * 16 + byte % 16 ≡ byte = omega arith in
    led_by-found (digit_of (digit_char (byte / 16))) (digit_of (digit_char (byte % 16))) (hex_of (hex_text rest)) (byte / 16) (byte % 16) rest
    (digit_of-char (byte / 16) high) (digit_of-char (byte % 16) low) (hex_of-text rest (All-tail (λ (item : ℕ). item < 256) byte rest h))
    ∙ ap (λ (b : ℕ). Some (b ∷ rest)) whole

-- bytes of one text are the same
pub hex_text-one : (a b : List ℕ) → AreBytes a → AreBytes b → hex_text a ≡ hex_text b → a ≡ b
hex_text-one a b are_a are_b same =
    let read : Some a ≡ Some b = sym (hex_of-text a are_a) ∙ ap hex_of same ∙ hex_of-text b are_b in
    cc

-- a hex text has digits only
pub hex_text-are_digits : (bytes : List ℕ) → AreBytes bytes → AreHexDigits (hex_text bytes)
hex_text-are_digits [] h = All-nil IsHexDigit
hex_text-are_digits (byte ∷ rest) h =
    let small = All-head (λ (item : ℕ). item < 256) byte rest h in
    let high : byte / 16 < 16 = omega (arith, small) in
    let low : byte % 16 < 16 = omega (arith, small) in
    All-cons IsHexDigit (digit_char (byte / 16)) (digit_char (byte % 16) ∷ hex_text rest) (digit_char-is_digit (byte / 16) high)
    (All-cons IsHexDigit (digit_char (byte % 16)) (hex_text rest) (digit_char-is_digit (byte % 16) low)
    (hex_text-are_digits rest (All-tail (λ (item : ℕ). item < 256) byte rest h)))

-- two for each byte
pub hex_length : (bytes : List ℕ) → length (hex_text bytes) ≡ 2 * length bytes
hex_length [] = refl
hex_length (byte ∷ rest) = let ih = hex_length rest in omega (arith, ih)

-- the text of bytes after bytes
pub hex_text-append : (a b : List ℕ) → hex_text (a ++ b) ≡ hex_text a ++ hex_text b
hex_text-append [] b = refl
hex_text-append (byte ∷ rest) b =
    ap (λ (text : List ℕ). digit_char (byte / 16) ∷ digit_char (byte % 16) ∷ text) (hex_text-append rest b)

-- one more part of some bytes is written
pub hex_text-more : (old new rest whole : List ℕ) (n : ℕ) → new ≡ old ++ hex_text (take n rest) → old ++ hex_text rest ≡ whole
    → new ++ hex_text (drop n rest) ≡ whole
hex_text-more old new rest whole n written before =
    ap (λ (items : List ℕ). items ++ hex_text (drop n rest)) written
    ∙ append_assoc old (hex_text (take n rest)) (hex_text (drop n rest))
    ∙ ap (λ (text : List ℕ). old ++ text) (sym (hex_text-append (take n rest) (drop n rest)) ∙ ap hex_text (take-append-drop n rest))
    ∙ before

-- ---- beside the crate `hex`

-- the first n digits of the crate's table are those of a hex text
abbrev same_digits : ℕ → Bool
same_digits zero = true
same_digits (suc n) = (slice_index lower_digits n == digit_char n) && same_digits n

same_digits-at : (n v : ℕ) → same_digits n ≡ true → v < n → slice_index lower_digits v ≡ digit_char v
same_digits-at zero v h low = absurd (omega arith)
same_digits-at (suc n) v h low =
    let parts = and_parts (slice_index lower_digits n == digit_char n) (same_digits n) h in
    elim (cases_lt v n) [
      | inl below ↦ same_digits-at n v parts.1 below
      | inr top ↦
          let e : v ≡ n = omega arith in
          rw e (eqb-true (slice_index lower_digits n) (digit_char n) parts.0)
    ]

-- the crate writes the text of bytes
pub encode_lower-bytes : (bytes : List ℕ) → AreBytes bytes → encode_lower bytes ≡ hex_text bytes
unfolding encode_with
encode_lower-bytes [] h = refl
encode_lower-bytes (byte ∷ rest) h =
    let small = All-head (λ (item : ℕ). item < 256) byte rest h in
    let high = same_digits-at 16 (byte / 16) refl (omega (arith, small)) in
    let low = same_digits-at 16 (byte % 16) refl (omega (arith, small)) in
    let ih = encode_lower-bytes rest (All-tail (λ (item : ℕ). item < 256) byte rest h) in
    ap (λ (d : ℕ). d ∷ slice_index lower_digits (byte % 16) ∷ encode_with lower_digits rest) high
    ∙ ap (λ (d : ℕ). digit_char (byte / 16) ∷ d ∷ encode_with lower_digits rest) low
    ∙ ap (λ (text : List ℕ). digit_char (byte / 16) ∷ digit_char (byte % 16) ∷ text) ih

-- whether a byte is a digit of a hex text
abbrev pub is_digit : ℕ → Bool
is_digit byte = is_some (digit_of byte)

-- the crate reads these digits so too
same_value : (byte : ℕ) → is_digit byte ≡ true → hex_digit_value byte ≡ digit_of byte
same_value byte h = grind (arith)

-- an option that is not there, and one that is
no_value : (o : Option ℕ) → is_some o ≡ false → o ≡ None
no_value None h = refl
no_value (Some v) h = cc h

some_value : (o : Option ℕ) → is_some o ≡ true → (v : ℕ) × (o ≡ Some v)
some_value None h = cc h
some_value (Some v) h = (v, refl)

-- the value of a result, where there is one
abbrev ok_of : Result (List ℕ) FromHexError → Option (List ℕ)
ok_of (Ok bytes) = Some bytes
ok_of (Err e) = None

-- what the crate makes of two digits and a rest
pair-read : (oh ol : Option ℕ) (high low i : ℕ) (rest : Result (List ℕ) FromHexError)
    → led_by oh ol (ok_of rest)
    ≡ ok_of ((digit_or_error high i oh >>= (λ h. digit_or_error low (i + 1) ol >>= (λ l. Ok (h * 16 + l)))) >>= (λ byte. rest >>= (λ bytes. Ok (byte ∷ bytes))))
pair-read None ol high low i rest = refl
pair-read (Some h) None high low i rest = refl
pair-read (Some h) (Some l) high low i (Ok bytes) = refl
pair-read (Some h) (Some l) high low i (Err e) = refl

-- the crate reads a text of these digits as the bytes that it spells
decode_pairs-reads : (i : ℕ) (text : List ℕ) → list_all is_digit text ≡ true → hex_of text ≡ ok_of (decode_pairs i text)
unfolding decode_pairs
decode_pairs-reads i [] h = refl
decode_pairs-reads i (digit ∷ []) h = refl
decode_pairs-reads i (high ∷ low ∷ rest) h =
    let first = and_parts (is_digit high) (is_digit low && list_all is_digit rest) h in
    let second = and_parts (is_digit low) (list_all is_digit rest) first.1 in
    let ih = decode_pairs-reads (i + 2) rest second.1 in
    let a = sym (same_value high first.0) in
    let b = sym (same_value low second.0) in
    ap (λ (o : Option ℕ). led_by o (digit_of low) (hex_of rest)) a
    ∙ ap (λ (o : Option ℕ). led_by (hex_digit_value high) o (hex_of rest)) b
    ∙ ap (λ (o : Option (List ℕ)). led_by (hex_digit_value high) (hex_digit_value low) o) ih
    ∙ pair-read (hex_digit_value high) (hex_digit_value low) high low i (decode_pairs (i + 2) rest)

-- what the crate decodes of such a text is what it spells
pub hex_of-decoded : (text bytes : List ℕ) → length text % 2 ≡ 0 → list_all is_digit text ≡ true → decode_of text ≡ Ok bytes
    → hex_of text ≡ Some bytes
hex_of-decoded text bytes even digits h =
    decode_pairs-reads 0 text digits ∙ ap ok_of (sym (decode_of-even text even) ∙ h)

-- a text of odd length spells no bytes
pub hex_of-odd : (text : List ℕ) → length text % 2 ≡ 1 → hex_of text ≡ None
hex_of-odd [] h = absurd (omega arith)
hex_of-odd (digit ∷ []) h = refl
hex_of-odd (high ∷ low ∷ rest) h =
    ap (led_by (digit_of high) (digit_of low)) (hex_of-odd rest (omega arith)) ∙ led_by-no_rest (digit_of high) (digit_of low)

-- nor does one with another byte
pub hex_of-no_digit : (text : List ℕ) → list_all is_digit text ≡ false → hex_of text ≡ None
hex_of-no_digit [] h = cc h
hex_of-no_digit (digit ∷ []) h = refl
hex_of-no_digit (high ∷ low ∷ rest) h =
    elim (and_cases (is_digit high) (is_digit low && list_all is_digit rest) h) [
      | inl first ↦ ap (λ (o : Option ℕ). led_by o (digit_of low) (hex_of rest)) (no_value (digit_of high) first)
      | inr others ↦
          elim (and_cases (is_digit low) (list_all is_digit rest) others) [
            | inl second ↦
                ap (λ (o : Option ℕ). led_by (digit_of high) o (hex_of rest)) (no_value (digit_of low) second)
                ∙ led_by-no_low (digit_of high) (hex_of rest)
            | inr later ↦
                ap (led_by (digit_of high) (digit_of low)) (hex_of-no_digit rest later)
                ∙ led_by-no_rest (digit_of high) (digit_of low)
          ]
    ]

-- an even number of digits spells bytes
pub hex_of-digits : (text : List ℕ) → length text % 2 ≡ 0 → list_all is_digit text ≡ true → (bytes : List ℕ) × (hex_of text ≡ Some bytes)
hex_of-digits [] even h = ([], refl)
hex_of-digits (digit ∷ []) even h = absurd (omega arith)
hex_of-digits (high ∷ low ∷ rest) even h =
    let first = and_parts (is_digit high) (is_digit low && list_all is_digit rest) h in
    let second = and_parts (is_digit low) (list_all is_digit rest) first.1 in
    let a = some_value (digit_of high) first.0 in
    let b = some_value (digit_of low) second.0 in
    let others = hex_of-digits rest (omega arith) second.1 in
    ((a.0 * 16 + b.0) ∷ others.0, led_by-found (digit_of high) (digit_of low) (hex_of rest) a.0 b.0 others.0 a.1 b.1 others.1)

-- whether a text spells bytes, from these two tests
pub hex_of-tested : (text : List ℕ) → length text % 2 ≡ 0 → list_all is_digit text ≡ is_some (hex_of text)
hex_of-tested text even =
    elim (cases_Bool (list_all is_digit text)) [
      | inl all ↦ let found = hex_of-digits text even all in rw (all, found.1) refl
      | inr some ↦ let none = hex_of-no_digit text some in rw (some, none) refl
    ]

pub hex_of-odd_tested : (text : List ℕ) → length text % 2 ≡ 1 → false ≡ is_some (hex_of text)
hex_of-odd_tested text odd = let none = hex_of-odd text odd in rw none refl

-- a text that is no hex text
pub hex_of-none : (o : Option (List ℕ)) → is_some o ≡ false → None ≡ o
hex_of-none None h = refl
hex_of-none (Some bytes) h = cc h

-- a text that is one, which the crate decodes
pub hex_of-read : (text bytes : List ℕ) → is_some (hex_of text) ≡ true → decode_of text ≡ Ok bytes → Some bytes ≡ hex_of text
hex_of-read text bytes h decoded =
    elim (cases_eq (length text % 2) 1) [
      | inl odd ↦ cc (h, sym (hex_of-odd_tested text odd))
      | inr even ↦
          let z : length text % 2 ≡ 0 = omega arith in
          sym (hex_of-decoded text bytes z (hex_of-tested text z ∙ h) decoded)
    ]
