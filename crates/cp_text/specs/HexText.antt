-- Texts of bytes: two digits 0 to 9 and a to f for each byte, the high one first. This project's
-- own.
use Rattle.std.specs.Prelude.{ℕ, ◌+◌, ◌-◌, ◌*◌, ◌/◌, ◌%◌, ◌<◌, ◌≤◌, nat_le, ◌⊎◌, ◌&&◌, List, [], ◌∷◌, All, Option, Some, None, if◌then◌else◌}
use Rattle.std.specs.Char.{digit_char}

-- the value of a digit; None where the byte is none, as the letters A to F are
abbrev pub digit_of : ℕ → Option ℕ
digit_of byte =
    if nat_le 48 byte && nat_le byte 57 then Some (byte - 48)
    else if nat_le 97 byte && nat_le byte 102 then Some (byte - 87)
    else None

-- a byte of two digits, in front of bytes; None where one of the three is none
abbrev pub led_by : Option ℕ → Option ℕ → Option (List ℕ) → Option (List ℕ)
led_by None low rest = None
led_by (Some h) None rest = None
led_by (Some h) (Some l) None = None
led_by (Some h) (Some l) (Some bytes) = Some ((h * 16 + l) ∷ bytes)

-- the bytes that a text spells; None where it is no even number of digits
abbrev pub hex_of : List ℕ → Option (List ℕ)
hex_of [] = Some []
hex_of (digit ∷ []) = None
hex_of (high ∷ low ∷ rest) = led_by (digit_of high) (digit_of low) (hex_of rest)

-- the one text of bytes
abbrev pub hex_text : List ℕ → List ℕ
hex_text [] = []
hex_text (byte ∷ rest) = digit_char (byte / 16) ∷ digit_char (byte % 16) ∷ hex_text rest

-- each is a byte
abbrev pub AreBytes : List ℕ → Type 0
AreBytes items = All (λ item. item < 256) items

-- the digits 0 to 9 and a to f
abbrev pub IsHexDigit : ℕ → Type 0
IsHexDigit byte = ((48 ≤ byte) × (byte ≤ 57)) ⊎ ((97 ≤ byte) × (byte ≤ 102))

-- each is a digit of a hex text
abbrev pub AreHexDigits : List ℕ → Type 0
AreHexDigits text = All IsHexDigit text
