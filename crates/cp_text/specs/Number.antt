-- Texts of numbers: digits without a leading zero, and at most 64 bits. The one text of a number n
-- is `decimal n`. This project's own.
use Rattle.std.specs.Prelude.{ℕ, ◌+◌, ◌-◌, ◌*◌, ◌^◌, ◌≤◌, ◌==◌, nat_lt, All, ◌&&◌, List, [], ◌∷◌, Option, Some, None, if◌then◌else◌}
use Rattle.std.specs.Char.{is_ascii_digit}

-- the value of digits with one digit more behind them
abbrev pub extended : ℕ → ℕ → ℕ
extended value digit = value * 10 + (digit - 48)

-- the value of digits with these bytes behind them, from the value of the digits alone; None where
-- one of the bytes is no digit, or the value needs more than 64 bits
abbrev pub digits_after : ℕ → List ℕ → Option ℕ
digits_after value [] = Some value
digits_after value (byte ∷ rest) =
    if is_ascii_digit byte && nat_lt (extended value byte) (2 ^ 64)
    then digits_after (extended value byte) rest
    else None

-- the number that a text spells; None where it spells none: it is empty, a byte is no digit, a zero
-- leads other digits, or the value is above 18,446,744,073,709,551,615
abbrev pub spelled_number : List ℕ → Option ℕ
spelled_number [] = None
spelled_number (digit ∷ []) = digits_after 0 (digit ∷ [])
spelled_number (first ∷ second ∷ rest) =
    if first == 48 then None else digits_after 0 (first ∷ second ∷ rest)

-- each is a digit 0 to 9
abbrev pub AreDigits : List ℕ → Type 0
AreDigits text = All (λ byte. (48 ≤ byte) × (byte ≤ 57)) text
