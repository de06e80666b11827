-- Texts of signed numbers: a number, or a minus and a number that is not 0, and at most 64 bits.
-- The one text of a signed number z is `signed_decimal z`. This project's own.
use Rattle.std.specs.Prelude.{◌≡◌, ℕ, zero, suc, ◌≤◌, ◌⊎◌, All, ◌^◌, ◌==◌, nat_lt, List, [], ◌∷◌, ℤ, pos, negsuc, Option, Some, None, if◌then◌else◌}
use Rattle.cp_text.specs.Number.{spelled_number}

-- the signed number of a text without a minus: at most 9,223,372,036,854,775,807
abbrev pub plain : Option ℕ → Option ℤ
plain None = None
plain (Some n) = if nat_lt n (2 ^ 63) then Some (pos n) else None

-- the signed number of a text after its minus: not 0, and at least -9,223,372,036,854,775,808
abbrev pub negated : Option ℕ → Option ℤ
negated None = None
negated (Some zero) = None
negated (Some (suc n)) = if nat_lt n (2 ^ 63) then Some (negsuc n) else None

-- the signed number that a text spells; None where it spells none
abbrev pub signed_of : List ℕ → Option ℤ
signed_of [] = None
signed_of (first ∷ rest) =
    if first == 45 then negated (spelled_number rest) else plain (spelled_number (first ∷ rest))

-- a digit 0 to 9, or a minus
abbrev pub IsSignedDigit : ℕ → Type 0
IsSignedDigit byte = (byte ≡ 45) ⊎ ((48 ≤ byte) × (byte ≤ 57))

-- each is a digit or a minus
abbrev pub AreSignedDigits : List ℕ → Type 0
AreSignedDigits text = All IsSignedDigit text
