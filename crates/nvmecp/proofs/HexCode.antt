-- What is read from hex is bytes.
use Rattle.std.proofs.Common.{◌≡◌, ℕ, ◌-◌, Bool, true, false, List, [], ◌∷◌, length, take, drop, Some, None, if◌then◌else◌}
use Rattle.std.specs.Str.{bytes_eq}
use Rattle.cp_text.specs.HexText.{AreBytes, hex_of}
use Rattle.cp_text.proofs.HexTexts.{hex_of-spelled}
use Rattle.nvmecp.specs.Code.{code_in}

bytes_by : (ended : Bool) (digits code : List ℕ) → (if ended then hex_of digits else None) ≡ Some code → AreBytes code
bytes_by true digits code e = (hex_of-spelled digits code e).1
bytes_by false digits code e = absurd cc

pub code_bytes : (input code : List ℕ) → code_in input ≡ Some code → AreBytes code
code_bytes input code e = bytes_by (bytes_eq (drop (length input - 1) input) (10 ∷ [])) (take (length input - 1) input) code e
