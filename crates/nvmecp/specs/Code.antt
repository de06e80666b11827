-- Code of programs as the words read and write it. This project's own.
use Rattle.std.specs.Prelude.{ℕ, ◌-◌, List, [], ◌∷◌, ◌++◌, Option, None, if◌then◌else◌, length, take, drop}
use Rattle.std.specs.Str.{bytes_eq}
use Rattle.cp_text.specs.HexText.{hex_of, hex_text}

-- code in hex, with its newline
abbrev pub hex_line : List ℕ → List ℕ
hex_line code = hex_text code ++ 10 ∷ []

-- the bytes that an input is in hex, with one newline behind them
abbrev pub code_in : List ℕ → Option (List ℕ)
code_in input =
    if bytes_eq (drop (length input - 1) input) (10 ∷ []) then hex_of (take (length input - 1) input) else None
