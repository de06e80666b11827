-- Pieces of a program, each under the place of its first byte, in the order of these places. This project's own.
use Rattle.std.specs.Prelude.{ℕ, ◌+◌, ◌-◌, ◌<◌, ◌≤◌, List, [], ◌∷◌, ◌++◌, Option, Some, None, length, map, replicate}
use Rattle.cp_base.specs.Buffer.{Buffer}

-- the bytes from a place on of a program of this size, of which these pieces are loaded
abbrev pub spread : ℕ → ℕ → List (ℕ × Buffer) → List (Option ℕ)
spread from size [] = replicate (size - from) None
spread from size (piece ∷ pieces) =
    replicate (piece.0 - from) None
    ++ (map (λ byte. Some byte) piece.1.items ++ spread (piece.0 + length piece.1.items) size pieces)

-- each piece has a byte and lies behind the one before it, and all lie between a place and the end
abbrev pub AreSpread : ℕ → ℕ → List (ℕ × Buffer) → Type 0
AreSpread from size [] = from ≤ size
AreSpread from size (piece ∷ pieces) =
    (from ≤ piece.0) × (0 < length piece.1.items) × AreSpread (piece.0 + length piece.1.items) size pieces

-- how many bytes the pieces have
abbrev pub loaded_in : List (ℕ × Buffer) → ℕ
loaded_in [] = 0
loaded_in (piece ∷ pieces) = length piece.1.items + loaded_in pieces

-- the bytes of all pieces, one after the other
abbrev pub joined_bytes : List (ℕ × Buffer) → List ℕ
joined_bytes [] = []
joined_bytes (piece ∷ pieces) = piece.1.items ++ joined_bytes pieces
