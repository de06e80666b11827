-- The bytes of pieces. This project's own.
use Rattle.std.specs.Prelude.{ℕ, List, map}
use Rattle.cp_base.specs.declared.replies.Piece.{Piece}

-- the bytes of pieces, in their order
abbrev pub piece_bytes : List Piece → List (List ℕ)
piece_bytes pieces = map (λ (piece : Piece). piece.bytes.items) pieces
