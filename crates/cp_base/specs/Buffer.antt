-- What contracts see of a buffer of bytes.
use Rattle.std.specs.Prelude.{ℕ, List, map}

-- The bytes in order, and how many more find room without new memory.
pub record Buffer : Type 0 where
  pub items : List ℕ
  pub spare : ℕ

-- the lists of bytes that buffers hold
abbrev pub contents_of : List Buffer → List (List ℕ)
contents_of buffers = map (λ (buffer : Buffer). buffer.items) buffers
