-- What a write does to what a sink holds. This project's own.
-- What is held is told as `Some` list of bytes; a sink that does not tell it has `None`.
use Rattle.std.specs.Prelude.{ℕ, ◌<◌, ◌≤◌, List, length, take, Option}
use Rattle.std.specs.Io.KnownBytes.{Appends, Keeps}
use Rattle.cp_io.specs.declared.sink.Took.{Took}
use Rattle.cp_io.specs.declared.sink.Took.TheVariants.{Count, Failed}

-- what happened to the bytes, by the answer of a write
abbrev pub WriteDid : Option (List ℕ) → Option (List ℕ) → Took → List ℕ → Type 0
WriteDid old new (Count n) piece = (0 < n) × (n ≤ length piece) × Appends old new (take n piece)
WriteDid old new Failed piece = Keeps old new

-- A front of the text, and not all of it, was appended.
pub record AppendsFront (old new : Option (List ℕ)) (text : List ℕ) : Type 0 where
  pub count : ℕ
  pub short : count < length text
  pub appended : Appends old new (take count text)
