-- What a read does to what a source has left. This project's own.
-- What is left is told as `Some` list of bytes; a source that does not tell it has `None`.
use Rattle.std.specs.Prelude.{◌≡◌, ℕ, ◌<◌, ◌≤◌, List, length, take, Option}
use Rattle.std.specs.Io.KnownBytes.{Consumes, IsAtEnd, Keeps}
use Rattle.cp_io.specs.Counting.{counted}
use Rattle.cp_io.specs.declared.source.Got.{Got}
use Rattle.cp_io.specs.declared.source.Got.TheVariants.{Count, End, Failed}

-- what happened to the bytes, by the answer of a read
abbrev pub ReadDid : Option (List ℕ) → Option (List ℕ) → Got → List ℕ → Type 0
ReadDid old new (Count n) into = (0 < n) × (n ≤ length into) × Consumes old new (take n into)
ReadDid old new End into = IsAtEnd old × IsAtEnd new × Keeps old new
ReadDid old new Failed into = Keeps old new

-- how many bytes an answer of a read gives
abbrev pub count_of : Got → ℕ
count_of (Count n) = n
count_of End = 0
count_of Failed = 0

-- A run of reads took these bytes from the front of what was left, and no others.
pub record Gave (left left' : Option (List ℕ)) (given given' : ℕ) (came : List ℕ) : Type 0 where
  pub bytes : Consumes left left' came
  pub count : given' ≡ counted given (length came)
