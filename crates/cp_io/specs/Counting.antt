-- Counts of 64 bits that only go up. This project's own.
use Rattle.std.specs.Prelude.{ℕ, ◌+◌, ◌-◌, ◌^◌, ◌≤◌, min, max}

-- a count after n more; it stands still once it has reached 2^64 - 1
abbrev pub counted : ℕ → ℕ → ℕ
counted count n = max count (min (count + n) (2 ^ 64 - 1))

-- the count rose by one or more; one that stands at its greatest value is taken as risen
abbrev pub Rose : ℕ → ℕ → Type 0
Rose old new = counted old 1 ≤ new
