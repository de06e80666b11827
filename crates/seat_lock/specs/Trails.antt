-- Trails: lists of entries, each made by one party.
use Rattle.std.specs.Prelude.{◌≡◌, ℕ, ◌==◌, nat_lt, List, ◌++◌, filter, length, if◌then◌else◌}

module _ {E : Type 0} where
  -- the trail begins with what was seen of it
  abbrev pub BeginsWith : List E → List E → Type 0
  BeginsWith trail seen = (rest : List E) × (trail ≡ seen ++ rest)

  -- the entries of one party, in their order
  abbrev pub entries_by : (E → ℕ) → ℕ → List E → List E
  entries_by party number trail = filter (λ e. party e == number) trail

  -- what a party has seen is a beginning of the trail, and what it made is all that the trail has of it
  abbrev pub FitsTrail : (E → ℕ) → ℕ → List E → List E → List E → Type 0
  FitsTrail party number seen mine trail = BeginsWith trail seen × (entries_by party number trail ≡ mine)

  -- of two beginnings of one trail, the longer
  abbrev pub longer : List E → List E → List E
  longer xs ys = if nat_lt (length xs) (length ys) then ys else xs
