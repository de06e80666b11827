-- How sets stand under their numbers: each number has a place, which may be free. This project's own.
use Rattle.std.specs.Prelude.{ℕ, ◌+◌, List, [], ◌∷◌, Option, Some, None}
use Rattle.cp_base.specs.Sets.{RangeSet}
use Rattle.cp_base.specs.declared.lists.MemRange.{MemRange}

-- the sets of places, of which the first has this number
abbrev pub sets_from : ℕ → List (Option (List MemRange)) → List RangeSet
sets_from n [] = []
sets_from n (None ∷ places) = sets_from (n + 1) places
sets_from n (Some ranges ∷ places) = record { number = n; ranges = ranges } ∷ sets_from (n + 1) places
