-- Sets of memory ranges under their numbers. Source: the Computational Programs Command Set 1.0 in outline; the
-- numbers are this project's own.
use Rattle.std.specs.Prelude.{ℕ, Bool, ◌==◌, nat_lt, not, List, ◌∷◌, ◌++◌, Option, filter, find, option_map, slice_get, unwrap_or}
use Rattle.std.specs.List.{list_any, range_with_len}
use Rattle.cp_base.specs.declared.limits.TheConstants.{MAX_SETS}
use Rattle.cp_base.specs.declared.lists.MemRange.{MemRange}

-- a set of memory ranges under its number
pub record RangeSet : Type 0 where
  pub number : ℕ
  pub ranges : List MemRange

-- the ranges of the set of a number, where there is one
abbrev pub ranges_under : List RangeSet → ℕ → Option (List MemRange)
ranges_under sets n = option_map (λ (set : RangeSet). set.ranges) (find (λ (set : RangeSet). set.number == n) sets)

-- whether a set has this number
abbrev pub is_taken : List RangeSet → ℕ → Bool
is_taken sets n = list_any (λ (set : RangeSet). set.number == n) sets

-- the numbers that no set has, from 1 to the most sets, the least first
abbrev pub free_numbers : List RangeSet → List ℕ
free_numbers sets = filter (λ n. not (is_taken sets n)) (range_with_len 1 MAX_SETS)

-- the number of the next new set: the least that no set has
abbrev pub next_number : List RangeSet → ℕ
next_number sets = unwrap_or (slice_get (free_numbers sets) 0) 0

-- the sets with one more, in order of their numbers
abbrev pub with_set : List RangeSet → RangeSet → List RangeSet
with_set sets new =
    filter (λ (set : RangeSet). nat_lt set.number new.number) sets
    ++ new ∷ filter (λ (set : RangeSet). nat_lt new.number set.number) sets

-- the sets without the one of a number
abbrev pub without_set : List RangeSet → ℕ → List RangeSet
without_set sets n = filter (λ (set : RangeSet). not (set.number == n)) sets
