-- What holds of every set of memory ranges. This project's own.
use Rattle.std.specs.Prelude.{◌≡◌, ℕ, ◌+◌, ◌≤◌, false, List, [], ◌∷◌, map}
use Rattle.std.specs.List.{AllByRecursion, list_any}
use Rattle.cp_base.specs.Checks.{Check, refuse, any_without_bytes}
use Rattle.cp_base.specs.Configuration.{Configuration}
use Rattle.cp_base.specs.Region.{Region}
use Rattle.cp_base.specs.Sets.{RangeSet}
use Rattle.cp_base.specs.Sharing.{range_region, is_nowhere, is_outside, any_overlap}
use Rattle.cp_base.specs.declared.limits.TheConstants.{MAX_SETS}
use Rattle.cp_base.specs.declared.lists.MemRange.{MemRange}
use Rattle.cp_base.specs.declared.replies.Status.TheVariants as status

-- where the ranges of a set lie, in bytes
abbrev pub regions_of : List MemRange → List Region
regions_of ranges = map range_region ranges

-- the checks of a new set that do not ask how many sets there are
abbrev pub range_checks : Configuration → List Region → List Check
range_checks c regions =
    refuse (list_any (is_nowhere c) regions) status.BadNamespace
    ∷ refuse (any_without_bytes regions) status.BadLength
    ∷ refuse (list_any (is_outside c) regions) status.OutOfRange
    ∷ refuse (any_overlap regions) status.RangeOverlap ∷ []

-- the ranges have namespaces and bytes, lie inside, and no two share a byte
pub record AreFit (c : Configuration) (ranges : List MemRange) : Type 0 where
  pub somewhere : list_any (is_nowhere c) (regions_of ranges) ≡ false
  pub with_bytes : any_without_bytes (regions_of ranges) ≡ false
  pub inside : list_any (is_outside c) (regions_of ranges) ≡ false
  pub apart : any_overlap (regions_of ranges) ≡ false

-- the ranges of every set are fit
abbrev pub AllFit : Configuration → List RangeSet → Type 0
AllFit c sets = AllByRecursion (λ (set : RangeSet). AreFit c set.ranges) sets

-- the numbers of the sets ascend from a number on, and none is above the most sets
abbrev pub NumbersAscendFrom : ℕ → List RangeSet → Type 0
NumbersAscendFrom n [] = Unit {0}
NumbersAscendFrom n (set ∷ sets) = (n ≤ set.number) × (set.number ≤ MAX_SETS) × NumbersAscendFrom (set.number + 1) sets
