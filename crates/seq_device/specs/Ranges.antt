-- The ranges of a set among the bytes of all namespaces. This project's own.
use Rattle.std.specs.Prelude.{◌≡◌, ℕ, ◌+◌, ◌<◌, ◌≤◌, false, if◌then◌else◌, List, [], ◌∷◌, All, map}
use Rattle.cp_base.specs.Contents.{Contents, IsInside, put}
use Rattle.cp_base.specs.Sharing.{any_overlap, range_region}
use Rattle.cp_base.specs.declared.limits.TheConstants.{MAX_NAMESPACE}
use Rattle.cp_base.specs.declared.lists.MemRange.{MemRange}
use Rattle.cp_base.specs.declared.region.SpaceId.TheVariants as space
use Rattle.bpf_model.specs.Memory.{allows_writing}

-- a range has bytes, all of them in its namespace
pub record IsAtHand (contents : Contents) (range : MemRange) : Type 0 where
  pub inside : IsInside contents (range_region range)
  pub some : 0 < range.len
  pub short : range.at + range.len ≤ MAX_NAMESPACE

-- each of the ranges has bytes, all of them in its namespace, and no two share one
pub record AreAtHand (contents : Contents) (ranges : List MemRange) : Type 0 where
  pub each : All (IsAtHand contents) ranges
  pub apart : any_overlap (map range_region ranges) ≡ false

-- the contents with other bytes of a range, where a program may store into it
abbrev pub with_window : Contents → MemRange → List ℕ → Contents
with_window contents range bytes =
    if allows_writing range.access then put contents (space.Mem range.ns) range.at bytes else contents

-- the contents with other bytes of each range into which a program may store
abbrev pub with_windows : Contents → List MemRange → List (List ℕ) → Contents
with_windows contents [] windows = contents
with_windows contents (range ∷ ranges) [] = contents
with_windows contents (range ∷ ranges) (bytes ∷ windows) =
    with_windows (with_window contents range bytes) ranges windows
