-- The bytes of namespaces of which some are taken out. This project's own.
use Rattle.std.specs.Prelude.{◌≡◌, ℕ, ◌+◌, ◌-◌, ◌*◌, ◌<◌, ◌≤◌, ◌==◌, Bool, not, ◌&&◌, ◌||◌, List, [], length, map, replicate, Option, None, Some, IsSome, slice_get, slice_index_or, unwrap_or}
use Rattle.std.specs.List.{list_any}
use Rattle.cp_base.specs.Configuration.{numbered}
use Rattle.cp_base.specs.Pieces.{patched}
use Rattle.cp_base.specs.Region.{Region}
use Rattle.cp_base.specs.Sharing.{IsIn, same_region}
use Rattle.cp_base.specs.declared.region.SpaceId.{SpaceId}
use Rattle.cp_base.specs.declared.region.SpaceId.TheVariants.{Nvm, Mem}

-- the bytes of a namespace, none where a byte is out, and the ranges that are out: where each starts, and its length
pub record SpaceHome : Type 0 where
  pub bytes : List (Option ℕ)
  pub holes : List (ℕ × ℕ)

-- each namespace in order of numbers from 1, without bytes where there is no such namespace
pub record Homes : Type 0 where
  pub nvm : List SpaceHome
  pub mem : List SpaceHome

-- what is at home under a number; nothing where there is no such namespace
abbrev pub home_under : List SpaceHome → ℕ → SpaceHome
home_under spaces n = unwrap_or (numbered spaces n) (record { bytes = []; holes = [] })

-- what is at home in a namespace
abbrev pub home_of : Homes → SpaceId → SpaceHome
home_of homes (Nvm n) = home_under homes.nvm n
home_of homes (Mem n) = home_under homes.mem n

-- the byte at an offset of a namespace; None where it is out, and outside the namespace
abbrev pub known_at : Homes → SpaceId → ℕ → Option ℕ
known_at homes space offset = slice_index_or (home_of homes space).bytes offset None

-- whether two holes of a namespace are the same
abbrev pub same_hole : ℕ → ℕ → ℕ → ℕ → Bool
same_hole start len other_start other_len = (start == other_start) && (len == other_len)

-- whether these bytes of a namespace were taken out together
abbrev pub has_hole : List (ℕ × ℕ) → ℕ → ℕ → Bool
has_hole holes start len = list_any (λ (hole : ℕ × ℕ). same_hole hole.0 hole.1 start len) holes

-- whether a region is one of those that are out
abbrev pub is_hole : Homes → Region → Bool
is_hole homes region = has_hole (home_of homes region.space).holes region.start region.len

-- the bytes of a namespace between two places became a hole
pub record IsSpaceTaken (old new : SpaceHome) (from to : ℕ) : Type 0 where
  pub bytes : new.bytes ≡ patched old.bytes from (replicate (to - from) None)
  pub holes : (start len : ℕ)
      → has_hole new.holes start len ≡ (same_hole from (to - from) start len || has_hole old.holes start len)

-- bytes filled a hole of a namespace
pub record IsSpacePut (old new : SpaceHome) (from : ℕ) (filling : List ℕ) : Type 0 where
  pub fits : from + length filling ≤ length old.bytes
  pub bytes : new.bytes ≡ patched old.bytes from (map (λ byte. Some byte) filling)
  pub holes : (start len : ℕ)
      → has_hole new.holes start len ≡ (has_hole old.holes start len && not (same_hole from (length filling) start len))

-- the bytes of a namespace between two places are at home
abbrev pub AreHere : SpaceHome → ℕ → ℕ → Type 0
AreHere home from to = (at : ℕ) → from ≤ at → at < to → IsSome (slice_index_or home.bytes at None)

-- every byte of a region is at home
abbrev pub IsAtHome : Homes → Region → Type 0
IsAtHome homes region = (space : SpaceId) (offset : ℕ) → IsIn region space offset → IsSome (known_at homes space offset)

-- these are the bytes of a region, each of them at home
pub record AreBytesAt (homes : Homes) (region : Region) (bytes : List ℕ) : Type 0 where
  pub length : length bytes ≡ region.len
  pub each : (k : ℕ) → k < region.len → slice_get bytes k ≡ known_at homes region.space (region.start + k)

-- so many zeros for each of the sizes, which are in these units
abbrev pub zero_spaces : ℕ → List ℕ → List SpaceHome
zero_spaces unit sizes = map (λ size. record { bytes = replicate (size * unit) (Some 0); holes = [] }) sizes

-- the bytes of a region are out, the region is one more of those that are out, and all else is as before
pub record IsTakenAway (old new : Homes) (region : Region) : Type 0 where
  pub out : (space : SpaceId) (offset : ℕ) → IsIn region space offset → known_at new space offset ≡ None
  pub elsewhere : (space : SpaceId) (offset : ℕ) → (IsIn region space offset → ⊥)
      → known_at new space offset ≡ known_at old space offset
  pub holes : (other : Region) → is_hole new other ≡ (same_region region other || is_hole old other)

-- the bytes are those of a region, which is no longer out, and all else is as before
pub record IsBroughtBack (old new : Homes) (region : Region) (bytes : List ℕ) : Type 0 where
  pub back : (k : ℕ) → k < region.len → known_at new region.space (region.start + k) ≡ slice_get bytes k
  pub elsewhere : (space : SpaceId) (offset : ℕ) → (IsIn region space offset → ⊥)
      → known_at new space offset ≡ known_at old space offset
  pub holes : (other : Region) → is_hole new other ≡ (is_hole old other && not (same_region region other))
