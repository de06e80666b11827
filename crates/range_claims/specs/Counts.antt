-- How many of some ranges have a byte. This project's own.
use Rattle.std.specs.Prelude.{ℕ, ◌+◌, ◌*◌, ◌^◌, ◌≤◌, ◌<◌, ◌≡◌, nat_le, nat_lt, Bool, ◌&&◌, if◌then◌else◌, List, [], ◌∷◌, ◌++◌, map, length}
use Rattle.std.specs.List.{list_any}
use Rattle.cp_base.specs.Region.{Region}
use Rattle.cp_base.specs.declared.limits.TheConstants.{MAX_NAMESPACE, MAX_RUNS}
use Rattle.range_claims.specs.Places.{end_of, start_of}
use Rattle.range_claims.specs.Segments.{AreMaximal, Counted}
use Rattle.range_claims.specs.declared.segments.Segment.{Segment}

-- how often a segment counts a byte: as often as its ranges have it
abbrev pub held_at : Segment → ℕ → ℕ
held_at s place = if nat_le s.from place && nat_lt place s.to then s.count else 0

-- how often segments count a byte
abbrev pub count_at : List Segment → ℕ → ℕ
count_at [] place = 0
count_at (s ∷ segments) place = held_at s place + count_at segments place

-- every byte from one place up to another is counted
abbrev pub AreCounted : ℕ → ℕ → List Segment → Type 0
AreCounted from to segments = (x : ℕ) → from ≤ x → x < to → 0 < count_at segments x

-- a region as a segment that counts each of its bytes once
abbrev pub counted_once : Region → Segment
counted_once region = record { space = region.space; from = start_of region; to = end_of region; count = 1 }

-- how many of the regions have a byte
abbrev pub regions_at : List Region → ℕ → ℕ
regions_at regions place = count_at (map counted_once regions) place

-- whether one of the segments has a byte from one place on and before another
abbrev pub any_between : List Segment → ℕ → ℕ → Bool
any_between segments from to = list_any (λ (s : Segment). nat_lt s.from to && nat_lt from s.to) segments

-- a region has bytes, all of its namespace
pub record IsPlaced (region : Region) : Type 0 where
  pub some : 0 < region.len
  pub last : region.start + region.len ≤ MAX_NAMESPACE

abbrev pub ArePlaced : List Region → Type 0
ArePlaced [] = Unit {0}
ArePlaced (region ∷ regions) = IsPlaced region × ArePlaced regions

-- segments, as few as can be, that count each byte as often as regions have it
pub record IsCountOf (regions : List Region) (segments : List Segment) : Type 0 where
  pub counts : (x : ℕ) → count_at segments x ≡ regions_at regions x
  pub fewest : AreMaximal segments

-- there is room for the ranges of one more list
pub record HaveRoom (regions : List Region) (counted : Counted) : Type 0 where
  pub count : IsCountOf regions counted.segments
  pub room : 4 * (length regions + MAX_RUNS) < counted.room
  pub small : length regions + MAX_RUNS < 2 ^ 63

-- some regions and those of others are counted, and there is room to cut one
pub record CountWith (some others : List Region) (counted : Counted) : Type 0 where
  pub count : IsCountOf (some ++ others) counted.segments
  pub room : 2 * (length some + length others) + 2 ≤ counted.room
