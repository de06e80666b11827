-- Extents that lie one after the other, each under the place where it begins. This project's own.
use Rattle.std.specs.Prelude.{◌≡◌, ℕ, not, ◌||◌, ◌+◌, ◌-◌, ◌<◌, ◌≤◌, ◌⊎◌, ⊤, List, [], ◌∷◌, ◌++◌, Option, Some, None, IsSome, length, map, replicate, slice_index_or}
use Rattle.std.specs.Map.{lookup}
use Rattle.std.specs.BTreeMap.{is_at}
use Rattle.std.specs.Ordering.{nat_cmp}
use Rattle.std.specs.List.{filter}
use Rattle.std.specs.BTreeMap.Range.{range_contains}
use Rattle.std.specs.declared.ops.Bound.TheVariants.{Excluded, Included}
use Rattle.cp_base.specs.Buffer.{Buffer}
use Rattle.cp_base.specs.Pieces.{patched, piece}
use Rattle.extents.specs.Homes.{has_hole, same_hole}
use Rattle.extents.specs.declared.tiles.Extent.{Extent}
use Rattle.extents.specs.declared.tiles.Extent.TheVariants.{Home, Out}

-- how many bytes an extent has
abbrev pub extent_len : Extent → ℕ
extent_len (Home bytes) = length bytes.items
extent_len (Out len) = len

-- the bytes of an extent, none where it is a hole
abbrev pub shown_by : Extent → List (Option ℕ)
shown_by (Home bytes) = map (λ byte. Some byte) bytes.items
shown_by (Out len) = replicate len None

-- the hole that an extent is, where it begins at a place
abbrev pub hole_at : ℕ → Extent → List (ℕ × ℕ)
hole_at start (Home bytes) = []
hole_at start (Out len) = (start, len) ∷ []

-- the bytes of extents, one after the other
abbrev pub all_shown : List (ℕ × Extent) → List (Option ℕ)
all_shown [] = []
all_shown (e ∷ es) = shown_by e.1 ++ all_shown es

-- the holes among extents
abbrev pub all_holes : List (ℕ × Extent) → List (ℕ × ℕ)
all_holes [] = []
all_holes (e ∷ es) = hole_at e.0 e.1 ++ all_holes es

-- each extent has a byte and begins where the one before it ends, the first at this place
abbrev pub AreTiles : ℕ → List (ℕ × Extent) → Type 0
AreTiles start [] = ⊤
AreTiles start (e ∷ es) = (e.0 ≡ start) × (0 < extent_len e.1) × AreTiles (start + extent_len e.1) es

-- an extent begins at a place
abbrev pub HasExtent : List (ℕ × Extent) → ℕ → Extent → Type 0
HasExtent es start extent = lookup (is_at (nat_cmp start)) es ≡ Some extent

-- an extent begins at a place, and has the byte of another place
pub record LiesAround (es : List (ℕ × Extent)) (start : ℕ) (extent : Extent) (at : ℕ) : Type 0 where
  pub entry : HasExtent es start extent
  pub low : start ≤ at
  pub high : at < start + extent_len extent

-- one extent ends at a place or the first begins there, and the next one begins there or the last ends there
pub record IsEdge (es : List (ℕ × Extent)) (at : ℕ) : Type 0 where
  pub before : List (ℕ × Extent)
  pub behind : List (ℕ × Extent)
  pub parts : es ≡ before ++ behind
  pub place : length (all_shown before) ≡ at

-- the byte at a place is at home
abbrev pub IsHomeByte : List (ℕ × Extent) → ℕ → Type 0
IsHomeByte es at = IsSome (slice_index_or (all_shown es) at None)

-- the bytes between two places are at home
abbrev pub AreHomeBytes : List (ℕ × Extent) → ℕ → ℕ → Type 0
AreHomeBytes es from to = (at : ℕ) → from ≤ at → at < to → IsHomeByte es at

-- the byte at a place or the one before it is at home, so that no hole lies around both
abbrev pub IsBesideHome : List (ℕ × Extent) → ℕ → Type 0
IsBesideHome es at = ((0 < at) × IsHomeByte es (at - 1)) ⊎ IsHomeByte es at

-- the extents are others, but lie one after the other and show the same bytes and holes
pub record IsRecut (old new : List (ℕ × Extent)) : Type 0 where
  pub tiles : AreTiles 0 new
  pub shown : all_shown new ≡ all_shown old
  pub holes : all_holes new ≡ all_holes old

-- the bytes between two places, all of them at home
abbrev pub AreBetween : List (ℕ × Extent) → ℕ → ℕ → List ℕ → Type 0
AreBetween es from to bytes = map (λ byte. Some byte) bytes ≡ piece (all_shown es) from (to - from)

-- the extents but those that begin between two places
abbrev pub without_between : ℕ → ℕ → List (ℕ × Extent) → List (ℕ × Extent)
without_between from to es = filter (λ e. not (range_contains nat_cmp (Included from) (Excluded to) e.0)) es

-- one extent has the bytes between two places, at home
pub record IsOneExtent (es : List (ℕ × Extent)) (from to : ℕ) : Type 0 where
  pub bytes : Buffer
  pub entry : HasExtent es from (Home bytes)
  pub long : length bytes.items ≡ to - from

-- the bytes between two places are at home, and where there are any extents begin or end at both
pub record IsRun (es : List (ℕ × Extent)) (from to : ℕ) : Type 0 where
  pub order : from ≤ to
  pub home : AreHomeBytes es from to
  pub edges : from < to → IsEdge es from × IsEdge es to

-- the bytes between two places became a hole, and all else shows as before
pub record IsTakenOut (old new : List (ℕ × Extent)) (from to : ℕ) : Type 0 where
  pub tiles : AreTiles 0 new
  pub size : length (all_shown new) ≡ length (all_shown old)
  pub shown : all_shown new ≡ patched (all_shown old) from (replicate (to - from) None)
  pub holes : (start len : ℕ)
      → has_hole (all_holes new) start len
      ≡ (same_hole from (to - from) start len || has_hole (all_holes old) start len)
