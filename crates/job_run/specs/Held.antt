-- Which piece has bytes of a namespace. This project's own.
use Rattle.std.specs.Prelude.{◌≡◌, ℕ, ◌+◌, ◌≤◌, ◌<◌, ◌==◌, nat_le, Bool, ◌&&◌, ◌⊎◌, IsTrue, IsFalse, List, [], ◌∷◌, length}
use Rattle.cp_base.specs.Region.{Region}
use Rattle.cp_base.specs.Sharing.{AreDisjoint, same_space}
use Rattle.cp_base.specs.declared.limits.TheConstants.{MAX_NAMESPACE}
use Rattle.cp_base.specs.declared.region.SpaceId.{SpaceId}
use Rattle.trail_model.specs.Pieces.{AllBytes, RegionBytes, gathered}

-- whether a region has all bytes of another one
abbrev pub holds : Region → Region → Bool
holds region inner =
    same_space region.space inner.space && (nat_le region.start inner.start && nat_le (inner.start + inner.len) (region.start + region.len))

-- a region lies in one piece, which has its bytes, and no piece before that has a byte of it
abbrev pub IsHeld : List RegionBytes → Region → Type 0
IsHeld [] region = ⊥
IsHeld (piece ∷ pieces) region =
    (IsTrue (holds piece.region region) × (length piece.bytes ≡ piece.region.len))
    ⊎ (IsFalse (holds piece.region region) × AreDisjoint piece.region region × IsHeld pieces region)

-- a source of a copy lies in one piece, and no number of it is too large
abbrev pub IsSource : List RegionBytes → Region → Type 0
IsSource pieces region = IsHeld pieces region × (region.start + region.len ≤ MAX_NAMESPACE)

-- the bytes of a region
abbrev pub gathered_region : AllBytes → Region → List ℕ
gathered_region all region = gathered all region.space region.start region.len

-- whether a region begins at a place
abbrev pub begins : SpaceId → ℕ → Region → Bool
begins space start region = same_space region.space space && region.start == start

-- no region begins at a place
abbrev pub BeginsNowhere : SpaceId → ℕ → List Region → Type 0
BeginsNowhere space start [] = Unit {0}
BeginsNowhere space start (region ∷ regions) = IsFalse (begins space start region) × BeginsNowhere space start regions

-- exactly one region begins at a place
abbrev pub BeginsOnce : SpaceId → ℕ → List Region → Type 0
BeginsOnce space start [] = ⊥
BeginsOnce space start (region ∷ regions) =
    (IsTrue (begins space start region) × BeginsNowhere space start regions) ⊎ (IsFalse (begins space start region) × BeginsOnce space start regions)

-- exactly one region begins where this one does, and it is this one
abbrev pub IsAlone : Region → List Region → Type 0
IsAlone region [] = ⊥
IsAlone region (other ∷ others) =
    ((other ≡ region) × BeginsNowhere region.space region.start others) ⊎ (IsFalse (begins region.space region.start other) × IsAlone region others)

-- a region has bytes, and none past the largest namespace
abbrev pub IsRange : Region → Type 0
IsRange region = (0 < region.len) × (region.start + region.len ≤ MAX_NAMESPACE)

-- a region has bytes, and shares none with another one
abbrev pub IsBeside : Region → Region → Type 0
IsBeside other region = AreDisjoint other region × (0 < region.len)
