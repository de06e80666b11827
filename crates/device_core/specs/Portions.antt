-- The ranges whose bytes a command carries, in order, of which it may write some. This project's own.
use Rattle.std.specs.Prelude.{◌≡◌, ℕ, zero, suc, ◌<◌, nat_lt, Bool, true, false, ◌&&◌, ◌||◌, if◌then◌else◌, List, [], ◌∷◌, map, None}
use Rattle.cp_base.specs.Buffer.{Buffer}
use Rattle.cp_base.specs.Region.{Region}
use Rattle.cp_base.specs.Runs.{space_before}
use Rattle.cp_base.specs.Sharing.{range_region, same_space}
use Rattle.cp_base.specs.declared.lists.MemRange.{MemRange}
use Rattle.cp_base.specs.declared.region.SpaceId.{SpaceId}
use Rattle.cp_base.specs.declared.replies.Piece.{Piece}
use Rattle.bpf_model.specs.Memory.{allows_writing}
use Rattle.trail_model.specs.Pieces.{any_has_byte}
use Rattle.core_model.specs.Ties.{is_one_of}
use Rattle.extents.specs.Homes.{AreBytesAt, Homes, IsAtHome, is_hole, known_at}
use Rattle.job_run.specs.Held.{IsRange}
use Rattle.device_core.specs.declared.portions.Portion.{Portion}

-- where portions lie
abbrev pub portion_ranges : List Portion → List Region
portion_ranges portions = map (λ (x : Portion). x.range) portions

-- where the portions lie that may be written
abbrev pub written_ranges : List Portion → List Region
written_ranges [] = []
written_ranges (x ∷ portions) = if x.written then x.range ∷ written_ranges portions else written_ranges portions

-- a range of a set
abbrev pub set_portion : MemRange → Portion
set_portion range = record { range = range_region range; written = allows_writing range.access }

-- a range that is only read
abbrev pub read_portion : Region → Portion
read_portion range = record { range = range; written = false }

-- a range that may be written
abbrev pub written_portion : Region → Portion
written_portion range = record { range = range; written = true }

-- whether a region comes before another one, by namespaces and first bytes
abbrev pub comes_before : Region → Region → Bool
comes_before region other =
    space_before region.space other.space || (same_space region.space other.space && nat_lt region.start other.start)

-- portions with one more, in that order
abbrev pub with_portion : Portion → List Portion → List Portion
with_portion x [] = x ∷ []
with_portion x (y ∷ portions) = if comes_before x.range y.range then x ∷ y ∷ portions else y ∷ with_portion x portions

-- the runs that may be written and those that are only read, in one order
abbrev pub run_portions : List Region → List Region → List Portion
run_portions [] reads = map read_portion reads
run_portions (write ∷ writes) reads = with_portion (written_portion write) (run_portions writes reads)

-- ---- what is fetched

-- the bytes of these regions are out, and all else is as before
pub record AreTaken (old new : Homes) (regions : List Region) : Type 0 where
  pub known : (space : SpaceId) (offset : ℕ)
      → known_at new space offset ≡ (if any_has_byte regions space offset then None else known_at old space offset)
  pub holes : (region : Region) → is_hole new region ≡ (is_one_of regions region || is_hole old region)

-- a region can be taken out: it has bytes, all of them are at home, and it is not out itself
pub record CanBeTaken (homes : Homes) (region : Region) : Type 0 where
  pub some : 0 < region.len
  pub home : IsAtHome homes region
  pub whole : is_hole homes region ≡ false

-- a portion that is only read has its bytes
abbrev pub IsReadIf : Bool → Homes → Portion → Piece → Type 0
IsReadIf true homes x piece = Unit {0}
IsReadIf false homes x piece = AreBytesAt homes x.range piece.bytes.items

-- a piece lies where a portion does, which is a range of bytes; where the portion is only read, the piece has its bytes
pub record IsCopied (homes : Homes) (x : Portion) (piece : Piece) : Type 0 where
  pub place : piece.range ≡ x.range
  pub range : IsRange piece.range
  pub read : IsReadIf x.written homes x piece

-- the same of pieces
abbrev pub AreCopied : Homes → List Portion → List Piece → Type 0
AreCopied homes [] [] = Unit {0}
AreCopied homes (x ∷ portions) (piece ∷ pieces) = IsCopied homes x piece × AreCopied homes portions pieces
AreCopied homes [] (piece ∷ pieces) = ⊥
AreCopied homes (x ∷ portions) [] = ⊥

-- a piece where the portion may be written has its bytes now; any other one is as it was
abbrev pub IsFilledIf : Bool → Homes → Portion → Piece → Piece → Type 0
IsFilledIf true homes x old new = (new.range ≡ old.range) × AreBytesAt homes x.range new.bytes.items
IsFilledIf false homes x old new = new ≡ old

-- the same of pieces
abbrev pub AreFilled : Homes → List Portion → List Piece → List Piece → Type 0
AreFilled homes [] old new = (old ≡ []) × (new ≡ [])
AreFilled homes (x ∷ portions) [] new = ⊥
AreFilled homes (x ∷ portions) (p ∷ old) [] = ⊥
AreFilled homes (x ∷ portions) (p ∷ old) (q ∷ new) = IsFilledIf x.written homes x p q × AreFilled homes portions old new

-- pieces with the bytes of one changed
abbrev pub filled_at : List Piece → ℕ → Buffer → List Piece
filled_at [] index bytes = []
filled_at (piece ∷ pieces) zero bytes = record { range = piece.range; bytes = bytes } ∷ pieces
filled_at (piece ∷ pieces) (suc index) bytes = piece ∷ filled_at pieces index bytes

-- a piece is a range of bytes, and has those of a region
pub record IsCutAt (homes : Homes) (r : Region) (piece : Piece) : Type 0 where
  pub place : piece.range ≡ r
  pub range : IsRange piece.range
  pub bytes : AreBytesAt homes r piece.bytes.items

-- the same of pieces
abbrev pub AreCutAt : Homes → List Region → List Piece → Type 0
AreCutAt homes [] [] = Unit {0}
AreCutAt homes (r ∷ regions) (piece ∷ pieces) = IsCutAt homes r piece × AreCutAt homes regions pieces
AreCutAt homes [] (piece ∷ pieces) = ⊥
AreCutAt homes (r ∷ regions) [] = ⊥
