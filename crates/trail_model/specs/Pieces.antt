-- Parts of namespaces with their bytes, as a command carries them. This project's own.
use Rattle.std.specs.Prelude.{ℕ, zero, suc, ◌+◌, ◌-◌, nat_le, nat_lt, Bool, ◌&&◌, if◌then◌else◌, List, [], ◌∷◌, ◌++◌, map, slice_index}
use Rattle.std.specs.List.{list_any}
use Rattle.cp_base.specs.Contents.{Contents, bytes_of, bytes_in, put}
use Rattle.cp_base.specs.Region.{Region}
use Rattle.cp_base.specs.Sharing.{same_space}
use Rattle.cp_base.specs.declared.region.SpaceId.{SpaceId}

-- a region and its bytes
pub record RegionBytes : Type 0 where
  pub region : Region
  pub bytes : List ℕ

-- a byte for each namespace and each offset in it
abbrev pub AllBytes : Type 0
AllBytes = SpaceId → ℕ → ℕ

-- the bytes of all namespaces; 0 where there is none
abbrev pub all_bytes : Contents → AllBytes
all_bytes contents space offset = slice_index (bytes_of contents space) offset

-- so many bytes of a namespace, from an offset on
abbrev pub gathered : AllBytes → SpaceId → ℕ → ℕ → List ℕ
gathered all space start zero = []
gathered all space start (suc n) = all space start ∷ gathered all space (start + 1) n

-- the bytes of regions, one after the other
abbrev pub gathered_joined : AllBytes → List Region → List ℕ
gathered_joined all [] = []
gathered_joined all (region ∷ regions) =
    gathered all region.space region.start region.len ++ gathered_joined all regions

-- whether a byte of a namespace lies in a region
abbrev pub has_byte : Region → SpaceId → ℕ → Bool
has_byte region space offset =
    same_space region.space space && (nat_le region.start offset && nat_lt offset (region.start + region.len))

-- whether a byte of a namespace lies in one of the regions
abbrev pub any_has_byte : List Region → SpaceId → ℕ → Bool
any_has_byte regions space offset = list_any (λ (region : Region). has_byte region space offset) regions

-- the bytes of regions, cut out of the contents
abbrev pub pieces_of : Contents → List Region → List RegionBytes
pieces_of contents regions =
    map (λ (region : Region). record { region = region; bytes = bytes_in contents region }) regions

-- the contents with pieces put back, one after the other
abbrev pub put_pieces : Contents → List RegionBytes → Contents
put_pieces contents [] = contents
put_pieces contents (piece ∷ pieces) =
    put_pieces (put contents piece.region.space piece.region.start piece.bytes) pieces

-- the bytes of pieces, where these are all the bytes that there are: 0 outside them
abbrev pub carried : List RegionBytes → AllBytes
carried [] space offset = 0
carried (piece ∷ pieces) space offset =
    if has_byte piece.region space offset then slice_index piece.bytes (offset - piece.region.start) else carried pieces space offset
