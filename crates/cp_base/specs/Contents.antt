-- The bytes of the namespaces. Source: the NVM Command Set and the Subsystem Local Memory Command Set
-- 1.0 in outline; that all bytes are 0 at first is this project's own.
use Rattle.std.specs.Prelude.{ℕ, ◌+◌, ◌*◌, ◌≤◌, List, [], ◌∷◌, ◌++◌, length, map, replicate, unwrap_or}
use Rattle.cp_base.specs.Configuration.{Configuration, numbered, with_numbered}
use Rattle.cp_base.specs.Pieces.{piece, patched}
use Rattle.cp_base.specs.Region.{Region}
use Rattle.cp_base.specs.declared.region.SpaceId.{SpaceId}
use Rattle.cp_base.specs.declared.region.SpaceId.TheVariants.{Nvm, Mem}

-- the bytes of each namespace in order of numbers from 1, none where there is no such namespace
pub record Contents : Type 0 where
  pub nvm : List (List ℕ)
  pub mem : List (List ℕ)

-- so many zeros for each of the sizes, which are in these units
abbrev pub zeros : ℕ → List ℕ → List (List ℕ)
zeros unit sizes = map (λ size. replicate (size * unit) 0) sizes

-- the contents at the start: every byte is 0
abbrev pub all_zero : Configuration → Contents
all_zero c = record { nvm = zeros c.block c.nvm; mem = zeros 1 c.mem }

-- the bytes of a namespace
abbrev pub bytes_of : Contents → SpaceId → List ℕ
bytes_of contents (Nvm n) = unwrap_or (numbered contents.nvm n) []
bytes_of contents (Mem n) = unwrap_or (numbered contents.mem n) []

-- the contents with other bytes in a namespace
abbrev pub with_bytes : Contents → SpaceId → List ℕ → Contents
with_bytes contents (Nvm n) bytes = record contents { nvm = with_numbered contents.nvm n bytes }
with_bytes contents (Mem n) bytes = record contents { mem = with_numbered contents.mem n bytes }

-- whether the namespace has the bytes of the region
abbrev pub IsInside : Contents → Region → Type 0
IsInside contents region = region.start + region.len ≤ length (bytes_of contents region.space)

-- the bytes of a region
abbrev pub bytes_in : Contents → Region → List ℕ
bytes_in contents region = piece (bytes_of contents region.space) region.start region.len

-- the contents with these bytes in a namespace from place start on
abbrev pub put : Contents → SpaceId → ℕ → List ℕ → Contents
put contents space start bytes = with_bytes contents space (patched (bytes_of contents space) start bytes)

-- the bytes of regions, one after the other
abbrev pub joined : Contents → List Region → List ℕ
joined contents [] = []
joined contents (region ∷ regions) = bytes_in contents region ++ joined contents regions
