-- One number for each byte of each namespace, by which ranges are compared. This project's own.
use Rattle.std.specs.Prelude.{ℕ, ◌+◌, ◌*◌}
use Rattle.cp_base.specs.Region.{Region}
use Rattle.cp_base.specs.declared.region.SpaceId.{SpaceId}
use Rattle.cp_base.specs.declared.region.SpaceId.TheVariants.{Nvm, Mem}
use Rattle.range_claims.specs.declared.places.TheConstants.{STRIDE}

-- the number of the first byte of a namespace: the two kinds take turns
abbrev pub base_of : SpaceId → ℕ
base_of (Nvm n) = n * 2 * STRIDE
base_of (Mem n) = (n * 2 + 1) * STRIDE

-- the number of the first byte of a region
abbrev pub start_of : Region → ℕ
start_of region = base_of region.space + region.start

-- the number behind the last byte of a region
abbrev pub end_of : Region → ℕ
end_of region = base_of region.space + (region.start + region.len)
