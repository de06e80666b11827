-- What contracts see of a range of bytes. This project's own.
use Rattle.std.specs.Prelude.{ℕ}
use Rattle.cp_base.specs.declared.region.SpaceId.{SpaceId}

-- len bytes of a namespace, from place start on
pub record Region : Type 0 where
  pub space : SpaceId
  pub start : ℕ
  pub len : ℕ

-- the region of a namespace from a place on
abbrev pub region_of : SpaceId → ℕ → ℕ → Region
region_of space start len = record { space = space; start = start; len = len }
