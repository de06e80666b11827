-- Bytes of which some are not there. This project's own.
use Rattle.std.specs.Prelude.{ℕ, Option}
use Rattle.cp_base.specs.declared.region.SpaceId.{SpaceId}

-- the byte at each offset of each namespace, where it is there
abbrev pub Known : Type 0
Known = SpaceId → ℕ → Option ℕ
