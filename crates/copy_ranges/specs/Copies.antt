-- Copies in bytes. Source: the NVM and the Subsystem Local Memory Command Set 1.0 in outline; that a copy reads
-- and writes namespaces of either kind is this project's own.
use Rattle.std.specs.Prelude.{ℕ, ◌*◌, List, Option, Some, None, map}
use Rattle.cp_base.specs.Checks.{Check, copy_checks, destination_of}
use Rattle.cp_base.specs.Configuration.{Configuration}
use Rattle.cp_base.specs.Region.{Region}
use Rattle.cp_base.specs.Sharing.{source_region}
use Rattle.cp_base.specs.declared.commands.Command.{Command}
use Rattle.cp_base.specs.declared.commands.Command.TheVariants.{NvmCopy, MemCopy}
use Rattle.cp_base.specs.declared.region.SpaceId.{SpaceId}
use Rattle.cp_base.specs.declared.region.SpaceId.TheVariants as space

-- the regions that a copy reads, where its bytes go, and of which unit their number has to be a multiple
pub record CopyRegions : Type 0 where
  pub sources : List Region
  pub space : SpaceId
  pub start : ℕ
  pub unit : ℕ

-- what a command copies; None where it is no copy
abbrev pub copy_of : Configuration → Command → Option CopyRegions
copy_of c (NvmCopy ns lba from) =
    Some (record { sources = map (source_region c) from; space = space.Nvm ns; start = lba * c.block; unit = c.block })
copy_of c (MemCopy ns at from) =
    Some (record { sources = map (source_region c) from; space = space.Mem ns; start = at; unit = 1 })
copy_of c _ = None

-- the checks of a copy, in their order
abbrev pub checks_of_copy : Configuration → CopyRegions → List Check
checks_of_copy c copy = copy_checks c copy.space copy.start copy.unit copy.sources

-- where the bytes of a copy go
abbrev pub destination : CopyRegions → Region
destination copy = destination_of copy.space copy.start copy.sources
