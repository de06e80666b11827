-- Checks of a command, in their order, over whole numbers: no sum or product wraps. Source: the NVMe command sets
-- in outline; the checks, their order, the statuses and the limits are this project's own.
use Rattle.std.specs.Prelude.{ℕ, ◌+◌, ◌*◌, ◌%◌, ◌==◌, nat_lt, nat_le, Bool, not, ◌||◌, List, [], ◌∷◌, Option, Some, None, is_none, unwrap_or, sum_by, if◌then◌else◌}
use Rattle.std.specs.List.{list_any}
use Rattle.cp_base.specs.Configuration.{Configuration, numbered, size_of}
use Rattle.cp_base.specs.Region.{Region}
use Rattle.cp_base.specs.Sharing.{is_nowhere, is_outside, any_overlap, meets_any}
use Rattle.cp_base.specs.declared.limits.TheConstants.{MAX_SETS, MAX_SPAN}
use Rattle.cp_base.specs.declared.region.SpaceId.{SpaceId}
use Rattle.cp_base.specs.declared.region.SpaceId.TheVariants as space
use Rattle.cp_base.specs.declared.replies.Status.{Status}
use Rattle.cp_base.specs.declared.replies.Status.TheVariants as status

-- a check: whether it fails, and the status that it then gives
pub record Check : Type 0 where
  pub fails : Bool
  pub status : Status

-- the status of the first check that fails
abbrev pub first_failing : List Check → Option Status
first_failing [] = None
first_failing (check ∷ checks) = if check.fails then Some check.status else first_failing checks

-- a check that fails where the test is true
abbrev pub refuse : Bool → Status → Check
refuse test status = record { fails = test; status = status }

-- the checks of len bytes from place at on, in a namespace of that size if there is one, where a
-- command may move at most so many bytes
abbrev pub byte_checks : Option ℕ → ℕ → ℕ → ℕ → List Check
byte_checks size at len most =
    refuse (is_none size) status.BadNamespace
    ∷ refuse (len == 0) status.BadLength
    ∷ refuse (nat_lt most len) status.TooLong
    ∷ refuse (nat_lt (unwrap_or size 0) (at + len)) status.OutOfRange ∷ []

-- how many blocks an NVM namespace has; 0 where there is none
abbrev pub blocks_of : Configuration → ℕ → ℕ
blocks_of c ns = unwrap_or (numbered c.nvm ns) 0

-- the checks of count blocks from block lba on, of which a command may move at most so many bytes
abbrev pub block_checks : Configuration → ℕ → ℕ → ℕ → ℕ → List Check
block_checks c ns lba count most =
    refuse (is_none (size_of c (space.Nvm ns))) status.BadNamespace
    ∷ refuse (count == 0) status.BadLength
    ∷ refuse (nat_lt most (count * c.block)) status.TooLong
    ∷ refuse (nat_lt (blocks_of c ns) (lba + count)) status.OutOfRange ∷ []

-- the checks of a write of so many bytes from block lba on, of which a command may move at most so many
abbrev pub write_checks : Configuration → ℕ → ℕ → ℕ → ℕ → List Check
write_checks c ns lba len most =
    refuse (is_none (size_of c (space.Nvm ns))) status.BadNamespace
    ∷ refuse ((len == 0) || not (len % c.block == 0)) status.BadLength
    ∷ refuse (nat_lt most len) status.TooLong
    ∷ refuse (nat_lt (blocks_of c ns * c.block) (lba * c.block + len)) status.OutOfRange ∷ []

-- how many bytes regions have together, a byte of two regions counted twice
abbrev pub total_len : List Region → ℕ
total_len regions = sum_by (λ (region : Region). region.len) regions

-- whether one of the regions has no bytes
abbrev pub any_without_bytes : List Region → Bool
any_without_bytes regions = list_any (λ (region : Region). region.len == 0) regions

-- where the bytes of sources go, from a place on
abbrev pub destination_of : SpaceId → ℕ → List Region → Region
destination_of space start sources = record { space = space; start = start; len = total_len sources }

-- the checks of a copy of the sources to a place, where the total has to be a multiple of the unit
abbrev pub copy_checks : Configuration → SpaceId → ℕ → ℕ → List Region → List Check
copy_checks c space start unit sources =
    let destination : Region = destination_of space start sources in
    refuse (is_nowhere c destination || list_any (is_nowhere c) sources) status.BadNamespace
    ∷ refuse (any_without_bytes sources || not (total_len sources % unit == 0)) status.BadLength
    ∷ refuse (nat_lt MAX_SPAN (total_len sources)) status.TooLong
    ∷ refuse (list_any (is_outside c) sources || is_outside c destination) status.OutOfRange
    ∷ refuse (meets_any sources destination) status.CopyOverlap ∷ []

-- the checks of a new set of ranges that lie so, where there are so many sets
abbrev pub set_checks : Configuration → ℕ → List Region → List Check
set_checks c sets regions =
    refuse (list_any (is_nowhere c) regions) status.BadNamespace
    ∷ refuse (any_without_bytes regions) status.BadLength
    ∷ refuse (list_any (is_outside c) regions) status.OutOfRange
    ∷ refuse (any_overlap regions) status.RangeOverlap
    ∷ refuse (nat_le MAX_SETS sets) status.SetTableFull ∷ []
