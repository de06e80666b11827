-- Where regions lie, and where two of them share a byte. This project's own.
use Rattle.std.specs.Prelude.{◌≡◌, ℕ, ◌+◌, ◌*◌, ◌==◌, ◌≤◌, ◌<◌, nat_lt, Bool, false, ◌&&◌, ◌||◌, List, [], ◌∷◌, Any, is_none, unwrap_or}
use Rattle.std.specs.List.{list_any}
use Rattle.cp_base.specs.Configuration.{Configuration, size_of}
use Rattle.cp_base.specs.Region.{Region}
use Rattle.cp_base.specs.declared.region.SpaceId.{SpaceId}
use Rattle.cp_base.specs.declared.region.SpaceId.TheVariants as space
use Rattle.cp_base.specs.declared.lists.CopySource.{CopySource}
use Rattle.cp_base.specs.declared.lists.CopySource.TheVariants as source
use Rattle.cp_base.specs.declared.lists.MemRange.{MemRange}

-- where a source of a copy lies, in bytes
abbrev pub source_region : Configuration → CopySource → Region
source_region c (source.Nvm ns lba count) =
    record { space = space.Nvm ns; start = lba * c.block; len = count * c.block }
source_region c (source.Mem ns at len) = record { space = space.Mem ns; start = at; len = len }

-- where a range of a set lies, in bytes
abbrev pub range_region : MemRange → Region
range_region range = record { space = space.Mem range.ns; start = range.at; len = range.len }

-- whether there is no such namespace
abbrev pub is_nowhere : Configuration → Region → Bool
is_nowhere c region = is_none (size_of c region.space)

-- whether a byte lies outside the namespace
abbrev pub is_outside : Configuration → Region → Bool
is_outside c region = nat_lt (unwrap_or (size_of c region.space) 0) (region.start + region.len)

-- whether two namespaces are the same
abbrev pub same_space : SpaceId → SpaceId → Bool
same_space (space.Nvm m) (space.Nvm n) = m == n
same_space (space.Mem m) (space.Mem n) = m == n
same_space (space.Nvm m) (space.Mem n) = false
same_space (space.Mem m) (space.Nvm n) = false

-- whether two regions are the same
abbrev pub same_region : Region → Region → Bool
same_region a b = same_space a.space b.space && ((a.start == b.start) && (a.len == b.len))

-- whether two regions have a byte in common
abbrev pub shares_byte : Region → Region → Bool
shares_byte a b =
    same_space a.space b.space
    && (nat_lt 0 a.len && (nat_lt 0 b.len && (nat_lt a.start (b.start + b.len) && nat_lt b.start (a.start + a.len))))

-- whether a region shares a byte with one of these
abbrev pub meets_any : List Region → Region → Bool
meets_any regions region = list_any (shares_byte region) regions

-- whether two of the regions have a byte in common
abbrev pub any_overlap : List Region → Bool
any_overlap [] = false
any_overlap (region ∷ regions) = meets_any regions region || any_overlap regions

-- a byte of a namespace lies in a region
abbrev pub IsIn : Region → SpaceId → ℕ → Type 0
IsIn region space offset = (region.space ≡ space) × (region.start ≤ offset) × (offset < region.start + region.len)

-- a byte lies in both regions
abbrev pub HaveCommonByte : Region → Region → Type 0
HaveCommonByte a b = (space : SpaceId) × (offset : ℕ) × IsIn a space offset × IsIn b space offset

-- no byte lies in both regions
abbrev pub AreDisjoint : Region → Region → Type 0
AreDisjoint a b = (space : SpaceId) (offset : ℕ) → IsIn a space offset → IsIn b space offset → ⊥

-- every byte of the other region lies in the region
abbrev pub Covers : Region → Region → Type 0
Covers region other = (space : SpaceId) (offset : ℕ) → IsIn other space offset → IsIn region space offset

-- a byte of a namespace lies in one of the regions
abbrev pub IsInAny : List Region → SpaceId → ℕ → Type 0
IsInAny regions space offset = Any (λ region. IsIn region space offset) regions
