-- The claims of the commands that are carried out. This project's own.
use Rattle.std.specs.Prelude.{ℕ, ◌+◌, ◌*◌, ◌^◌, ◌==◌, ◌≤◌, ◌<◌, Bool, false, if◌then◌else◌, List, [], ◌∷◌, ◌++◌, Option, None, Some, find, option_map, length}
use Rattle.std.specs.List.{list_any}
use Rattle.cp_base.specs.Region.{Region}
use Rattle.cp_base.specs.declared.limits.TheConstants.{MAX_RUNS}
use Rattle.cp_base.specs.declared.spans.Footprint.{Footprint}
use Rattle.range_claims.specs.Counts.{ArePlaced, IsCountOf}
use Rattle.range_claims.specs.Segments.{Counted}
use Rattle.range_claims.specs.declared.claims.Claim.{Claim}

-- the claims in order of adding, and how many find room
pub record KeptClaims : Type 0 where
  pub most : ℕ
  pub kept : List Claim

-- whether a claim of this key is kept
abbrev pub is_kept : List Claim → ℕ → Bool
is_kept claims key = list_any (λ (claim : Claim). claim.key == key) claims

-- what the first claim of a key touches and holds, where one is kept
abbrev pub footprint_under : List Claim → ℕ → Option Footprint
footprint_under claims key =
    option_map (λ (claim : Claim). claim.footprint) (find (λ (claim : Claim). claim.key == key) claims)

-- the claims without the first one of a key
abbrev pub without_key : ℕ → List Claim → List Claim
without_key key [] = []
without_key key (claim ∷ claims) = if claim.key == key then claims else claim ∷ without_key key claims

-- whether a number is held and is this one
abbrev pub is_held : ℕ → Option ℕ → Bool
is_held number None = false
is_held number (Some other) = other == number

-- the ranges that claims may write, and those that they read
abbrev pub all_writes : List Claim → List Region
all_writes [] = []
all_writes (claim ∷ claims) = claim.footprint.writes ++ all_writes claims

abbrev pub all_reads : List Claim → List Region
all_reads [] = []
all_reads (claim ∷ claims) = claim.footprint.reads ++ all_reads claims

-- the ranges of a list lie in namespaces, and are no more than a list holds
pub record IsFit (regions : List Region) : Type 0 where
  pub placed : ArePlaced regions
  pub few : length regions ≤ MAX_RUNS

abbrev pub ClaimsAreFit : List Claim → Type 0
ClaimsAreFit [] = Unit {0}
ClaimsAreFit (claim ∷ claims) = IsFit claim.footprint.writes × IsFit claim.footprint.reads × ClaimsAreFit claims

-- two lists of segments count what claims may write and what they read, with room for as many claims as are kept
pub record AreCountedBy (most : ℕ) (claims : List Claim) (writes reads : Counted) : Type 0 where
  pub within : length claims ≤ most
  pub bounded : most < 2 ^ 32
  pub fit : ClaimsAreFit claims
  pub written : IsCountOf (all_writes claims) writes.segments
  pub read : IsCountOf (all_reads claims) reads.segments
  pub writes_room : 80 * most < writes.room
  pub reads_room : 80 * most < reads.room
