-- What is done to the parts of the core. This project's own.
use Rattle.std.specs.Prelude.{◌≡◌, ℕ, zero, suc, ◌+◌, ◌-◌, ◌*◌, ◌/◌, ◌%◌, ◌<◌, ◌==◌, not, List, [], ◌∷◌, ◌++◌, Option, None, Some, IsSome, count_by, sum}
use Rattle.std.specs.List.{common_prefix_len, list_any}
use Rattle.cp_base.specs.Region.{Region}
use Rattle.cp_base.specs.Runs.{runs_of}
use Rattle.cp_base.specs.Touching.{meets}
use Rattle.cp_base.specs.declared.limits.TheConstants.{MAX_NAMESPACE}
use Rattle.cp_base.specs.declared.region.SpaceId.TheVariants.{Mem}
use Rattle.cp_base.specs.declared.spans.Footprint.{Footprint}
use Rattle.device_model.specs.Builtin.{marks_of}
use Rattle.extents.specs.Homes.{Homes, known_at}
use Rattle.range_claims.specs.declared.claims.Claim.{Claim}
use Rattle.parts_bench.specs.declared.workload.Builtin.{Builtin}
use Rattle.parts_bench.specs.declared.workload.Builtin.TheVariants.{Count, Sum, Compare, Classes}
use Rattle.parts_bench.specs.declared.workload.Places.{Places}
use Rattle.parts_bench.specs.declared.workload.Places.TheVariants.{Anywhere, Aligned, Ascending, Lone}

-- so many loaded bytes of a program, each with a hole behind it
abbrev pub lone_bytes : ℕ → List (Option ℕ)
lone_bytes zero = []
lone_bytes (suc n) = Some 0x95 ∷ None ∷ lone_bytes n

-- so many ranges of 16 bytes of memory namespace 1, the first of them at a place and each next one 2,048 places further
abbrev pub strided : ℕ → ℕ → List Region
strided first zero = []
strided first (suc n) = strided first n ++ record { space = Mem 1; start = first + 2048 * n; len = 16 } ∷ []

-- what a command touches that reads so many ranges and writes so many
abbrev pub footprint_at : ℕ → ℕ → ℕ → Footprint
footprint_at first reads writes = record { reads = runs_of (strided (first + 32) reads); writes = runs_of (strided first writes); slot = None; set = None }

-- so many claims, under the keys from 0 on
abbrev pub claims_of : ℕ → ℕ → ℕ → List Claim
claims_of reads writes zero = []
claims_of reads writes (suc n) =
    claims_of reads writes n ++ record { key = n; footprint = footprint_at (64 * n) reads writes } ∷ []

-- so many commands, each of which writes so many ranges between those that claims write
abbrev pub footprints_between : ℕ → ℕ → List Footprint
footprints_between writes zero = []
footprints_between writes (suc n) = footprints_between writes n ++ footprint_at (64 * n + 32) 0 writes ∷ []

-- how many commands may begin beside claims: they meet none of them
abbrev pub free_among : List Claim → List Footprint → ℕ
free_among claims asked =
    count_by (λ (footprint : Footprint). not (list_any (λ (claim : Claim). meets footprint claim.footprint) claims)) asked

-- how many of so many commands that write so many ranges may begin beside as many claims of 16 ranges
unfoldable pub free_in : ℕ → ℕ → ℕ
free_in count writes = free_among (claims_of 0 16 count) (footprints_between writes count)

-- how many bytes a range has that is taken out
abbrev pub range_len : Places → ℕ
range_len Anywhere = 4096
range_len Aligned = 4096
range_len Ascending = 1024
range_len Lone = 1

-- where the range starts that a number selects
abbrev pub selected_start : Places → ℕ → ℕ
selected_start Anywhere number = number % (MAX_NAMESPACE - 4095)
selected_start Aligned number = number % (MAX_NAMESPACE / 4096) * 4096
selected_start Ascending number = number % (MAX_NAMESPACE / 1024) * 1024
selected_start Lone number = number % MAX_NAMESPACE

-- the range that a number selects
abbrev pub range_of : Places → ℕ → Region
range_of places number = record { space = Mem 1; start = selected_start places number; len = range_len places }

-- so many bytes of memory namespace 1 are at home
abbrev pub AreHome : Homes → ℕ → Type 0
AreHome homes size = (offset : ℕ) → offset < size → IsSome (known_at homes (Mem 1) offset)

-- what a program of the device gives on bytes, which a comparison compares with the same bytes
abbrev pub value_given : Builtin → List ℕ → ℕ
value_given Count bytes = count_by (λ byte. byte == 1) bytes
value_given Sum bytes = sum bytes
value_given Compare bytes = common_prefix_len (λ x y. x == y) bytes bytes
value_given Classes bytes = sum (marks_of 1 2 bytes)

-- the marks that it leaves
abbrev pub marks_left : Builtin → List ℕ → List ℕ → List ℕ
marks_left Count bytes marks = marks
marks_left Sum bytes marks = marks
marks_left Compare bytes marks = marks
marks_left Classes bytes marks = marks_of 1 2 bytes

-- a program of the device gives a value on bytes, and leaves the marks of a class
pub record GivesOn (program : Builtin) (bytes : List ℕ) (value : ℕ) (old new : List ℕ) : Type 0 where
  pub given : value ≡ value_given program bytes
  pub marks : new ≡ marks_left program bytes old
