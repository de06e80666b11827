-- The runs of a set of bytes: its maximal regions, in order. This project's own.
use Rattle.std.specs.Prelude.{◌↔◌, ◌<◌, IsTrue, All, AllPairs, ℕ, ◌+◌, ◌-◌, nat_lt, Bool, true, false, ◌&&◌, ◌||◌, if◌then◌else◌, min, max, List, [], ◌∷◌}
use Rattle.cp_base.specs.Region.{Region}
use Rattle.cp_base.specs.Sharing.{IsInAny, same_space}
use Rattle.cp_base.specs.declared.region.SpaceId.{SpaceId}
use Rattle.cp_base.specs.declared.region.SpaceId.TheVariants.{Nvm, Mem}

-- the order of namespaces: NVM before memory, and each kind by its numbers
abbrev pub space_before : SpaceId → SpaceId → Bool
space_before (Nvm m) (Nvm n) = nat_lt m n
space_before (Mem m) (Mem n) = nat_lt m n
space_before (Nvm m) (Mem n) = true
space_before (Mem m) (Nvm n) = false

-- whether the first region lies before the second, and a byte or a change of namespace is between them
abbrev pub is_apart_before : Region → Region → Bool
is_apart_before a b = space_before a.space b.space || (same_space a.space b.space && nat_lt (a.start + a.len) b.start)

-- the least region that has the bytes of two regions of one namespace
abbrev pub hull : Region → Region → Region
hull a b =
    let start : ℕ = min a.start b.start in
    record { space = a.space; start = start; len = max (a.start + a.len) (b.start + b.len) - start }

-- runs with one more region, which grows together with those that it shares a byte with or touches
abbrev pub with_run : Region → List Region → List Region
with_run region [] = region ∷ []
with_run region (run ∷ runs) =
    if is_apart_before region run then region ∷ run ∷ runs
    else if is_apart_before run region then run ∷ with_run region runs
    else with_run (hull region run) runs

-- the runs of the bytes of regions: sorted by namespace and start, and no two of them touch
abbrev pub runs_of : List Region → List Region
runs_of [] = []
runs_of (region ∷ regions) = with_run region (runs_of regions)

-- the regions are the runs of the bytes of others: they have exactly these bytes, none is empty, and each
-- lies apart before all later ones
pub record AreRunsOf (runs regions : List Region) : Type 0 where
  pub bytes : (space : SpaceId) (offset : ℕ) → IsInAny runs space offset ↔ IsInAny regions space offset
  pub not_empty : All (λ run. 0 < run.len) runs
  pub apart : AllPairs (λ a b. IsTrue (is_apart_before a b)) runs
