-- Runs of regions.
use Rattle.std.proofs.Common.{◌≡◌, ℕ, ◌+◌, ◌-◌, ◌<◌, ◌≤◌, List, [], ◌∷◌, length, drop, length-drop, get_or, Bool, true, false, ◌&&◌, ◌||◌, nat_lt, min, if◌then◌else◌, All, arith, sym, refl, ◌∙◌, ap, subst, inl, inr, ⊎_elim, ◌⊎◌}
use Rattle.std.specs.Prelude.{AllPairs}
use Rattle.std.proofs.lemmas.Bool.Decides.{nat_tests}
use Rattle.std.proofs.lemmas.List.Elements.{All-cons, All-head, All-tail}
use Rattle.std.proofs.lemmas.List.Kept.{AllPairs-cons}
use Rattle.cp_base.specs.Region.{Region}
use Rattle.cp_base.specs.Runs.{hull, is_apart_before, runs_of, space_before, with_run}
use Rattle.cp_base.specs.Sharing.{same_space}
use Rattle.cp_base.specs.declared.region.SpaceId.{SpaceId}
use Rattle.cp_base.specs.declared.region.SpaceId.TheVariants.{Nvm, Mem}
use Rattle.cp_base.proofs.Sharing.{AllPairs-head, AllPairs-tail, both_false, same_space-itself, same_space-true}

-- what holds of both, where the test chooses them, holds of the chosen one
pub chosen : {A : Type 0} (P : A → Type 0) (b : Bool) (x y : A) → (b ≡ true → P x) → (b ≡ false → P y) → P (if b then x else y)
chosen P true x y p q = p refl
chosen P false x y p q = q refl

-- one more region makes at most one more run
pub length-with_run : (region : Region) (runs : List Region) → length (with_run region runs) ≤ length runs + 1
length-with_run region [] = omega arith
length-with_run region (run ∷ runs) =
    let P : List Region → Type 0 = λ made. length made ≤ length (run ∷ runs) + 1 in
    let behind = length-with_run region runs in
    let grown = length-with_run (hull region run) runs in
    chosen P (is_apart_before region run) _ _ (λ _. omega arith)
    (λ _. chosen P (is_apart_before run region) _ _ (λ _. omega arith) (λ _. omega arith))

-- there are at most as many runs as regions
pub length-runs_of : (regions : List Region) → length (runs_of regions) ≤ length regions
length-runs_of [] = omega arith
length-runs_of (region ∷ regions) = omega (arith, length-runs_of regions, length-with_run region (runs_of regions))

-- there are at most as many runs of a part as there are regions in it
pub few_runs : (regions : List Region) (i : ℕ) → length (runs_of (drop i regions)) ≤ length regions - i
few_runs regions i = omega (arith, length-runs_of (drop i regions), length-drop i regions)

-- the order of namespaces
pub space_before-trans : (a b c : SpaceId) → space_before a b ≡ true → space_before b c ≡ true → space_before a c ≡ true
space_before-trans (Nvm l) (Nvm m) (Nvm n) g h = grind (arith, nat_tests)
space_before-trans (Mem l) (Mem m) (Mem n) g h = grind (arith, nat_tests)
space_before-trans (Nvm l) (Nvm m) (Mem n) g h = refl
space_before-trans (Nvm l) (Mem m) (Mem n) g h = refl
space_before-trans (Nvm l) (Mem m) (Nvm n) g h = cc
space_before-trans (Mem l) (Nvm m) (Nvm n) g h = cc
space_before-trans (Mem l) (Nvm m) (Mem n) g h = cc
space_before-trans (Mem l) (Mem m) (Nvm n) g h = cc

-- no namespace comes before itself
pub space_before-itself : (a b : SpaceId) → a ≡ b → space_before a b ≡ true → ⊥
space_before-itself (Nvm m) (Nvm n) e h = let f : m ≡ n = cc in grind (arith, nat_tests)
space_before-itself (Mem m) (Mem n) e h = let f : m ≡ n = cc in grind (arith, nat_tests)
space_before-itself (Nvm m) (Mem n) e h = cc
space_before-itself (Mem m) (Nvm n) e h = cc

-- of two namespaces, of which none comes before the other, both are the same
space_before-neither : (a b : SpaceId) → space_before a b ≡ false → space_before b a ≡ false → a ≡ b
space_before-neither (Nvm m) (Nvm n) g h = let e : m ≡ n = grind (arith, nat_tests) in ap Nvm e
space_before-neither (Mem m) (Mem n) g h = let e : m ≡ n = grind (arith, nat_tests) in ap Mem e
space_before-neither (Nvm m) (Mem n) g h = cc
space_before-neither (Mem m) (Nvm n) g h = cc

-- the first region lies apart before the second
abbrev pub IsApart : Region → Region → Type 0
IsApart a b = is_apart_before a b ≡ true

-- a namespace comes before another one, or in one namespace a region ends before a place
abbrev pub ComesBefore : SpaceId → ℕ → SpaceId → ℕ → Type 0
ComesBefore a end b start = (space_before a b ≡ true) ⊎ ((a ≡ b) × (end < start))

-- the parts of a test that is true
apart_parts : (s t u : Bool) → (s || (t && u)) ≡ true → (s ≡ true) ⊎ ((t ≡ true) × (u ≡ true))
apart_parts true t u h = inl refl
apart_parts false true true h = inr (refl, refl)
apart_parts false true false h = cc
apart_parts false false u h = cc

-- and the test of its parts
apart_test : (s t u : Bool) → (s ≡ true) ⊎ ((t ≡ true) × (u ≡ true)) → (s || (t && u)) ≡ true
apart_test true t u h = refl
apart_test false true true h = refl
apart_test false true false h = ⊎_elim (λ (p : false ≡ true). cc) (λ (q : (true ≡ true) × (false ≡ true)). cc (q.1)) h
apart_test false false u h = ⊎_elim (λ (p : false ≡ true). cc) (λ (q : (false ≡ true) × (u ≡ true)). cc (q.0)) h

-- regions that lie apart
pub IsApart-parts : (a b : Region) → IsApart a b → ComesBefore a.space (a.start + a.len) b.space b.start
IsApart-parts a b h =
    let Want : Type 0 = ComesBefore a.space (a.start + a.len) b.space b.start in
    ⊎_elim {C = Want} (λ (p : space_before a.space b.space ≡ true). inl p)
    (λ (q : (same_space a.space b.space ≡ true) × (nat_lt (a.start + a.len) b.start ≡ true)).
    let test = q.1 in let less : a.start + a.len < b.start = grind (arith, nat_tests) in inr (same_space-true a.space b.space q.0, less))
    (apart_parts (space_before a.space b.space) (same_space a.space b.space) (nat_lt (a.start + a.len) b.start) h)

pub IsApart-from_parts : (a b : Region) → ComesBefore a.space (a.start + a.len) b.space b.start → IsApart a b
IsApart-from_parts a b h =
    let Parts : Type 0 = (space_before a.space b.space ≡ true) ⊎ ((same_space a.space b.space ≡ true) × (nat_lt (a.start + a.len) b.start ≡ true)) in
    let parts : Parts = ⊎_elim {C = Parts} (λ (p : space_before a.space b.space ≡ true). inl p)
    (λ (q : (a.space ≡ b.space) × (a.start + a.len < b.start)).
    let less = q.1 in let test : nat_lt (a.start + a.len) b.start ≡ true = grind (arith, nat_tests) in inr (same_space-itself a.space b.space q.0, test)) h in
    apart_test (space_before a.space b.space) (same_space a.space b.space) (nat_lt (a.start + a.len) b.start) parts

-- what lies apart before a region lies apart before all from which that lies apart
pub IsApart-trans : (a b c : Region) → IsApart a b → IsApart b c → IsApart a c
IsApart-trans a b c g h =
    let Want : Type 0 = ComesBefore a.space (a.start + a.len) c.space c.start in
    IsApart-from_parts a c
    (⊎_elim {C = Want}
    (λ (p : space_before a.space b.space ≡ true). ⊎_elim {C = Want}
    (λ (q : space_before b.space c.space ≡ true). inl (space_before-trans a.space b.space c.space p q))
    (λ (q : (b.space ≡ c.space) × (b.start + b.len < c.start)). inl (subst (λ (s : SpaceId). space_before a.space s ≡ true) q.0 p))
    (IsApart-parts b c h))
    (λ (p : (a.space ≡ b.space) × (a.start + a.len < b.start)). ⊎_elim {C = Want}
    (λ (q : space_before b.space c.space ≡ true). inl (subst (λ (s : SpaceId). space_before s c.space ≡ true) (sym p.0) q))
    (λ (q : (b.space ≡ c.space) × (b.start + b.len < c.start)). inr (p.0 ∙ q.0, omega (arith, p.1, q.1)))
    (IsApart-parts b c h))
    (IsApart-parts a b g))

-- the second part of a test that is false
second_false : (s t : Bool) → s ≡ true → (s && t) ≡ false → t ≡ false
second_false true t e h = h
second_false false t e h = cc

-- of two regions, of which none lies apart before the other, each begins at the other's end at the latest
pub neither_apart : (a b : Region) → is_apart_before a b ≡ false → is_apart_before b a ≡ false → (a.space ≡ b.space) × (b.start ≤ a.start + a.len) × (a.start ≤ b.start + b.len)
neither_apart a b g h =
    let one = both_false (space_before a.space b.space) (same_space a.space b.space && nat_lt (a.start + a.len) b.start) g in
    let two = both_false (space_before b.space a.space) (same_space b.space a.space && nat_lt (b.start + b.len) a.start) h in
    let same : a.space ≡ b.space = space_before-neither a.space b.space one.0 two.0 in
    let first : nat_lt (a.start + a.len) b.start ≡ false = second_false _ _ (same_space-itself a.space b.space same) one.1 in
    let second : nat_lt (b.start + b.len) a.start ≡ false = second_false _ _ (same_space-itself b.space a.space (sym same)) two.1 in
    (same, grind (arith, nat_tests), grind (arith, nat_tests))

-- what lies apart before two regions lies apart before their hull
IsApart-hull : (x a b : Region) → a.space ≡ b.space → IsApart x a → IsApart x b → IsApart x (hull a b)
IsApart-hull x a b same g h =
    let Want : Type 0 = ComesBefore x.space (x.start + x.len) a.space (min a.start b.start) in
    IsApart-from_parts x (hull a b)
    (⊎_elim {C = Want}
    (λ (p : space_before x.space a.space ≡ true). inl p)
    (λ (p : (x.space ≡ a.space) × (x.start + x.len < a.start)). ⊎_elim {C = Want}
    (λ (q : space_before x.space b.space ≡ true). absurd (space_before-itself x.space b.space (p.0 ∙ same) q))
    (λ (q : (x.space ≡ b.space) × (x.start + x.len < b.start)). inr (p.0, omega (arith, p.1, q.1)))
    (IsApart-parts x b h))
    (IsApart-parts x a g))

-- what lies apart before a region and all runs lies apart before the runs with that region
first_with_run : (x region : Region) (runs : List Region) → IsApart x region → All (IsApart x) runs → All (IsApart x) (with_run region runs)
first_with_run x region [] g h = All-cons (IsApart x) region [] g h
first_with_run x region (run ∷ runs) g h =
    let head = All-head (IsApart x) run runs h in
    let tail = All-tail (IsApart x) run runs h in
    chosen (All (IsApart x)) (is_apart_before region run) (region ∷ run ∷ runs) _
    (λ _. All-cons (IsApart x) region (run ∷ runs) g h)
    (λ (n : is_apart_before region run ≡ false). chosen (All (IsApart x)) (is_apart_before run region) (run ∷ with_run region runs) _
    (λ _. All-cons (IsApart x) run (with_run region runs) head (first_with_run x region runs g tail))
    (λ (m : is_apart_before run region ≡ false). first_with_run x (hull region run) runs (IsApart-hull x region run (neither_apart region run n m).0 g head) tail))

-- runs with one more region lie apart
pub apart_with_run : (region : Region) (runs : List Region) → AllPairs IsApart runs → AllPairs IsApart (with_run region runs)
apart_with_run region [] h = AllPairs-cons IsApart region [] (λ k d below. absurd (omega arith)) h
apart_with_run region (run ∷ runs) h =
    let head = AllPairs-head IsApart run runs h in
    let tail = AllPairs-tail IsApart run runs h in
    chosen (AllPairs IsApart) (is_apart_before region run) (region ∷ run ∷ runs) _
    (λ (t : IsApart region run). AllPairs-cons IsApart region (run ∷ runs) (All-cons (IsApart region) run runs t (λ k d below. IsApart-trans region run (get_or runs k d) t (head k d below))) h)
    (λ _. chosen (AllPairs IsApart) (is_apart_before run region) (run ∷ with_run region runs) _
    (λ (t : IsApart run region). AllPairs-cons IsApart run (with_run region runs) (first_with_run run region runs t head) (apart_with_run region runs tail))
    (λ _. apart_with_run (hull region run) runs tail))

-- runs lie apart
pub apart_runs : (regions : List Region) → AllPairs IsApart (runs_of regions)
apart_runs [] = λ i j d before below. absurd (omega arith)
apart_runs (region ∷ regions) = apart_with_run region (runs_of regions) (apart_runs regions)

-- a region has bytes
abbrev pub HasBytes : Region → Type 0
HasBytes region = 0 < region.len

-- runs with one more region have bytes
pub bytes_with_run : (region : Region) (runs : List Region) → HasBytes region → All HasBytes runs → All HasBytes (with_run region runs)
bytes_with_run region [] g h = All-cons HasBytes region [] g h
bytes_with_run region (run ∷ runs) g h =
    let head = All-head HasBytes run runs h in
    let tail = All-tail HasBytes run runs h in
    chosen (All HasBytes) (is_apart_before region run) (region ∷ run ∷ runs) _
    (λ _. All-cons HasBytes region (run ∷ runs) g h)
    (λ _. chosen (All HasBytes) (is_apart_before run region) (run ∷ with_run region runs) _
    (λ _. All-cons HasBytes run (with_run region runs) head (bytes_with_run region runs g tail))
    (λ _. bytes_with_run (hull region run) runs (omega arith) tail))

-- the runs of regions with bytes have bytes
pub bytes_of_runs : (regions : List Region) → All HasBytes regions → All HasBytes (runs_of regions)
bytes_of_runs [] h = h
bytes_of_runs (region ∷ regions) h =
    bytes_with_run region (runs_of regions) (All-head HasBytes region regions h) (bytes_of_runs regions (All-tail HasBytes region regions h))
