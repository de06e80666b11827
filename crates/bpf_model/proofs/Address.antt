-- Addresses: an access lies where it is resolved to, and nowhere else.
use Rattle.std.proofs.Common.{◌≡◌, ◌≢◌, ℕ, zero, suc, ◌+◌, ◌-◌, ◌^◌, ◌<◌, ◌≤◌, Bool, true, false, List, [], ◌∷◌, Option, Some, None, length, refl, sym, ap, ◌∙◌, subst, arith}
use Rattle.std.specs.Prelude.{slice_get, slice_index_or, IsSomeAnd, if◌then◌else◌, All}
use Rattle.std.proofs.lemmas.Bool.{and_parts, and_from, and_left, and_right, leb-true, le-leb, lt-leb}
use Rattle.std.proofs.lemmas.Option.{same_Some, none-some}
use Rattle.bpf_model.specs.Address.{Location, InRange, InStack, Nowhere, range_start, stack_start, stack_len, lies_within, resolve_from, resolve, for_writing, resolve_to_write, LiesAt, IsForWriting}

-- the test of an access against a part of memory, both ways
within-parts : (start len a n : ℕ) → lies_within start len a n ≡ true → (start ≤ a) × (a + n ≤ start + len)
within-parts start len a n e =
    let both = and_parts _ _ e in (leb-true start a both.0, leb-true (a + n) (start + len) both.1)

within-from : (start len a n : ℕ) → start ≤ a → a + n ≤ start + len → lies_within start len a n ≡ true
within-from start len a n low high = and_from _ _ (le-leb start a low) (le-leb (a + n) (start + len) high)

before : (start len a n : ℕ) → a < start → lies_within start len a n ≡ false
before start len a n h = and_left _ _ (lt-leb start a h)

behind : (start len a n : ℕ) → start + len < a + n → lies_within start len a n ≡ false
behind start len a n h = and_right _ _ (lt-leb (a + n) (start + len) h)

-- an access lies where it is resolved to, where the ranges are the last ones of all
lies_from : (all : List ℕ) (i : ℕ) (lengths : List ℕ) (a n : ℕ) → ((k : ℕ) → slice_get lengths k ≡ slice_get all (i + k))
    → LiesAt all a n (resolve_from i lengths a n)
lies_from all i [] a n same = by_test (lies_within stack_start stack_len a n) refl
  where
    by_test : (b : Bool) → lies_within stack_start stack_len a n ≡ b → LiesAt all a n (if b then InStack (a - stack_start) else Nowhere)
    by_test false e = tt
    by_test true e = let bounds = within-parts stack_start stack_len a n e in (omega (arith, bounds), omega (arith, bounds))
lies_from all i (len ∷ lengths) a n same = by_test (lies_within (range_start i) len a n) refl
    (lies_from all (suc i) lengths a n (λ k. let next : i + suc k ≡ suc i + k = omega arith in subst (λ (j : ℕ). slice_get lengths k ≡ slice_get all j) next (same (suc k))))
  where
    by_test : (b : Bool) → lies_within (range_start i) len a n ≡ b → LiesAt all a n (resolve_from (suc i) lengths a n)
        → LiesAt all a n (if b then InRange i (a - range_start i) else resolve_from (suc i) lengths a n)
    by_test false e later = later
    by_test true e later =
        let bounds = within-parts (range_start i) len a n e in
        let here : i + 0 ≡ i = omega arith in
        let there : Some len ≡ slice_get all i = subst (λ (j : ℕ). Some len ≡ slice_get all j) here (same 0) in
        let P : Option ℕ → Type 0 = λ o. IsSomeAnd o (λ l. a - range_start i + n ≤ l) in
        let fits : a - range_start i + n ≤ len = omega (arith, bounds) in
        (omega (arith, bounds), subst P there fits)

pub lies_there : (lengths : List ℕ) (a n : ℕ) → LiesAt lengths a n (resolve lengths a n)
lies_there lengths a n = lies_from lengths 0 lengths a n (λ k. let same : k ≡ 0 + k = omega arith in ap (slice_get lengths) same)

-- an access that lies in a range is resolved to it
pub found_from : (i : ℕ) (lengths : List ℕ) (k j a r n len : ℕ) → All (λ l. l < 2 ^ 32) lengths → slice_get lengths k ≡ Some len → j ≡ i + k
    → range_start j + r ≡ a → r + n ≤ len → resolve_from i lengths a n ≡ InRange j r
found_from i [] k j a r n len short e at start fits = absurd (none-some len e)
found_from i (l ∷ lengths) zero j a r n len short e at start fits =
    let same = same_Some l len e in
    let here : j ≡ i = omega arith in
    let inside = within-from (range_start i) l a n (omega arith) (omega arith) in
    let offset : a - range_start i ≡ r = omega arith in
    ap (λ (b : Bool). if b then InRange i (a - range_start i) else resolve_from (suc i) lengths a n) inside
    ∙ ap (InRange i) offset ∙ ap (λ (m : ℕ). InRange m r) (sym here)
found_from i (l ∷ lengths) (suc k) j a r n len short e at start fits =
    let small : l < 2 ^ 32 = short 0 0 (omega arith) in
    let outside = behind (range_start i) l a n (omega arith) in
    ap (λ (b : Bool). if b then InRange i (a - range_start i) else resolve_from (suc i) lengths a n) outside
    ∙ found_from (suc i) lengths k j a r n len (λ m d h. short (suc m) d (omega arith)) e (omega arith) start fits

-- an access that begins behind each of the ranges is resolved as where there are none
not_among : (i : ℕ) (lengths : List ℕ) (a n : ℕ) → All (λ l. l < 2 ^ 32) lengths → range_start (i + length lengths) ≤ a
    → resolve_from i lengths a n ≡ resolve_from 0 [] a n
not_among i [] a n short e = refl
not_among i (l ∷ lengths) a n short e =
    let small : l < 2 ^ 32 = short 0 0 (omega arith) in
    let outside = behind (range_start i) l a n (omega arith) in
    ap (λ (b : Bool). if b then InRange i (a - range_start i) else resolve_from (suc i) lengths a n) outside
    ∙ not_among (suc i) lengths a n (λ m d h. short (suc m) d (omega arith)) (omega arith)

in_a_range : (lengths : List ℕ) (a n j r : ℕ) → All (λ l. l < 2 ^ 32) lengths → range_start j + r ≡ a
    → (o : Option ℕ) → slice_get lengths j ≡ o → IsSomeAnd o (λ len. r + n ≤ len) → resolve lengths a n ≡ InRange j r
in_a_range lengths a n j r short start None e fits = absurd fits
in_a_range lengths a n j r short start (Some len) e fits = found_from 0 lengths j j a r n len short e (omega arith) start fits

-- a place where the bytes of an access lie is the one that it is resolved to
pub found : (lengths : List ℕ) (a n : ℕ) (place : Location) → All (λ l. l < 2 ^ 32) lengths → length lengths ≤ 16 → place ≢ Nowhere
    → LiesAt lengths a n place → resolve lengths a n ≡ place
found lengths a n (InRange j r) short few some lies = in_a_range lengths a n j r short lies.0 (slice_get lengths j) refl lies.1
found lengths a n (InStack r) short few some lies =
    let start : stack_start + r ≡ a = lies.0 in
    let fits : r + n ≤ stack_len = lies.1 in
    let inside = within-from stack_start stack_len a n (omega arith) (omega arith) in
    let offset : a - stack_start ≡ r = omega arith in
    not_among 0 lengths a n short (omega arith)
    ∙ ap (λ (b : Bool). if b then InStack (a - stack_start) else Nowhere) inside ∙ ap InStack offset
found lengths a n Nowhere short few some lies = absurd (some refl)

-- the same of an access for writing
pub lies_for_writing : (rw : List Bool) (lengths : List ℕ) (a n : ℕ) → LiesAt lengths a n (resolve_to_write rw lengths a n) × IsForWriting rw (resolve_to_write rw lengths a n)
lies_for_writing rw lengths a n = by_location (resolve lengths a n) (lies_there lengths a n)
  where
    by_location : (l : Location) → LiesAt lengths a n l → LiesAt lengths a n (for_writing rw l) × IsForWriting rw (for_writing rw l)
    by_location (InRange i o) lies = by_test (slice_index_or rw i false) refl
      where
        by_test : (b : Bool) → slice_index_or rw i false ≡ b
            → LiesAt lengths a n (if b then InRange i o else Nowhere) × IsForWriting rw (if b then InRange i o else Nowhere)
        by_test true t = (lies, t)
        by_test false t = (tt, tt)
    by_location (InStack o) lies = (lies, tt)
    by_location Nowhere lies = (tt, tt)

pub found_for_writing : (rw : List Bool) (lengths : List ℕ) (a n : ℕ) (location : Location) → All (λ l. l < 2 ^ 32) lengths → length lengths ≤ 16
    → location ≢ Nowhere → LiesAt lengths a n location → IsForWriting rw location → resolve_to_write rw lengths a n ≡ location
found_for_writing rw lengths a n location short few some lies writable =
    ap (for_writing rw) (found lengths a n location short few some lies) ∙ by_location location writable
  where
    by_location : (l : Location) → IsForWriting rw l → for_writing rw l ≡ l
    by_location (InRange i o) writable = ap (λ (b : Bool). if b then InRange i o else Nowhere) writable
    by_location (InStack o) writable = refl
    by_location Nowhere writable = refl
