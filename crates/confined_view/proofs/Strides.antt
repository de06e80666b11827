-- The place of an access, by the number of strides in its address and what is left of it.
use Rattle.std.proofs.Common.{◌≡◌, ℕ, ◌+◌, ◌*◌, ◌^◌, ◌<◌, ◌≤◌, List, Option, Some, None, length, get_or, refl, sym, subst, arith}
use Rattle.std.specs.Prelude.{slice_get, IsSomeAnd, All}
use Rattle.std.proofs.lemmas.Option.{slice_get-get_or, slice_get_within, get_or_from_slice_get}
use Rattle.bpf_model.specs.Address.{range_start, stack_start, stack_len, resolve, LiesAt}
use Rattle.bpf_model.specs.declared.addresses.Location.{Location}
use Rattle.bpf_model.specs.declared.addresses.Location.TheVariants.{InRange, InStack, Nowhere}
use Rattle.bpf_model.proofs.Address.{lies_there, found}

-- in the stack
pub stack_place : (lengths : List ℕ) (a n s r : ℕ) → All (λ len. len < 2 ^ 32) lengths → length lengths ≤ 16 → s * 2 ^ 32 + r ≡ a
    → s ≡ 65536 → r + n ≤ stack_len → InStack r ≡ resolve lengths a n
stack_place lengths a n s r short few parts here fits =
    sym (found lengths a n (InStack r) short few (λ e. absurd (cc)) (omega arith, fits))

-- in a range
pub range_place : (lengths : List ℕ) (a n s r i : ℕ) → All (λ len. len < 2 ^ 32) lengths → length lengths ≤ 16 → s * 2 ^ 32 + r ≡ a
    → s ≡ i + 1 → i < length lengths → r + n ≤ get_or lengths i 0 → InRange i r ≡ resolve lengths a n
range_place lengths a n s r i short few parts here there fits =
    let P : Option ℕ → Type 0 = λ o. IsSomeAnd o (λ len. r + n ≤ len) in
    let in_it : IsSomeAnd (slice_get lengths i) (λ len. r + n ≤ len) = subst P (sym (slice_get-get_or lengths i 0 there)) fits in
    sym (found lengths a n (InRange i r) short few (λ e. absurd (cc)) (omega arith, in_it))

-- nowhere, where the part of memory in this stride is not there or is too short
pub no_place : (lengths : List ℕ) (a n s r : ℕ) → All (λ len. len < 2 ^ 32) lengths → s * 2 ^ 32 + r ≡ a → r < 2 ^ 32
    → ((i : ℕ) → s ≡ i + 1 → i < length lengths → get_or lengths i 0 < r + n) → (s ≡ 65536 → stack_len < r + n) → Nowhere ≡ resolve lengths a n
no_place lengths a n s r short parts small no_range no_stack = by_place (resolve lengths a n) (lies_there lengths a n)
  where
    by_len : (i o : ℕ) (len : Option ℕ) → slice_get lengths i ≡ len → range_start i + o ≡ a → IsSomeAnd len (λ l. o + n ≤ l) → Nowhere ≡ InRange i o
    by_len i o None e start fits = absurd fits
    by_len i o (Some len) e start fits =
        let there : i < length lengths = slice_get_within lengths i len e in
        let is : get_or lengths i 0 ≡ len = get_or_from_slice_get lengths i len 0 e in
        let bounded : get_or lengths i 0 < 2 ^ 32 = short i 0 there in
        let stride : s ≡ i + 1 = omega arith in
        let contrary : get_or lengths i 0 < r + n = no_range i stride there in
        absurd (omega (arith, fits))

    by_place : (place : Location) → LiesAt lengths a n place → Nowhere ≡ place
    by_place (InRange i o) lies = by_len i o (slice_get lengths i) refl lies.0 lies.1
    by_place (InStack o) lies =
        let start : stack_start + o ≡ a = lies.0 in
        let fits : o + n ≤ stack_len = lies.1 in
        let stride : s ≡ 65536 = omega arith in
        let contrary : stack_len < r + n = no_stack stride in
        absurd (omega arith)
    by_place Nowhere lies = refl
