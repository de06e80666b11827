-- What a write leaves in memory, and where the bytes of an access lie.
use Rattle.std.proofs.Common.{◌≡◌, ℕ, zero, suc, ◌<◌, ◌≤◌, ◌+◌, ◌-◌, ◌/◌, ◌^◌, ◌==◌, Bool, true, false, ◌&&◌, List, [], ◌∷◌, length, slice_index, refl, sym, ap, subst, ◌∙◌, arith, eqb-true, eq-eqb, inl, inr, ◌⊎◌}
use Rattle.std.proofs.lemmas.List.Elements.{All-nil, All-cons}
use Rattle.std.proofs.lemmas.Nat.{mod_below}
use Rattle.std.proofs.Math.ListN.{get_or-eq_default}
use Rattle.std.specs.Int.{byte_at, bytes_low_first}
use Rattle.byteorder.specs.Endian.{little_bytes}
use Rattle.std.proofs.lemmas.Bool.{cases_lt, ltb-true, lt-ltb, leb-true, le-leb, and_parts, and_from, true≢false}
use Rattle.std.specs.Prelude.{All, IsTrue, nat_lt, nat_le, if◌then◌else◌, slice_index_or}
use Rattle.bpf_model.specs.Address.{Location, InRange, InStack, Nowhere, for_writing, resolve_from, lies_within, range_start, stack_start, stack_len}
use Rattle.bpf_model.specs.Memory.{Memory, HoldsBytes, bytes_from, overwritten}

-- whether a byte is one of those that a write replaces
pub written-cases : (ns at len n k : ℕ) → ((d : ℕ) × (d < len) × (n ≡ ns) × (at + d ≡ k)) ⊎ ((d : ℕ) → d < len → n ≡ ns → at + d ≡ k → ⊥)
written-cases ns at len n k = by_test (n == ns && (nat_le at k && nat_lt k (at + len))) refl
  where
    by_test : (b : Bool) → (n == ns && (nat_le at k && nat_lt k (at + len))) ≡ b
        → ((d : ℕ) × (d < len) × (n ≡ ns) × (at + d ≡ k)) ⊎ ((d : ℕ) → d < len → n ≡ ns → at + d ≡ k → ⊥)
    by_test true e =
        let p = and_parts (n == ns) (nat_le at k && nat_lt k (at + len)) e in
        let q = and_parts (nat_le at k) (nat_lt k (at + len)) p.1 in
        let above : at ≤ k = leb-true at k q.0 in
        let below : k < at + len = ltb-true k (at + len) q.1 in
        inl (k - at, omega arith, eqb-true n ns p.0, omega arith)
    by_test false e = inr (λ d less same there.
        let t : (n == ns && (nat_le at k && nat_lt k (at + len))) ≡ true =
        and_from (n == ns) (nat_le at k && nat_lt k (at + len)) (eq-eqb n ns same)
        (and_from (nat_le at k) (nat_lt k (at + len)) (le-leb at k (omega arith)) (lt-ltb k (at + len) (omega arith))) in
        true≢false (sym t ∙ e))

pub written-inside : (memory : Memory) (ns at : ℕ) (bytes : List ℕ) (n k d : ℕ) → d < length bytes → n ≡ ns → at + d ≡ k
    → overwritten memory ns at bytes n k ≡ slice_index bytes d
written-inside memory ns at bytes n k d less same there =
    let t : (n == ns && (nat_le at k && nat_lt k (at + length bytes))) ≡ true =
    and_from (n == ns) (nat_le at k && nat_lt k (at + length bytes)) (eq-eqb n ns same)
    (and_from (nat_le at k) (nat_lt k (at + length bytes)) (le-leb at k (omega arith)) (lt-ltb k (at + length bytes) (omega arith))) in
    let e : k - at ≡ d = omega arith in
    ap (λ (b : Bool). if b then slice_index bytes (k - at) else memory n k) t ∙ ap (λ (i : ℕ). slice_index bytes i) e

pub written-outside : (memory : Memory) (ns at : ℕ) (bytes : List ℕ) (n k : ℕ) → ((d : ℕ) → d < length bytes → n ≡ ns → at + d ≡ k → ⊥)
    → overwritten memory ns at bytes n k ≡ memory n k
written-outside memory ns at bytes n k out = by_test (n == ns && (nat_le at k && nat_lt k (at + length bytes))) refl
  where
    by_test : (b : Bool) → (n == ns && (nat_le at k && nat_lt k (at + length bytes))) ≡ b → (if b then slice_index bytes (k - at) else memory n k) ≡ memory n k
    by_test true e =
        let p = and_parts (n == ns) (nat_le at k && nat_lt k (at + length bytes)) e in
        let q = and_parts (nat_le at k) (nat_lt k (at + length bytes)) p.1 in
        let above : at ≤ k = leb-true at k q.0 in
        let below : k < at + length bytes = ltb-true k (at + length bytes) q.1 in
        absurd (out (k - at) (omega arith) (eqb-true n ns p.0) (omega arith))
    by_test false e = refl

-- a run of bytes by its bytes
pub length-bytes_from : (memory : Memory) (ns at n : ℕ) → length (bytes_from memory ns at n) ≡ n
length-bytes_from memory ns at zero = refl
length-bytes_from memory ns at (suc n) = ap suc (length-bytes_from memory ns (at + 1) n)

pub bytes_from-at : (memory : Memory) (ns at n k : ℕ) → k < n → slice_index (bytes_from memory ns at n) k ≡ memory ns (at + k)
bytes_from-at memory ns at zero k h = absurd (omega arith)
bytes_from-at memory ns at (suc n) zero h = ap (λ (i : ℕ). memory ns i) (omega arith)
bytes_from-at memory ns at (suc n) (suc k) h =
    bytes_from-at memory ns (at + 1) n k (omega arith) ∙ ap (λ (i : ℕ). memory ns i) (omega arith)

pub bytes_from-same : (a b : Memory) (ns at ns' at' n : ℕ) → ((k : ℕ) → k < n → a ns (at + k) ≡ b ns' (at' + k)) → bytes_from a ns at n ≡ bytes_from b ns' at' n
bytes_from-same a b ns at ns' at' zero same = refl
bytes_from-same a b ns at ns' at' (suc n) same =
    let here : a ns at ≡ b ns' at' = ap (λ (i : ℕ). a ns i) (omega arith) ∙ (same 0 (omega arith) ∙ ap (λ (i : ℕ). b ns' i) (omega arith)) in
    let rest : bytes_from a ns (at + 1) n ≡ bytes_from b ns' (at' + 1) n =
    bytes_from-same a b ns (at + 1) ns' (at' + 1) n
    (λ k h. ap (λ (i : ℕ). a ns i) (omega arith) ∙ (same (suc k) (omega arith) ∙ ap (λ (i : ℕ). b ns' i) (omega arith))) in
    cc

-- the bytes of a place in a range are the range's
pub resolve_from-inside : (from : ℕ) (lengths : List ℕ) (address size index offset : ℕ) → resolve_from from lengths address size ≡ InRange index offset
    → (k : ℕ) × (from + k ≡ index) × (offset + size ≤ slice_index lengths k) × (k < length lengths)
resolve_from-inside from [] address size index offset e = by_test (lies_within stack_start stack_len address size) e
  where
    by_test : (b : Bool) → (if b then InStack (address - stack_start) else Nowhere) ≡ InRange index offset
        → (k : ℕ) × (from + k ≡ index) × (offset + size ≤ slice_index [] k) × (k < length {A = ℕ} [])
    by_test true e = cc
    by_test false e = cc
resolve_from-inside from (len ∷ lengths) address size index offset e =
    by_test (lies_within (range_start from) len address size) refl e (resolve_from-inside (suc from) lengths address size index offset)
  where
    by_test : (b : Bool) → lies_within (range_start from) len address size ≡ b
        → (if b then InRange from (address - range_start from) else resolve_from (suc from) lengths address size) ≡ InRange index offset
        → (resolve_from (suc from) lengths address size ≡ InRange index offset → (k : ℕ) × (suc from + k ≡ index) × (offset + size ≤ slice_index lengths k) × (k < length lengths))
        → (k : ℕ) × (from + k ≡ index) × (offset + size ≤ slice_index (len ∷ lengths) k) × (k < length (len ∷ lengths))
    by_test true t e later =
        let p = and_parts (nat_le (range_start from) address) (nat_le (address + size) (range_start from + len)) t in
        let low : range_start from ≤ address = leb-true (range_start from) address p.0 in
        let high : address + size ≤ range_start from + len = leb-true (address + size) (range_start from + len) p.1 in
        let i : from ≡ index = cc in
        let o : address - range_start from ≡ offset = cc in
        (0, omega arith, omega arith, omega arith)
    by_test false t e later =
        let h = later e in
        (suc h.0, omega arith, h.2, omega arith)

-- a location for writing in a range is the location of the access, and the range is read-write
pub for_writing-range : (rw : List Bool) (l : Location) (index offset : ℕ) → for_writing rw l ≡ InRange index offset
    → (l ≡ InRange index offset) × IsTrue (slice_index_or rw index false)
for_writing-range rw (InRange i o) index offset e = by_test (slice_index_or rw i false) refl e
  where
    by_test : (b : Bool) → slice_index_or rw i false ≡ b → (if b then InRange i o else Nowhere) ≡ InRange index offset
        → (InRange i o ≡ InRange index offset) × IsTrue (slice_index_or rw index false)
    by_test true t e =
        let same : i ≡ index = cc in
        (e, subst (λ (k : ℕ). IsTrue (slice_index_or rw k false)) same t)
    by_test false t e = absurd (cc)
for_writing-range rw (InStack o) index offset e = absurd (cc)
for_writing-range rw Nowhere index offset e = absurd (cc)

-- the same in the stack
pub for_writing-stack : (rw : List Bool) (l : Location) (offset : ℕ) → for_writing rw l ≡ InStack offset → l ≡ InStack offset
for_writing-stack rw (InRange i o) offset e = by_test (slice_index_or rw i false) e
  where
    by_test : (b : Bool) → (if b then InRange i o else Nowhere) ≡ InStack offset → InRange i o ≡ InStack offset
    by_test true e = absurd (cc)
    by_test false e = absurd (cc)
for_writing-stack rw (InStack o) offset e = e
for_writing-stack rw Nowhere offset e = absurd (cc)

-- each item is a byte
abbrev pub AreSmall : List ℕ → Type 0
AreSmall bytes = All (λ b. b < 256) bytes

byte_at-small : (i n : ℕ) → byte_at i n < 256
byte_at-small zero n = omega arith
byte_at-small (suc i) n = mod_below (n / 256 ^ suc i) 256 (omega arith)

low_first-small : (i k n : ℕ) → AreSmall (bytes_low_first i k n)
low_first-small i zero n = All-nil (λ b. b < 256)
low_first-small i (suc k) n = All-cons (λ b. b < 256) (byte_at i n) (bytes_low_first (suc i) k n) (byte_at-small i n) (low_first-small (suc i) k n)

pub little_bytes-small : (n value : ℕ) → AreSmall (little_bytes n value)
little_bytes-small n value = low_first-small 0 n value

-- an item of a list of numbers, or 0
pub item_below : (bound : ℕ) (xs : List ℕ) (k : ℕ) → 0 < bound → All (λ x. x < bound) xs → slice_index xs k < bound
item_below bound xs k some all = elim (cases_lt k (length xs)) [
  | inl inside ↦ all k 0 inside
  | inr past ↦ let e : slice_index xs k ≡ 0 = get_or-eq_default xs 0 past in omega arith
]

-- bytes over bytes are bytes
pub written-bytes : (memory : Memory) (ns at : ℕ) (bytes : List ℕ) → HoldsBytes memory → AreSmall bytes → HoldsBytes (overwritten memory ns at bytes)
written-bytes memory ns at bytes held small n k = by_test (n == ns && (nat_le at k && nat_lt k (at + length bytes)))
  where
    by_test : (b : Bool) → (if b then slice_index bytes (k - at) else memory n k) < 256
    by_test true = item_below 256 bytes (k - at) (omega arith) small
    by_test false = held n k

pub bytes_from-small : (memory : Memory) (ns at n : ℕ) → HoldsBytes memory → AreSmall (bytes_from memory ns at n)
bytes_from-small memory ns at zero held = All-nil (λ b. b < 256)
bytes_from-small memory ns at (suc n) held =
    All-cons (λ b. b < 256) (memory ns at) (bytes_from memory ns (at + 1) n) (held ns at) (bytes_from-small memory ns (at + 1) n held)
