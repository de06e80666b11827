-- Bytes stay bytes: under pieces, puts, executions, and programs in slots.
use Rattle.std.proofs.Common.{◌≡◌, ℕ, zero, suc, ◌+◌, ◌-◌, ◌<◌, ◌≤◌, List, [], ◌∷◌, ◌++◌, length, replicate, slice_index, subst, inl, inr, ◌⊎◌, ⊎_elim, arith}
use Rattle.std.specs.List.{AllByRecursion}
use Rattle.std.proofs.lemmas.Bool.{cases_lt}
use Rattle.std.proofs.Math.ListN.{get_or-eq_default}
use Rattle.cp_base.specs.Contents.{Contents, bytes_of, put}
use Rattle.cp_base.specs.Region.{Region}
use Rattle.cp_base.specs.declared.region.SpaceId.{SpaceId}
use Rattle.trail_model.specs.Pieces.{AllBytes, RegionBytes, all_bytes, gathered, gathered_joined, put_pieces}
use Rattle.trail_model.specs.Sized.{EachByte}
use Rattle.trail_model.proofs.Bytes.{AreInContents, put-inside, put-length, put-outside, space-cases}
use Rattle.trail_model.proofs.Putting.{AreWhole, inside-kept, regions_of}

-- each byte of all namespaces is one
abbrev pub AllAreBytes : AllBytes → Type 0
AllAreBytes all = (s : SpaceId) (k : ℕ) → all s k < 256

pub gathered-bytes : (all : AllBytes) (s : SpaceId) (start n : ℕ) → AllAreBytes all → EachByte (gathered all s start n)
gathered-bytes all s start zero bytes = tt
gathered-bytes all s start (suc n) bytes = (bytes s start, gathered-bytes all s (start + 1) n bytes)

pub bytes-append : (xs ys : List ℕ) → EachByte xs → EachByte ys → EachByte (xs ++ ys)
bytes-append [] ys front back = back
bytes-append (x ∷ xs) ys front back = (front.0, bytes-append xs ys front.1 back)

pub joined-bytes : (all : AllBytes) (rs : List Region) → AllAreBytes all → EachByte (gathered_joined all rs)
joined-bytes all [] bytes = tt
joined-bytes all (r ∷ rs) bytes = bytes-append (gathered all r.space r.start r.len) (gathered_joined all rs) (gathered-bytes all r.space r.start r.len bytes) (joined-bytes all rs bytes)

pub replicate-bytes : (n value : ℕ) → value < 256 → EachByte (replicate n value)
replicate-bytes zero value small = tt
replicate-bytes (suc n) value small = (small, replicate-bytes n value small)

pub byte-at : (xs : List ℕ) (k : ℕ) → EachByte xs → slice_index xs k < 256
byte-at [] k all =
    let over : length {A = ℕ} [] ≤ k = omega arith in
    let e : slice_index [] k ≡ 0 = get_or-eq_default [] 0 over in
    omega arith
byte-at (x ∷ xs) zero all = all.0
byte-at (x ∷ xs) (suc k) all = byte-at xs k all.1

put-bytes : (contents : Contents) (s : SpaceId) (start : ℕ) (bytes : List ℕ) → start + length bytes ≤ length (bytes_of contents s) → EachByte bytes
    → AllAreBytes (all_bytes contents) → AllAreBytes (all_bytes (put contents s start bytes))
put-bytes contents s start bytes fits small old t k = by_space (space-cases s t)
  where
    outside : (s ≡ t → start ≤ k → k < start + length bytes → ⊥) → all_bytes (put contents s start bytes) t k < 256
    outside out = let e = put-outside contents s start bytes t k fits out in let o = old t k in omega arith

    inside : s ≡ t → start ≤ k → k < start + length bytes → all_bytes (put contents s start bytes) t k < 256
    inside same low high = subst (λ (u : SpaceId). all_bytes (put contents s start bytes) u k < 256) same
        (let e = put-inside contents s start bytes k fits low high in let b = byte-at bytes (k - start) small in omega arith)

    by_space : (s ≡ t) ⊎ (s ≡ t → ⊥) → all_bytes (put contents s start bytes) t k < 256
    by_space (inr other) = outside (λ same low high. other same)
    by_space (inl same) = ⊎_elim {C = all_bytes (put contents s start bytes) t k < 256}
        (λ (before : k < start). outside (λ e low high. omega arith))
        (λ (low : start ≤ k). ⊎_elim {C = all_bytes (put contents s start bytes) t k < 256}
        (λ (high : k < start + length bytes). inside same low high) (λ (behind : start + length bytes ≤ k). outside (λ e l high. omega arith))
        (cases_lt k (start + length bytes))) (cases_lt k start)

-- each byte of pieces is one
abbrev pub EachPiece : List RegionBytes → Type 0
EachPiece pieces = AllByRecursion (λ (piece : RegionBytes). EachByte piece.bytes) pieces

pub put_pieces-bytes : (contents : Contents) (ps : List RegionBytes) → AreWhole ps → AreInContents contents (regions_of ps) → EachPiece ps
    → AllAreBytes (all_bytes contents) → AllAreBytes (all_bytes (put_pieces contents ps))
put_pieces-bytes contents [] whole inside small old = old
put_pieces-bytes contents (p ∷ ps) whole inside small old =
    let fits : p.region.start + length p.bytes ≤ length (bytes_of contents p.region.space) = (let a = whole.0 in let b = inside.0 in omega arith) in
    let next : Contents = put contents p.region.space p.region.start p.bytes in
    put_pieces-bytes next ps whole.1
    (inside-kept contents next (regions_of ps) (λ t. put-length contents p.region.space p.region.start p.bytes t fits) inside.1) small.1
    (put-bytes contents p.region.space p.region.start p.bytes fits small.0 old)
