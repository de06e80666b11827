-- Pieces: what they have of the bytes that they are cut from, and what they change where they are put back.
use Rattle.std.proofs.Common.{◌≡◌, ℕ, zero, suc, ◌+◌, ◌-◌, ◌<◌, ◌≤◌, Bool, List, [], ◌∷◌, length, map, slice_index, refl, sym, ap, subst, ◌∙◌, inl, inr, ◌⊎◌, ⊎_elim, arith, if◌then◌else◌}
use Rattle.std.proofs.lemmas.Bool.{cases_lt}
use Rattle.std.proofs.Math.ListN.{get_or-eq_default}
use Rattle.cp_base.specs.Contents.{Contents, bytes_in, bytes_of, put}
use Rattle.cp_base.specs.Region.{Region}
use Rattle.cp_base.specs.Sharing.{IsIn, range_region}
use Rattle.cp_base.specs.declared.lists.MemRange.{MemRange}
use Rattle.cp_base.specs.declared.region.SpaceId.{SpaceId}
use Rattle.cp_base.specs.declared.region.SpaceId.TheVariants.{Nvm, Mem}
use Rattle.bpf_model.specs.Memory.{Memory, bytes_from}
use Rattle.bpf_model.proofs.Writing.{bytes_from-at, length-bytes_from}
use Rattle.device_model.specs.Execution.{memory_of, remembered, with_memory}
use Rattle.trail_model.specs.LocalEffects.{ranges_with}
use Rattle.trail_model.specs.Pieces.{AllBytes, RegionBytes, all_bytes, carried, pieces_of, put_pieces}
use Rattle.trail_model.proofs.Bytes.{AreInContents, bytes_in-gathered, gathered-at, gathered-same, item, length-gathered, put-inside, put-length, put-outside, put-spaces, same-contents}
use Rattle.trail_model.proofs.Regions.{IsInSome, in-cases, in-has_byte, out-has_byte, some-cases}

-- where pieces lie
abbrev pub regions_of : List RegionBytes → List Region
regions_of pieces = map (λ (piece : RegionBytes). piece.region) pieces

-- each piece has as many bytes as its region
abbrev pub AreWhole : List RegionBytes → Type 0
AreWhole [] = Unit {0}
AreWhole (p ∷ ps) = (length p.bytes ≡ p.region.len) × AreWhole ps

-- each byte of a piece is that of these bytes
abbrev pub AreFrom : AllBytes → List RegionBytes → Type 0
AreFrom all [] = Unit {0}
AreFrom all (p ∷ ps) =
    ((k : ℕ) → p.region.start ≤ k → k < p.region.start + p.region.len → slice_index p.bytes (k - p.region.start) ≡ all p.region.space k) × AreFrom all ps

-- regions stay inside where lengths stay
pub inside-kept : (a b : Contents) (rs : List Region) → ((s : SpaceId) → length (bytes_of b s) ≡ length (bytes_of a s)) → AreInContents a rs → AreInContents b rs
inside-kept a b [] same inside = tt
inside-kept a b (r ∷ rs) same inside =
    let e : length (bytes_of b r.space) ≡ length (bytes_of a r.space) = same r.space in
    let f : r.start + r.len ≤ length (bytes_of a r.space) = inside.0 in
    (omega arith, inside-kept a b rs same inside.1)

-- ---- putting pieces

put-fits : (contents : Contents) (p : RegionBytes) → length p.bytes ≡ p.region.len → p.region.start + p.region.len ≤ length (bytes_of contents p.region.space)
    → p.region.start + length p.bytes ≤ length (bytes_of contents p.region.space)
put-fits contents p whole inside = omega arith

pub put_pieces-length : (contents : Contents) (ps : List RegionBytes) → AreWhole ps → AreInContents contents (regions_of ps) → (s : SpaceId)
    → length (bytes_of (put_pieces contents ps) s) ≡ length (bytes_of contents s)
put_pieces-length contents [] whole inside s = refl
put_pieces-length contents (p ∷ ps) whole inside s =
    let fits = put-fits contents p whole.0 inside.0 in
    let next : Contents = put contents p.region.space p.region.start p.bytes in
    put_pieces-length next ps whole.1
    (inside-kept contents next (regions_of ps) (λ t. put-length contents p.region.space p.region.start p.bytes t fits) inside.1) s
    ∙ put-length contents p.region.space p.region.start p.bytes s fits

pub put_pieces-spaces : (contents : Contents) (ps : List RegionBytes)
    → (length (put_pieces contents ps).nvm ≡ length contents.nvm) × (length (put_pieces contents ps).mem ≡ length contents.mem)
put_pieces-spaces contents [] = (refl, refl)
put_pieces-spaces contents (p ∷ ps) =
    let here = put-spaces contents p.region.space p.region.start p.bytes in
    let rest = put_pieces-spaces (put contents p.region.space p.region.start p.bytes) ps in
    (rest.0 ∙ here.0, rest.1 ∙ here.1)

pub put_pieces-outside : (contents : Contents) (ps : List RegionBytes) → AreWhole ps → AreInContents contents (regions_of ps) → (s : SpaceId) (k : ℕ)
    → (IsInSome (regions_of ps) s k → ⊥) → all_bytes (put_pieces contents ps) s k ≡ all_bytes contents s k
put_pieces-outside contents [] whole inside s k out = refl
put_pieces-outside contents (p ∷ ps) whole inside s k out =
    let fits = put-fits contents p whole.0 inside.0 in
    let next : Contents = put contents p.region.space p.region.start p.bytes in
    put_pieces-outside next ps whole.1
    (inside-kept contents next (regions_of ps) (λ t. put-length contents p.region.space p.region.start p.bytes t fits) inside.1) s k
    (λ there. out (inr there))
    ∙ put-outside contents p.region.space p.region.start p.bytes s k fits
    (λ same low high. let e = whole.0 in out (inl (same, low, omega arith)))

-- pieces of one source of bytes leave its bytes where they lie
pub put_pieces-inside : (contents : Contents) (all : AllBytes) (ps : List RegionBytes) → AreWhole ps → AreFrom all ps → AreInContents contents (regions_of ps)
    → (s : SpaceId) (k : ℕ) → IsInSome (regions_of ps) s k → all_bytes (put_pieces contents ps) s k ≡ all s k
put_pieces-inside contents all [] whole from inside s k there = absurd there
put_pieces-inside contents all (p ∷ ps) whole from inside s k there =
    by_rest (some-cases (regions_of ps) s k) (put_pieces-inside next all ps whole.1 from.1 inside' s k)
  where
    next : Contents
    next = put contents p.region.space p.region.start p.bytes

    fits : p.region.start + length p.bytes ≤ length (bytes_of contents p.region.space)
    fits = put-fits contents p whole.0 inside.0

    inside' : AreInContents next (regions_of ps)
    inside' = inside-kept contents next (regions_of ps) (λ t. put-length contents p.region.space p.region.start p.bytes t fits) inside.1

    here : IsIn p.region s k → (IsInSome (regions_of ps) s k → ⊥) → all_bytes (put_pieces next ps) s k ≡ all s k
    here (same, low, high) out =
        put_pieces-outside next ps whole.1 inside' s k out
        ∙ subst (λ (t : SpaceId). all_bytes next t k ≡ all t k) same
        (put-inside contents p.region.space p.region.start p.bytes k fits low (let e = whole.0 in omega arith) ∙ from.0 k low high)

    by_rest : IsInSome (regions_of ps) s k ⊎ (IsInSome (regions_of ps) s k → ⊥)
        → (IsInSome (regions_of ps) s k → all_bytes (put_pieces next ps) s k ≡ all s k) → all_bytes (put_pieces next ps) s k ≡ all s k
    by_rest (inl later) rest = rest later
    by_rest (inr out) rest = ⊎_elim {C = all_bytes (put_pieces next ps) s k ≡ all s k} (λ (x : IsIn p.region s k). here x out)
        (λ (x : IsInSome (regions_of ps) s k). absurd (out x)) there

-- ---- pieces that are cut out

pub cut-regions : (contents : Contents) (rs : List Region) → regions_of (pieces_of contents rs) ≡ rs
cut-regions contents [] = refl
cut-regions contents (r ∷ rs) = ap (λ (xs : List Region). r ∷ xs) (cut-regions contents rs)

pub length-cut : (contents : Contents) (r : Region) → r.start + r.len ≤ length (bytes_of contents r.space) → length (bytes_in contents r) ≡ r.len
length-cut contents r fits = ap length (bytes_in-gathered contents r fits) ∙ length-gathered (all_bytes contents) r.space r.start r.len

cut-at : (contents : Contents) (r : Region) (k : ℕ) → r.start + r.len ≤ length (bytes_of contents r.space) → r.start ≤ k → k < r.start + r.len
    → slice_index (bytes_in contents r) (k - r.start) ≡ all_bytes contents r.space k
cut-at contents r k fits low high =
    ap (λ (xs : List ℕ). slice_index xs (k - r.start)) (bytes_in-gathered contents r fits)
    ∙ (gathered-at (all_bytes contents) r.space r.start r.len (k - r.start) (omega arith)
    ∙ ap (λ (i : ℕ). all_bytes contents r.space i) (omega arith))

-- what pieces carry are the bytes that they were cut from
pub carried-cut : (contents : Contents) (rs : List Region) → AreInContents contents rs → (s : SpaceId) (k : ℕ) → IsInSome rs s k
    → carried (pieces_of contents rs) s k ≡ all_bytes contents s k
carried-cut contents [] fits s k there = absurd there
carried-cut contents (r ∷ rs) fits s k there = by_first (in-cases r s k) (carried-cut contents rs fits.1 s k)
  where
    by_first : IsIn r s k ⊎ (IsIn r s k → ⊥) → (IsInSome rs s k → carried (pieces_of contents rs) s k ≡ all_bytes contents s k)
        → carried (pieces_of contents (r ∷ rs)) s k ≡ all_bytes contents s k
    by_first (inl inside) rest =
        ap (λ (b : Bool). if b then slice_index (bytes_in contents r) (k - r.start) else carried (pieces_of contents rs) s k) (in-has_byte r s k inside)
        ∙ subst (λ (t : SpaceId). slice_index (bytes_in contents r) (k - r.start) ≡ all_bytes contents t k) inside.0
        (cut-at contents r k fits.0 inside.1 inside.2)
    by_first (inr out) rest =
        ap (λ (b : Bool). if b then slice_index (bytes_in contents r) (k - r.start) else carried (pieces_of contents rs) s k) (out-has_byte r s k out)
        ∙ rest (⊎_elim {C = IsInSome rs s k} (λ (x : IsIn r s k). absurd (out x)) (λ (x : IsInSome rs s k). x) there)

-- the pieces of regions whose bytes are the same are the same
pub cut-same : (a b : Contents) (rs : List Region) → AreInContents a rs → AreInContents b rs → ((s : SpaceId) (k : ℕ) → IsInSome rs s k → all_bytes a s k ≡ all_bytes b s k)
    → pieces_of a rs ≡ pieces_of b rs
cut-same a b [] fits fits' same = refl
cut-same a b (r ∷ rs) fits fits' same =
    let here : bytes_in a r ≡ bytes_in b r =
    bytes_in-gathered a r fits.0 ∙ (gathered-same (all_bytes a) (all_bytes b) r.space r.start r.len (λ k low high. same r.space k (inl (refl, low, high)))
    ∙ sym (bytes_in-gathered b r fits'.0)) in
    let rest : pieces_of a rs ≡ pieces_of b rs = cut-same a b rs fits.1 fits'.1 (λ s k there. same s k (inr there)) in
    λ i. record { region = r; bytes = here i } ∷ rest i

-- ---- the memory of programs

-- the bytes of a memory, as all bytes that there are
abbrev pub only_memory : Memory → AllBytes
only_memory memory (Nvm n) k = 0
only_memory memory (Mem n) k = memory n k

pub ranges_with-regions : (memory : Memory) (ranges : List MemRange) → regions_of (ranges_with memory ranges) ≡ map range_region ranges
ranges_with-regions memory [] = refl
ranges_with-regions memory (r ∷ ranges) = ap (λ (xs : List Region). range_region r ∷ xs) (ranges_with-regions memory ranges)

pub ranges_with-whole : (memory : Memory) (ranges : List MemRange) → AreWhole (ranges_with memory ranges)
ranges_with-whole memory [] = tt
ranges_with-whole memory (r ∷ ranges) = (length-bytes_from memory r.ns r.at r.len, ranges_with-whole memory ranges)

ranges_with-from : (memory : Memory) (ranges : List MemRange) → AreFrom (only_memory memory) (ranges_with memory ranges)
ranges_with-from memory [] = tt
ranges_with-from memory (r ∷ ranges) = (
  (λ k low high. bytes_from-at memory r.ns r.at r.len (k - r.at) (omega arith) ∙ ap (λ (i : ℕ). memory r.ns i) (omega arith)),
  ranges_with-from memory ranges,
)

length-remembered : (memory : Memory) (ns : ℕ) (xss : List (List ℕ)) → length (remembered memory ns xss) ≡ length xss
length-remembered memory ns [] = refl
length-remembered memory ns (xs ∷ xss) = ap suc (length-remembered memory (ns + 1) xss)

remembered-item : (memory : Memory) (ns : ℕ) (xss : List (List ℕ)) (j : ℕ) → item (remembered memory ns xss) (suc j) ≡ bytes_from memory (ns + j) 0 (length (item xss (suc j)))
remembered-item memory ns [] j = refl
remembered-item memory ns (xs ∷ xss) zero = ap (λ (n : ℕ). bytes_from memory n 0 (length xs)) (omega arith)
remembered-item memory ns (xs ∷ xss) (suc j) =
    remembered-item memory (ns + 1) xss j ∙ ap (λ (n : ℕ). bytes_from memory n 0 (length (item xss (suc j)))) (omega arith)

memory-length : (memory : Memory) (contents : Contents) (n : ℕ) → length (bytes_of (with_memory contents memory) (Mem n)) ≡ length (bytes_of contents (Mem n))
memory-length memory contents zero = refl
memory-length memory contents (suc j) = ap length (remembered-item memory 1 contents.mem j) ∙ length-bytes_from memory (1 + j) 0 (length (item contents.mem (suc j)))

memory-at : (memory : Memory) (contents : Contents) (n k : ℕ) → k < length (bytes_of contents (Mem n)) → all_bytes (with_memory contents memory) (Mem n) k ≡ memory n k
memory-at memory contents zero k less = absurd (omega arith)
memory-at memory contents (suc j) k less =
    ap (λ (xs : List ℕ). slice_index xs k) (remembered-item memory 1 contents.mem j)
    ∙ (bytes_from-at memory (1 + j) 0 (length (item contents.mem (suc j))) k less
    ∙ (ap (λ (n : ℕ). memory n (0 + k)) (omega arith) ∙ ap (λ (i : ℕ). memory (suc j) i) (omega arith)))

past : (xs : List ℕ) (k : ℕ) → length xs ≤ k → slice_index xs k ≡ 0
past xs k over = get_or-eq_default xs 0 over

not_in_ranges : (ranges : List MemRange) (n k : ℕ) → IsInSome (map range_region ranges) (Nvm n) k → ⊥
not_in_ranges [] n k h = h
not_in_ranges (r ∷ ranges) n k (inl (same, low, high)) = cc (same)
not_in_ranges (r ∷ ranges) n k (inr there) = not_in_ranges ranges n k there

-- the contents with a memory that has changed in these ranges alone are the contents with those ranges put
pub memory-put : (contents : Contents) (memory : Memory) (ranges : List MemRange) → AreInContents contents (map range_region ranges)
    → ((n k : ℕ) → (IsInSome (map range_region ranges) (Mem n) k → ⊥) → memory n k ≡ memory_of contents n k)
    → with_memory contents memory ≡ put_pieces contents (ranges_with memory ranges)
memory-put contents memory ranges inside kept = same-contents (with_memory contents memory) (put_pieces contents ps) (record {
  nvm = sym (put_pieces-spaces contents ps).0;
  mem = length-remembered memory 1 contents.mem ∙ sym (put_pieces-spaces contents ps).1;
  lengths = λ s. lengths s ∙ sym (put_pieces-length contents ps whole fits s);
  bytes = bytes;
})
  where
    ps : List RegionBytes
    ps = ranges_with memory ranges

    whole : AreWhole ps
    whole = ranges_with-whole memory ranges

    fits : AreInContents contents (regions_of ps)
    fits = subst (λ (rs : List Region). AreInContents contents rs) (sym (ranges_with-regions memory ranges)) inside

    lengths : (s : SpaceId) → length (bytes_of (with_memory contents memory) s) ≡ length (bytes_of contents s)
    lengths (Nvm n) = refl
    lengths (Mem n) = memory-length memory contents n

    out_of : (s : SpaceId) (k : ℕ) → (IsInSome (map range_region ranges) s k → ⊥) → all_bytes (put_pieces contents ps) s k ≡ all_bytes contents s k
    out_of s k out = put_pieces-outside contents ps whole fits s k
        (λ there. out (subst (λ (rs : List Region). IsInSome rs s k) (ranges_with-regions memory ranges) there))

    into : (n k : ℕ) → IsInSome (map range_region ranges) (Mem n) k → all_bytes (put_pieces contents ps) (Mem n) k ≡ memory n k
    into n k there = put_pieces-inside contents (only_memory memory) ps whole (ranges_with-from memory ranges) fits (Mem n) k
        (subst (λ (rs : List Region). IsInSome rs (Mem n) k) (sym (ranges_with-regions memory ranges)) there)

    bytes : (s : SpaceId) (k : ℕ) → all_bytes (with_memory contents memory) s k ≡ all_bytes (put_pieces contents ps) s k
    bytes (Nvm n) k = sym (out_of (Nvm n) k (not_in_ranges ranges n k))
    bytes (Mem n) k = ⊎_elim {C = all_bytes (with_memory contents memory) (Mem n) k ≡ all_bytes (put_pieces contents ps) (Mem n) k}
        (λ (less : k < length (bytes_of contents (Mem n))).
        memory-at memory contents n k less
        ∙ ⊎_elim {C = memory n k ≡ all_bytes (put_pieces contents ps) (Mem n) k}
        (λ (there : IsInSome (map range_region ranges) (Mem n) k). sym (into n k there))
        (λ (out : IsInSome (map range_region ranges) (Mem n) k → ⊥). kept n k out ∙ sym (out_of (Mem n) k out))
        (some-cases (map range_region ranges) (Mem n) k))
        (λ (over : length (bytes_of contents (Mem n)) ≤ k).
        let a = memory-length memory contents n in
        let b = put_pieces-length contents ps whole fits (Mem n) in
        past (bytes_of (with_memory contents memory) (Mem n)) k (omega arith) ∙ sym (past (bytes_of (put_pieces contents ps) (Mem n)) k (omega arith)))
        (cases_lt k (length (bytes_of contents (Mem n))))
