-- Buffers under numbers that count from 1.
use Rattle.std.proofs.Common.{◌≡◌, ℕ, zero, suc, ◌+◌, ◌-◌, ◌<◌, ◌≤◌, List, [], Some, None, length, get_or, set, unwrap_or, option_map, slice_get, sym, refl, ap, ◌∙◌, subst, arith, ⊎_elim, Option}
use Rattle.std.proofs.lemmas.Option.{slice_get-map, slice_get-get_or, slice_get_past}
use Rattle.std.proofs.lemmas.Bool.{cases_lt}
use Rattle.std.proofs.lemmas.List.{map-set}
use Rattle.cp_base.specs.Buffer.{Buffer, contents_of}
use Rattle.cp_base.specs.Configuration.{numbered, with_numbered}

-- the bytes under a number are those of the buffer there
pub numbered_contents : (bs : List Buffer) (n k : ℕ) (d : Buffer) → n ≡ k + 1 → k < length bs → numbered (contents_of bs) n ≡ Some (get_or bs k d).items
numbered_contents bs zero k d e h = absurd (omega arith)
numbered_contents bs (suc m) k d e h =
    let same : m ≡ k = omega arith in
    slice_get-map (λ (b : Buffer). b.items) bs m ∙ ap (option_map (λ (b : Buffer). b.items)) (ap (slice_get bs) same ∙ slice_get-get_or bs k d h)

-- past the last number there is nothing
pub numbered_past : (bs : List Buffer) (n : ℕ) → (length bs < n) → numbered (contents_of bs) n ≡ None
numbered_past bs zero h = refl
numbered_past bs (suc m) h = slice_get-map (λ (b : Buffer). b.items) bs m ∙ ap (option_map (λ (b : Buffer). b.items)) (slice_get_past bs m (omega arith))

-- a buffer in place of another is its bytes in place of the other's
pub contents_of-set : (bs : List Buffer) (n k : ℕ) (b : Buffer) → n ≡ k + 1 → contents_of (set bs k b) ≡ with_numbered (contents_of bs) n b.items
contents_of-set bs zero k b e = absurd (omega arith)
contents_of-set bs (suc m) k b e =
    let same : m ≡ k = omega arith in
    map-set (λ (x : Buffer). x.items) bs k b ∙ ap (λ j. set (contents_of bs) j b.items) (sym same)

-- a numbered space with bytes is one of the buffers
pub number_inside : (bs : List Buffer) (n : ℕ) → 0 < length (unwrap_or (numbered (contents_of bs) n) []) → (0 < n) × (n ≤ length bs)
number_inside bs zero h = absurd (omega (arith, h))
number_inside bs (suc m) h =
    ⊎_elim (λ (past : length bs < suc m). absurd (omega (arith, subst (λ (o : Option (List ℕ)). 0 < length (unwrap_or o [])) (numbered_past bs (suc m) past) h)))
    (λ (within : suc m ≤ length bs). (omega arith, within)) (cases_lt (length bs) (suc m))

-- the bytes under a number, read at its buffer
pub space_read : (bs : List Buffer) (n : ℕ) (x : Buffer) → 0 < n → n ≤ length bs → x ≡ get_or bs (n - 1) x → unwrap_or (numbered (contents_of bs) n) [] ≡ x.items
space_read bs n x low high e =
    ap (λ (o : Option (List ℕ)). unwrap_or o []) (numbered_contents bs n (n - 1) x (omega arith) (omega arith)) ∙ ap (λ (b : Buffer). b.items) (sym e)
