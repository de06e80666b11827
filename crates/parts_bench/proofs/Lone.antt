-- One more lone byte of a program.
use Rattle.std.proofs.Common.{◌≡◌, ℕ, zero, suc, ◌+◌, ◌-◌, ◌*◌, ◌<◌, ◌≤◌, false, List, [], ◌∷◌, ◌++◌, Option, Some, None, length, map, replicate, slice_get, take, drop, refl, sym, ap, ◌∙◌, subst, arith}
use Rattle.std.proofs.lemmas.List.{append_assoc, replicate-append-replicate}
use Rattle.cp_base.specs.Pieces.{patched}
use Rattle.std.specs.Prelude.{slice_set}
use Rattle.device_model.specs.Effect.{begun}
use Rattle.device_model.specs.State.{Slot, Holding}
use Rattle.parts_bench.specs.Parts.{lone_bytes}

one_put : (n : ℕ) (y : Option ℕ) (rest : List (Option ℕ))
    → take n (replicate n None ++ None ∷ None ∷ rest) ++ (y ∷ []) ++ drop (suc n) (replicate n None ++ None ∷ None ∷ rest) ≡ replicate n None ++ y ∷ None ∷ rest
one_put zero y rest = refl
one_put (suc n) y rest = ap (λ (bytes : List (Option ℕ)). None ∷ bytes) (one_put n y rest)

two_more : (n : ℕ) (rest : List (Option ℕ)) → replicate (n + 2) None ++ rest ≡ replicate n None ++ None ∷ None ∷ rest
two_more n rest =
    let none : Option ℕ = None in
    ap (λ (bytes : List (Option ℕ)). bytes ++ rest) (sym (replicate-append-replicate n 2 none)) ∙ append_assoc (replicate n none) (none ∷ none ∷ []) rest

patched_more : (n : ℕ) (y : Option ℕ) (rest : List (Option ℕ)) → patched (replicate (n + 2) None ++ rest) n (y ∷ []) ≡ replicate n None ++ y ∷ None ∷ rest
patched_more n y rest =
    let next : n + 1 ≡ suc n = omega arith in
    let bytes : List (Option ℕ) = replicate n None ++ None ∷ None ∷ rest in
    ap (λ (all : List (Option ℕ)). patched all n (y ∷ [])) (two_more n rest)
    ∙ (ap (λ (k : ℕ). take n bytes ++ (y ∷ []) ++ drop k bytes) next ∙ one_put n y rest)

-- the bytes of a program of which all lone bytes from number `left` on are loaded
abbrev pub loaded_from : ℕ → ℕ → ℕ → List (Option ℕ)
loaded_from left count size = replicate (2 * left) None ++ (lone_bytes (count - left) ++ replicate (size - 2 * count) None)

pub none_loaded : (count size : ℕ) → 2 * count ≤ size → replicate size None ≡ loaded_from count count size
none_loaded count size fits =
    let all : 2 * count + (size - 2 * count) ≡ size = omega arith in
    let none : count - count ≡ 0 = omega arith in
    sym (ap (λ (k : ℕ). replicate (2 * count) None ++ (lone_bytes k ++ replicate (size - 2 * count) None)) none
    ∙ replicate-append-replicate (2 * count) (size - 2 * count) None
    ∙ ap (λ (n : ℕ). replicate {A = Option ℕ} n None) all)

pub one_more : (before left count size : ℕ) → before ≡ left + 1 → before ≤ count
    → patched (loaded_from before count size) (2 * left) (Some 0x95 ∷ []) ≡ loaded_from left count size
one_more before left count size next within =
    let twice : 2 * before ≡ 2 * left + 2 = omega arith in
    let more : count - left ≡ suc (count - before) = omega arith in
    let rest : List (Option ℕ) = lone_bytes (count - before) ++ replicate (size - 2 * count) None in
    ap (λ (n : ℕ). patched (replicate n None ++ rest) (2 * left) (Some 0x95 ∷ [])) twice
    ∙ patched_more (2 * left) (Some 0x95) rest
    ∙ sym (ap (λ (k : ℕ). replicate (2 * left) None ++ (lone_bytes k ++ replicate (size - 2 * count) None)) more)

-- the slots after one more
pub put_more : (slots new : List Slot) (before left count size : ℕ) (items : List ℕ) → before ≡ left + 1 → before ≤ count → 0 < length slots → items ≡ 0x95 ∷ []
    → begun (slice_get slots 0) size ≡ loaded_from before count size
    → new ≡ slice_set slots 0 (Holding (patched (begun (slice_get slots 0) size) (2 * left) (map (λ byte. Some byte) items)) false)
    → (0 < length new) × (begun (slice_get new 0) size ≡ loaded_from left count size)
put_more [] new before left count size items next within some one loaded is = absurd (omega arith)
put_more (slot ∷ slots) new before left count size items next within some one loaded is = (
  subst (λ (all : List Slot). 0 < length all) (sym is) (omega arith),
  ap (λ (all : List Slot). begun (slice_get all 0) size) is
      ∙ ap (λ (bytes : List (Option ℕ)). patched bytes (2 * left) (map (λ byte. Some byte) items)) loaded
      ∙ ap (λ (bytes : List ℕ). patched (loaded_from before count size) (2 * left) (map (λ byte. Some byte) bytes)) one
      ∙ one_more before left count size next within,
)
