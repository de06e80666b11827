-- Extents of zeros.
use Rattle.std.proofs.Common.{◌≡◌, ℕ, zero, suc, ◌+◌, ◌<◌, List, [], ◌∷◌, ◌++◌, Option, Some, length, map, replicate, sym, refl, ap, ◌∙◌, subst, arith}
use Rattle.std.specs.BTreeMap.{insert_entry}
use Rattle.std.specs.Ordering.{nat_cmp}
use Rattle.std.proofs.lemmas.List.{append-nil, length-replicate, replicate-append-replicate}
use Rattle.cp_base.specs.Buffer.{Buffer}
use Rattle.extents.specs.declared.tiles.Extent.{Extent}
use Rattle.extents.specs.declared.tiles.Extent.TheVariants.{Home}
use Rattle.extents.specs.Tiles.{AreTiles, all_holes, all_shown}
use Rattle.extents.proofs.Tiling.{holes-append, insert_last, long, shown-append, tiles-append}

-- extents of so many zeros
pub record Zeros (es : List (ℕ × Extent)) (n : ℕ) : Type 0 where
  pub tiles : AreTiles 0 es
  pub shown : all_shown es ≡ replicate n (Some 0)
  pub holes : all_holes es ≡ []

map_zeros : (n : ℕ) → map {A = ℕ} {B = Option ℕ} (λ byte. Some byte) (replicate n 0) ≡ replicate n (Some 0)
map_zeros zero = refl
map_zeros (suc n) = ap (λ (xs : List (Option ℕ)). Some 0 ∷ xs) (map_zeros n)

pub more_zeros : (es new : List (ℕ × Extent)) (at len : ℕ) (b : Buffer) → Zeros es at → 0 < len → b.items ≡ replicate len 0 → new ≡ insert_entry nat_cmp es at (Home b) → Zeros new (at + len)
more_zeros es new at len b z some items made =
    let size : long es ≡ at = ap length z.shown ∙ length-replicate at (Some 0) in
    let entries : new ≡ es ++ (at, Home b) ∷ [] = made ∙ insert_last at (Home b) 0 es z.tiles (omega arith) in
    let positive : 0 < length b.items = (let z : ℕ = 0 in omega (arith, ap length items, length-replicate {A = ℕ} len 0)) in
    let place : at ≡ 0 + long es = omega arith in
    record {
      tiles = subst (AreTiles 0) (sym entries) (tiles-append 0 es ((at, Home b) ∷ []) z.tiles (place, positive, tt));
      shown = ap all_shown entries ∙ shown-append es ((at, Home b) ∷ [])
          ∙ ap (λ (xs : List (Option ℕ)). all_shown es ++ xs) (append-nil (map (λ byte. Some byte) b.items) ∙ ap (map (λ byte. Some byte)) items ∙ map_zeros len)
          ∙ ap (λ (xs : List (Option ℕ)). xs ++ replicate len (Some 0)) z.shown ∙ replicate-append-replicate at len (Some 0);
      holes = ap all_holes entries ∙ holes-append es ((at, Home b) ∷ []) ∙ ap (λ (hs : List (ℕ × ℕ)). hs ++ []) z.holes;
    }
