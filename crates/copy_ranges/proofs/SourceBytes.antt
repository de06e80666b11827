-- Sources of a copy that all have bytes.
use Rattle.std.proofs.Common.{◌≡◌, ℕ, zero, suc, ◌<◌, ◌==◌, List, [], ◌∷◌, length, map, get_or, Bool, true, false, ◌||◌, refl, arith}
use Rattle.std.specs.List.{list_any}
use Rattle.std.proofs.lemmas.Bool.Decides.{nat_tests}
use Rattle.std.proofs.lemmas.List.Sums.{sum_by_more_le}
use Rattle.cp_base.specs.Checks.{any_without_bytes, total_len}
use Rattle.cp_base.specs.Configuration.{Configuration}
use Rattle.cp_base.specs.Region.{Region}
use Rattle.cp_base.specs.Sharing.{is_outside, source_region}
use Rattle.cp_base.specs.declared.lists.CopySource.{CopySource}
use Rattle.cp_base.proofs.Sharing.{both_false}

-- one of them has bytes
pub has_bytes : (c : Configuration) (sources : List CopySource) (i : ℕ) (d : CopySource)
    → any_without_bytes (map (source_region c) sources) ≡ false → i < length sources → 0 < (source_region c (get_or sources i d)).len
has_bytes c [] i d h below = absurd (omega arith)
has_bytes c (source ∷ sources) zero d h below =
    let first = (both_false ((source_region c source).len == 0) (any_without_bytes (map (source_region c) sources)) h).0 in
    grind (arith, nat_tests)
has_bytes c (source ∷ sources) (suc i) d h below =
    has_bytes c sources i d (both_false ((source_region c source).len == 0) (any_without_bytes (map (source_region c) sources)) h).1 (omega arith)

-- together they have bytes
pub total_positive : (c : Configuration) (sources : List CopySource)
    → any_without_bytes (map (source_region c) sources) ≡ false → 0 < length sources → 0 < total_len (map (source_region c) sources)
total_positive c [] h some = absurd (omega arith)
total_positive c (source ∷ sources) h some =
    let first = has_bytes c (source ∷ sources) 0 source h some in
    let part = sum_by_more_le (λ (region : Region). region.len) (map (source_region c) (source ∷ sources)) 0 (source_region c source) (omega arith) in
    omega arith

-- where one of them lies outside, some do
pub any_outside : (c : Configuration) (sources : List CopySource) (i : ℕ) (d : CopySource) → i < length sources
    → is_outside c (source_region c (get_or sources i d)) ≡ true → list_any (is_outside c) (map (source_region c) sources) ≡ true
any_outside c [] i d below h = absurd (omega arith)
any_outside c (source ∷ sources) zero d below h = rw h refl
any_outside c (source ∷ sources) (suc i) d below h =
    or_true (is_outside c (source_region c source)) (list_any (is_outside c) (map (source_region c) sources)) (any_outside c sources i d (omega arith) h)
  where
    or_true : (a b : Bool) → b ≡ true → (a || b) ≡ true
    or_true true b e = refl
    or_true false b e = e
