-- The limits of a list's elements, in the code's words.
use Rattle.std.proofs.Common.{◌≡◌, ℕ, zero, suc, ◌<◌, Bool, true, false, ◌&&◌, List, [], ◌∷◌, map, leb, length, get_or, ◌≤◌, arith, refl, ◌∙◌, sym}
use Rattle.std.specs.List.{list_all}
use Rattle.std.proofs.lemmas.Bool.{le-leb, leb-true}
use Rattle.std.proofs.lemmas.List.{length-map}
use Rattle.std.proofs.lemmas.List.Folds.{list_all-map}
use Rattle.cp_base.specs.declared.limits.TheConstants.{MAX_ITEMS}
use Rattle.cp_base.specs.declared.lists.CopySource.{CopySource}
use Rattle.cp_base.specs.declared.lists.MemRange.{MemRange}
use Rattle.script_line.specs.declared.field.RangeText.{RangeText}
use Rattle.script_line.specs.declared.field.SourceText.{SourceText}
use Rattle.script_line.specs.declared.limits.TheConstants.{MAX_32}
use Rattle.script_line.specs.Fits.{ranges_fit, source_space, sources_fit}
use Rattle.script_line.specs.Values.{range_view, source_view}

few : {A B : Type 0} (f : A → B) (xs : List A) (test : B → Bool) (r : Bool) → length xs ≤ MAX_ITEMS → r ≡ list_all (λ x. test (f x)) xs → r ≡ (leb (length (map f xs)) MAX_ITEMS && list_all test (map f xs))
few f xs test r le e =
    let small : leb (length (map f xs)) MAX_ITEMS ≡ true = le-leb _ _ (omega (arith, length-map xs f)) in
    rw small (e ∙ sym (list_all-map test f xs))

pub sources_are : (xs : List SourceText) (r : Bool) → length xs ≤ MAX_ITEMS → r ≡ list_all (λ (s : SourceText). leb (source_space (source_view s)) MAX_32) xs → r ≡ sources_fit (map source_view xs)
sources_are xs r le e = few source_view xs (λ (s : CopySource). leb (source_space s) MAX_32) r le e

pub ranges_are : (xs : List RangeText) (r : Bool) → length xs ≤ MAX_ITEMS → r ≡ list_all (λ (t : RangeText). leb t.triple.ns MAX_32) xs → r ≡ ranges_fit (map range_view xs)
ranges_are xs r le e = few range_view xs (λ (s : MemRange). leb s.ns MAX_32) r le e

both_true : (a b : Bool) → (a && b) ≡ true → (a ≡ true) × (b ≡ true)
both_true true b e = (refl, e)
both_true false b e = absurd cc

small_at : {A : Type 0} (f : A → ℕ) (xs : List A) (i most : ℕ) (d : A) → list_all (λ x. leb (f x) most) xs ≡ true → i < length xs → f (get_or xs i d) ≤ most
small_at f [] i most d all lt = absurd (omega arith)
small_at f (x ∷ xs) zero most d all lt = leb-true (f x) most (both_true (leb (f x) most) (list_all (λ y. leb (f y) most) xs) all).0
small_at f (x ∷ xs) (suc i) most d all lt = small_at f xs i most d (both_true (leb (f x) most) (list_all (λ y. leb (f y) most) xs) all).1 (omega arith)

-- a source of a list that fits has a namespace with a number of 32 bits
pub source_small : (xs : List SourceText) (i : ℕ) (d : SourceText) → sources_fit (map source_view xs) ≡ true → i < length xs → source_space (source_view (get_or xs i d)) ≤ MAX_32
source_small xs i d fits lt =
    let all = (both_true (leb (length (map source_view xs)) MAX_ITEMS) (list_all (λ (s : CopySource). leb (source_space s) MAX_32) (map source_view xs)) fits).1 in
    small_at (λ (s : SourceText). source_space (source_view s)) xs i MAX_32 d (sym (list_all-map (λ (s : CopySource). leb (source_space s) MAX_32) source_view xs) ∙ all) lt

pub range_small : (xs : List RangeText) (i : ℕ) (d : RangeText) → ranges_fit (map range_view xs) ≡ true → i < length xs → (get_or xs i d).triple.ns ≤ MAX_32
range_small xs i d fits lt =
    let all = (both_true (leb (length (map range_view xs)) MAX_ITEMS) (list_all (λ (s : MemRange). leb s.ns MAX_32) (map range_view xs)) fits).1 in
    small_at (λ (s : RangeText). s.triple.ns) xs i MAX_32 d (sym (list_all-map (λ (s : MemRange). leb s.ns MAX_32) range_view xs) ∙ all) lt

-- a list that fits has at most 16 elements
pub few_sources : (xs : List SourceText) → sources_fit (map source_view xs) ≡ true → length xs ≤ MAX_ITEMS
few_sources xs fits =
    let p = leb-true _ _ (both_true (leb (length (map source_view xs)) MAX_ITEMS) (list_all (λ (s : CopySource). leb (source_space s) MAX_32) (map source_view xs)) fits).0 in
    omega (arith, length-map xs source_view)

pub few_ranges : (xs : List RangeText) → ranges_fit (map range_view xs) ≡ true → length xs ≤ MAX_ITEMS
few_ranges xs fits =
    let p = leb-true _ _ (both_true (leb (length (map range_view xs)) MAX_ITEMS) (list_all (λ (s : MemRange). leb s.ns MAX_32) (map range_view xs)) fits).0 in
    omega (arith, length-map xs range_view)
