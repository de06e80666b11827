-- Runs of extents at home.
use Rattle.std.proofs.Common.{◌≡◌, ℕ, ◌+◌, ◌-◌, ◌<◌, ◌≤◌, List, Option, Some, None, length, take, drop, map, get_or, sym, refl, ap, ◌∙◌, subst, ⊎_elim, arith}
use Rattle.std.specs.Option.{IsSome}
use Rattle.std.proofs.lemmas.Bool.{cases_lt}
use Rattle.std.proofs.lemmas.List.{take_all}
use Rattle.cp_base.specs.Buffer.{Buffer}
use Rattle.extents.specs.declared.tiles.Extent.{Extent}
use Rattle.extents.specs.declared.tiles.Extent.TheVariants.{Home}
use Rattle.extents.specs.Tiles.{AreBetween, AreHomeBytes, AreTiles, HasExtent, IsEdge, IsHomeByte, IsRecut, IsRun}
use Rattle.extents.proofs.Pieces.{piece_of}
use Rattle.extents.proofs.Tiling.{Stands, buffer_byte, byte_of, edge_end, edge_here, long, stands, stands_fits}

-- the bytes of a buffer are at home
home_in : (es : List (ℕ × Extent)) (s : ℕ) (b : Buffer) (k : ℕ) → Stands 0 es s (Home b) → s ≤ k → k < s + length b.items → IsHomeByte es k
home_in es s b k st low high = subst IsSome (sym (byte_of es s (Home b) k st low high ∙ buffer_byte b.items (k - s) (omega arith))) refl

pub run_none : (es : List (ℕ × Extent)) (at : ℕ) → IsRun es at at
run_none es at = record { order = omega arith; home = λ k low high. absurd (omega arith); edges = λ h. absurd (omega arith) }

pub run_more : (es : List (ℕ × Extent)) (at end : ℕ) (b : Buffer) → AreTiles 0 es → IsRun es at end → HasExtent es end (Home b) → IsRun es at (end + length b.items)
run_more es at end b tiles run here =
    let st = stands 0 es end (Home b) tiles here in
    record {
      order = omega (arith, run.order);
      home = λ k low high. ⊎_elim (λ (before : k < end). run.home k low before) (λ (behind : end ≤ k). home_in es end b k st behind high) (cases_lt k end);
      edges = λ h. (
        ⊎_elim (λ (some : at < end). (run.edges some).0) (λ (none : end ≤ at). edge_here es end at (Home b) st (omega (arith, run.order))) (cases_lt at end),
        edge_end es end (end + length b.items) (Home b) st refl,
      );
    }

pub run_less : (es : List (ℕ × Extent)) (start at before : ℕ) (b : Buffer) → AreTiles 0 es → IsRun es start at → HasExtent es before (Home b) → before + length b.items ≡ start → IsRun es before at
run_less es start at before b tiles run here ends =
    let st = stands 0 es before (Home b) tiles here in
    record {
      order = omega (arith, run.order);
      home = λ k low high. ⊎_elim (λ (inside : k < start). home_in es before b k st low (omega arith)) (λ (behind : start ≤ k). run.home k behind high) (cases_lt k start);
      edges = λ h. (
        edge_here es before before (Home b) st refl,
        ⊎_elim (λ (some : start < at). (run.edges some).1) (λ (none : at ≤ start). edge_end es before at (Home b) st (omega (arith, run.order))) (cases_lt start at),
      );
    }

pub run_both : (es : List (ℕ × Extent)) (from at to : ℕ) → IsRun es from at → IsRun es at to → IsRun es from to
run_both es from at to left right = record {
  order = omega (arith, left.order, right.order);
  home = λ k low high. ⊎_elim (λ (before : k < at). left.home k low before) (λ (behind : at ≤ k). right.home k behind high) (cases_lt k at);
  edges = λ h. (
    ⊎_elim (λ (some : from < at). (left.edges some).0)
        (λ (none : at ≤ from). let e : at ≡ from = omega (arith, left.order) in subst (IsEdge es) e (right.edges (omega arith)).0) (cases_lt from at),
    ⊎_elim (λ (some : at < to). (right.edges some).1)
        (λ (none : to ≤ at). let e : at ≡ to = omega (arith, right.order) in subst (IsEdge es) e (left.edges (omega arith)).1) (cases_lt at to),
  );
}

-- how far the extent at a place reaches
pub reaches : (es : List (ℕ × Extent)) (s : ℕ) (b : Buffer) → AreTiles 0 es → HasExtent es s (Home b) → (0 < length b.items) × (s + length b.items ≤ long es)
reaches es s b tiles here = let st = stands 0 es s (Home b) tiles here in (st.some, stands_fits es s (Home b) st)

-- the bytes of one extent
pub whole_between : (es : List (ℕ × Extent)) (from to : ℕ) (b : Buffer) → Stands 0 es from (Home b) → length b.items ≡ to - from → from ≤ to → AreBetween es from to b.items
whole_between es from to b st size order =
    let none : from - from ≡ 0 = omega arith in
    sym (piece_of es from b from (to - from) st (omega arith) (omega arith)
    ∙ ap (λ (k : ℕ). map (λ byte. Some byte) (take (to - from) (drop k b.items))) none ∙ ap (map (λ byte. Some byte)) (take_all (to - from) b.items (omega arith)))

-- ---- extents that are cut otherwise

pub recut_then : (a b c : List (ℕ × Extent)) → IsRecut a b → IsRecut b c → IsRecut a c
recut_then a b c p q = record { tiles = q.tiles; shown = q.shown ∙ p.shown; holes = q.holes ∙ p.holes }

pub home_kept : (a b : List (ℕ × Extent)) (from to : ℕ) → IsRecut a b → AreHomeBytes a from to → AreHomeBytes b from to
home_kept a b from to p home k low high = subst (λ (xs : List (Option ℕ)). IsSome (get_or xs k None)) (sym p.shown) (home k low high)

pub long_kept : (a b : List (ℕ × Extent)) → IsRecut a b → long b ≡ long a
long_kept a b p = ap length p.shown
