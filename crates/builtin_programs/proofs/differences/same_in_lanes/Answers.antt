use Rattle.std.proofs.Common.{◌≡◌, ℕ, ◌%◌, ◌^◌, ◌==◌, not, Bool, List, length, map, zip, sym, ap, ◌∙◌, arith, w8}
use lib.Count.{count_trailing_zeros}
use lib.Lanes.{chunk, mask_l}
use Rattle.std.proofs.lemmas.List.{length-map}
use Rattle.std.proofs.lemmas.Simd.{length-chunk, leading_from_mask_l, mask_l-mod, tops_compared, trailing_mask_l}
use Rattle.builtin_programs.proofs.Lanes.{compared-pairs, first-common, length-pairs}
use Rattle.builtin_programs.proofs.differences.same_in_lanes.Goals as goal

-- whether two bytes differ
abbrev differ : ℕ × ℕ → Bool
differ pair = not (pair.0 == pair.1)

-- the bits of the lanes that differ, by the pairs of lanes
bits-pairs : (a b : List ℕ) → length (zip a b) ≡ 64 → mask_l (map (lib.Lanes.top 7) (lib.Lanes.zip2 (λ x y. mathlib.Core.Bool.cond (not (x == y)) 255 0) a b)) % 2 ^ 64 ≡ mask_l (map differ (zip a b))
bits-pairs a b e =
    ap (λ ms. mask_l ms % 2 ^ 64) (tops_compared w8 (λ x y. not (x == y)) a b ∙ compared-pairs (λ x y. not (x == y)) a b)
    ∙ mask_l-mod (map differ (zip a b)) 64 (omega (arith, e, length-map (zip a b) differ))

pub returns-then-differing-eq0 : goal.returns-then-differing-eq0
returns-then-differing-eq0 c =
    let a = chunk c.args.at 64 c.args.a.now in
    let b = chunk c.args.at 64 c.args.b.now in
    let la = length-chunk c.args.at 64 c.args.a.now c.requires.inside in
    let lb = length-chunk c.args.at 64 c.args.b.now (omega (arith, c.requires.inside, c.requires.equal_lengths)) in
    let pairs = length-pairs a b (la ∙ sym lb) ∙ la in
    sym (sym (first-common a b) ∙ leading_from_mask_l differ (zip a b) (sym (bits-pairs a b pairs) ∙ c.if-differing-eq0.true) ∙ pairs)

pub returns-else-differing-eq0 : goal.returns-else-differing-eq0
returns-else-differing-eq0 c =
    let a = chunk c.args.at 64 c.args.a.now in
    let b = chunk c.args.at 64 c.args.b.now in
    let la = length-chunk c.args.at 64 c.args.a.now c.requires.inside in
    let lb = length-chunk c.args.at 64 c.args.b.now (omega (arith, c.requires.inside, c.requires.equal_lengths)) in
    let pairs = length-pairs a b (la ∙ sym lb) ∙ la in
    let bits = bits-pairs a b pairs in
    ap (count_trailing_zeros 64) bits
    ∙ trailing_mask_l differ 64 (zip a b) (omega (arith, pairs)) (omega (arith, bits, c.if-differing-eq0.false))
    ∙ first-common a b
