use Rattle.std.proofs.Common.{◌≡◌, ℕ, ◌%◌, ◌^◌, nat_le, List, replicate, length, map, ap, ◌∙◌, arith, w8, eqb}
use lib.Count.{ones}
use lib.Lanes.{chunk, put_chunk, sel_l, zip2}
use Rattle.std.proofs.lemmas.List.{length-map}
use Rattle.std.proofs.lemmas.Simd.{bitmask_splat, length-chunk, ones-mask_l, tops_compared, zip2_splat, zip2_splat_left}
use Rattle.device_model.specs.Builtin.{marks_of}
use Rattle.builtin_programs.proofs.Lanes.{chosen-marks, count-marks}
use Rattle.builtin_programs.proofs.classes.mark_in_lanes.Goals as goal

-- the lanes as they are chosen
lanes : (low high : ℕ) (v : List ℕ) → length v ≡ 64
    → sel_l (map (lib.Lanes.top 7) (zip2 (λ x y. mathlib.Core.Bool.cond (nat_le x y) 255 0) v (replicate 64 high)))
    (sel_l (map (lib.Lanes.top 7) (zip2 (λ x y. mathlib.Core.Bool.cond (nat_le x y) 255 0) (replicate 64 low) v)) (replicate 64 1) (replicate 64 0)) (replicate 64 0)
    ≡ marks_of low high v
lanes low high v long =
    let below = tops_compared w8 nat_le v (replicate 64 high) ∙ zip2_splat nat_le v 64 high long in
    let above = tops_compared w8 nat_le (replicate 64 low) v ∙ zip2_splat_left nat_le low 64 v long in
    (λ i. sel_l (below i) (sel_l (above i) (replicate 64 1) (replicate 64 0)) (replicate 64 0)) ∙ chosen-marks low high 64 v long

pub returns-clause-marks : goal.returns-clause-marks
returns-clause-marks c =
    let v : List ℕ = chunk c.args.at 64 c.args.from.now in
    let long = length-chunk c.args.at 64 c.args.from.now c.requires.source in
    ap (λ (ys : List ℕ). put_chunk c.args.at c.args.into.now ys) (lanes c.args.low c.args.high v long)

pub returns-clause-number : goal.returns-clause-number
returns-clause-number c =
    let v : List ℕ = chunk c.args.at 64 c.args.from.now in
    let long = length-chunk c.args.at 64 c.args.from.now c.requires.source in
    let marks : List ℕ = marks_of c.args.low c.args.high v in
    let same = lanes c.args.low c.args.high v long in
    ap (λ (ys : List ℕ). ones (lib.Lanes.mask_l (map (lib.Lanes.top 7) (zip2 (λ x y. mathlib.Core.Bool.cond (eqb x y) 255 0) ys (replicate 64 1))) % 2 ^ 64)) same
    ∙ ap ones (bitmask_splat w8 eqb marks 64 1 (length-map v _ ∙ long) (omega arith))
    ∙ ones-mask_l (λ x. eqb x 1) marks
    ∙ count-marks c.args.low c.args.high v
