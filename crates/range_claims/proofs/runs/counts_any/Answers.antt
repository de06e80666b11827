-- A run has a counted byte exactly where it shares one with a region that is counted.
use Rattle.std.proofs.Common.{◌≡◌, ℕ, suc, ◌+◌, ◌*◌, ◌<◌, ◌≤◌, true, false, List, length, take, get_or, sym, ap, subst, ◌∙◌, arith}
use Rattle.std.proofs.Math.Nat.{mul-le-mul_right}
use Rattle.cp_base.specs.Region.{Region}
use Rattle.cp_base.specs.Sharing.{meets_any}
use Rattle.cp_base.specs.Touching.{share_byte}
use Rattle.range_claims.specs.Counts.{ArePlaced, IsCountOf}
use Rattle.range_claims.specs.Steps.{binary_digits}
use Rattle.range_claims.proofs.Probes.{one_cost_more}
use Rattle.range_claims.proofs.Sharings.{any_at, any_more, between_meets}
use Rattle.range_claims.proofs.runs.counts_any.Goals as goal

pub returns-then-counts_range-clause-value : goal.returns-then-counts_range-clause-value
returns-then-counts_range-clause-value g c = λ regions count placed.
    let run = c.index-as_slice-i.result in
    let is : run ≡ get_or c.args.runs.now c.loop-i.i run = c.index-as_slice-i.is ∙ ap (λ (runs : List Region). get_or runs c.loop-i.i run) c.as_slice.ensures in
    let below : c.loop-i.i < length c.args.runs.now = omega (arith, c.loop-i-test.true, c.count-count.ensures.value) in
    let meets = between_meets c.args.segments.now.segments regions run count placed c.counts_range.ensures.placed in
    sym (any_at (meets_any regions) c.args.runs.now c.loop-i.i run below is (sym meets ∙ sym c.counts_range.ensures.value ∙ c.if-counts_range.true))

pub returns-then-counts_range-clause-steps : goal.returns-then-counts_range-clause-steps
returns-then-counts_range-clause-steps g c =
    let cost = binary_digits (length c.args.segments.now.segments) + 1 in
    let more = one_cost_more c.loop-i.i cost in
    let below : c.loop-i.i + 1 ≤ length c.args.runs.now = omega (arith, c.loop-i-test.true, c.count-count.ensures.value) in
    let most = mul-le-mul_right cost below in
    omega (arith, more, most, c.loop-i.invariant.steps, c.counts_range.ensures.steps)

pub loop-i-preserved : goal.loop-i-preserved
loop-i-preserved g c =
    let run = c.index-as_slice-i.result in
    let is : run ≡ get_or c.args.runs.now c.loop-i.i run = c.index-as_slice-i.is ∙ ap (λ (runs : List Region). get_or runs c.loop-i.i run) c.as_slice.ensures in
    let below : c.loop-i.i < length c.args.runs.now = omega (arith, c.loop-i-test.true, c.count-count.ensures.value) in
    let one : c.loop-i.i + 1 ≡ suc c.loop-i.i = omega arith in
    let cost = binary_digits (length c.args.segments.now.segments) + 1 in
    let more = one_cost_more c.loop-i.i cost in
    record {
      none = λ regions count placed.
          let meets = between_meets c.args.segments.now.segments regions run count placed c.counts_range.ensures.placed in
          ap (λ (n : ℕ). share_byte (take n c.args.runs.now) regions) one
          ∙ any_more (meets_any regions) c.args.runs.now c.loop-i.i run below is (c.loop-i.invariant.none regions count placed) (sym meets ∙ sym c.counts_range.ensures.value ∙ c.if-counts_range.false);
      steps = omega (arith, more, c.loop-i.invariant.steps, c.counts_range.ensures.steps);
    }
