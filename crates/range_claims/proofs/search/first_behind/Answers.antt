-- Later segments end later, so each half is decided by the segment in the middle, and takes a step for the digit less.
use Rattle.std.proofs.Common.{◌≡◌, ℕ, ◌+◌, ◌-◌, ◌/◌, ◌<◌, ◌≤◌, length, get_or, nat_le, arith, ap, sym, ◌∙◌}
use Rattle.range_claims.specs.Steps.{binary_digits}
use Rattle.range_claims.specs.declared.segments.Segment.{Segment}
use Rattle.range_claims.proofs.Basics.{false_le, le_false, le_true, true_le}
use Rattle.range_claims.proofs.Probes.{half_digits, more_digits}
use Rattle.range_claims.proofs.Splits.{behind_from, ended_to, prefix_is}
use Rattle.range_claims.proofs.search.first_behind.Goals as goal

pub loop-low-init : goal.loop-low-init
loop-low-init g c =
    let all : c.count-high.result - 0 ≡ length c.args.segments.now.segments = omega (arith, c.count-high.ensures.value) in
    let digits = ap (λ (n : ℕ). binary_digits n) all in
    record {
      order = omega arith;
      within = omega (arith, c.count-high.ensures.value);
      ended = λ k d before. absurd (omega arith);
      behind = λ k d from below. absurd (omega (arith, c.count-high.ensures.value));
      steps = omega (arith, digits);
    }

pub loop-low-preserved-then-ends_by : goal.loop-low-preserved-then-ends_by
loop-low-preserved-then-ends_by g c =
    let low = c.loop-low.low in
    let high = c.loop-low.high in
    let middle = low + (high - low) / 2 in
    let items = c.args.segments.now.segments in
    let one = half_digits (high - low) (omega (arith, c.loop-low-test.true)) in
    let less = more_digits (high - (middle + 1)) ((high - low) / 2) (omega arith) in
    record {
      order = omega (arith, c.loop-low-test.true);
      within = c.loop-low.invariant.within;
      ended = λ k d before. ended_to c.args.place middle items d d k c.count-high.ensures.fewest.ascend (omega (arith, c.loop-low.invariant.within, c.loop-low-test.true))
          (le_true _ _ (sym (c.ends_by.ensures.value d) ∙ c.if-ends_by.true)) before;
      behind = c.loop-low.invariant.behind;
      steps = omega (arith, one, less, c.loop-low.invariant.steps, c.ends_by.ensures.steps);
    }

pub loop-low-preserved : goal.loop-low-preserved
loop-low-preserved g c =
    let low = c.loop-low.low in
    let high = c.loop-low.high in
    let middle = low + (high - low) / 2 in
    let items = c.args.segments.now.segments in
    let one = half_digits (high - low) (omega (arith, c.loop-low-test.true)) in
    let less = more_digits (middle - low) ((high - low) / 2) (omega arith) in
    record {
      order = omega arith;
      within = omega (arith, c.loop-low.invariant.within, c.loop-low-test.true);
      ended = c.loop-low.invariant.ended;
      behind = λ k d from below. behind_from c.args.place middle items d d k c.count-high.ensures.fewest.ascend below
          (le_false _ _ (sym (c.ends_by.ensures.value d) ∙ c.if-ends_by.false)) from;
      steps = omega (arith, one, less, c.loop-low.invariant.steps, c.ends_by.ensures.steps);
    }

pub returns-clause-value : goal.returns-clause-value
returns-clause-value g c =
    prefix_is (λ (s : Segment). nat_le s.to c.args.place) c.args.segments.now.segments c.loop-low.low (omega (arith, c.loop-low.invariant.order, c.loop-low.invariant.within))
    (λ k d below. true_le _ _ (c.loop-low.invariant.ended k d below))
    (λ d below. false_le _ _ (c.loop-low.invariant.behind c.loop-low.low d (omega (arith, c.loop-low-test.false)) below))
