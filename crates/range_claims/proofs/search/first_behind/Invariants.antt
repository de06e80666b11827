use Rattle.std.proofs.Common.{ℕ, ◌+◌, ◌-◌, ◌<◌, ◌≤◌, length, get_or}
use Rattle.range_claims.specs.Steps.{binary_digits}
use Rattle.range_claims.specs.declared.segments.Segment.{Segment}
use Rattle.range_claims.proofs.search.first_behind.Given as goal

-- those below the low end end before the place or there, and those from the high end on behind it; what is left is
-- searched with a step for each of its digits
abbrev pub invariant-loop-low : goal.invariant-loop-low
invariant-loop-low g l = record {
  order : l.low ≤ l.high;
  within : l.high ≤ length l.segments.segments;
  ended : (k : ℕ) (d : Segment) → k < l.low → (get_or l.segments.segments k d).to ≤ l.place;
  behind : (k : ℕ) (d : Segment) → l.high ≤ k → k < length l.segments.segments → l.place < (get_or l.segments.segments k d).to;
  steps : l.steps + binary_digits (l.high - l.low) ≤ l.fn.steps + binary_digits (length l.segments.segments);
}

abbrev pub decreases-loop-low : goal.decreases-loop-low
decreases-loop-low g l = l.high - l.low
