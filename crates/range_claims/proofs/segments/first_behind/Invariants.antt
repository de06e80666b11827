use Rattle.std.proofs.Common.{ℕ, ◌-◌, ◌<◌, ◌≤◌, length, get_or}
use Rattle.range_claims.specs.declared.segments.Segment.{Segment}
use Rattle.range_claims.proofs.segments.first_behind.Given as goal

-- those below the low end end before the place or there, and those from the high end on behind it
abbrev pub invariant-loop-low : goal.invariant-loop-low
invariant-loop-low l = record {
  order : l.low ≤ l.high;
  within : l.high ≤ length l.list;
  ended : (k : ℕ) (d : Segment) → k < l.low → (get_or l.list k d).to ≤ l.place;
  behind : (k : ℕ) (d : Segment) → l.high ≤ k → k < length l.list → l.place < (get_or l.list k d).to;
}

abbrev pub decreases-loop-low : goal.decreases-loop-low
decreases-loop-low l = l.high - l.low
