use Rattle.std.proofs.Common.{◌≡◌, ◌+◌, ◌*◌, ◌≤◌, false, take, length, List}
use Rattle.cp_base.specs.Region.{Region}
use Rattle.cp_base.specs.Touching.{share_byte}
use Rattle.range_claims.specs.Counts.{ArePlaced, IsCountOf}
use Rattle.range_claims.specs.Steps.{binary_digits}
use Rattle.range_claims.proofs.runs.counts_any.Given as goal

-- none of the runs so far has a counted byte, and each was searched for once
abbrev pub invariant-loop-i : goal.invariant-loop-i
invariant-loop-i g l = record {
  none : (regions : List Region) → IsCountOf regions l.segments.segments → ArePlaced regions → share_byte (take l.i l.runs) regions ≡ false;
  steps : l.steps ≤ l.fn.steps + l.i * (binary_digits (length l.segments.segments) + 1);
}
