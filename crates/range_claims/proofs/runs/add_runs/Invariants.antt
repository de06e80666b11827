use Rattle.std.proofs.Common.{◌≡◌, ℕ, ◌+◌, take}
use Rattle.range_claims.specs.Counts.{ArePlaced, count_at, regions_at}
use Rattle.range_claims.specs.Segments.{AreMaximal}
use Rattle.range_claims.proofs.runs.add_runs.Given as goal

-- the runs so far are counted once more
abbrev pub invariant-loop-i : goal.invariant-loop-i
invariant-loop-i l = record {
  counts : (x : ℕ) → count_at l.segments.segments x ≡ count_at l.fn.segments.segments x + regions_at (take l.i l.runs) x;
  fewest : AreMaximal l.segments.segments;
  room : l.segments.room ≡ l.fn.segments.room;
  placed : ArePlaced (take l.i l.runs);
}
