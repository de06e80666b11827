use Rattle.std.proofs.Common.{◌≡◌, ◌*◌, ◌^◌, ◌≤◌, sum, sum_by, take}
use Rattle.job_run.specs.Windows.{piece_bytes}
use Rattle.job_run.proofs.own.summed.Given as goal

-- the sum so far
abbrev pub invariant-loop-piece : goal.invariant-loop-piece
invariant-loop-piece l = (l.total ≡ sum_by sum (piece_bytes (take l.piece-index l.pieces))) × (l.total ≤ 2 ^ 32 * l.piece-index)
