use Rattle.std.proofs.Common.{◌≡◌, ◌*◌, ◌==◌, ◌≤◌, count_by, sum_by, take}
use Rattle.cp_base.specs.declared.limits.TheConstants.{MAX_NAMESPACE}
use Rattle.job_run.specs.Windows.{piece_bytes}
use Rattle.job_run.proofs.own.counted.Given as goal

-- the count so far
abbrev pub invariant-loop-piece : goal.invariant-loop-piece
invariant-loop-piece l =
    (l.number ≡ sum_by (λ window. count_by (λ byte. byte == l.value) window) (piece_bytes (take l.piece-index l.pieces))) × (l.number ≤ MAX_NAMESPACE * l.piece-index)
