use Rattle.std.proofs.Common.{◌≡◌, ◌*◌, ◌≤◌, take}
use Rattle.cp_base.specs.declared.limits.TheConstants.{MAX_NAMESPACE}
use Rattle.device_model.specs.Builtin.{total_of}
use Rattle.job_run.specs.Windows.{piece_bytes}
use Rattle.job_run.proofs.own.total.Given as goal

-- the total so far
abbrev pub invariant-loop-piece : goal.invariant-loop-piece
invariant-loop-piece l = (l.bytes ≡ total_of (piece_bytes (take l.piece-index l.pieces))) × (l.bytes ≤ MAX_NAMESPACE * l.piece-index)
