use Rattle.std.proofs.Common.{◌≡◌, drop}
use Rattle.cp_base.specs.Region.{region_of}
use Rattle.trail_model.specs.Pieces.{carried, gathered}
use Rattle.job_run.specs.Held.{IsHeld}
use Rattle.job_run.specs.Works.{region_bytes}
use Rattle.job_run.proofs.pieces.bytes_at.Given as goal

-- the pieces so far have none of the bytes
abbrev pub invariant-loop-piece : goal.invariant-loop-piece
invariant-loop-piece l = record {
  held : IsHeld (drop l.piece-index (region_bytes l.pieces)) (region_of l.space l.start l.len);
  same : gathered (carried (region_bytes l.pieces)) l.space l.start l.len ≡ gathered (carried (drop l.piece-index (region_bytes l.pieces))) l.space l.start l.len;
}
