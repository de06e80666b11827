use Rattle.std.proofs.Common.{drop, take}
use Rattle.job_run.specs.Held.{BeginsNowhere, BeginsOnce}
use Rattle.job_run.specs.Works.{piece_regions}
use Rattle.job_run.proofs.pieces.index_at.Given as goal

-- no piece so far begins there
abbrev pub invariant-loop-i : goal.invariant-loop-i
invariant-loop-i l = record {
  before : BeginsNowhere l.space l.start (take l.i (piece_regions l.pieces));
  later : BeginsOnce l.space l.start (drop l.i (piece_regions l.pieces));
}
