use Rattle.std.proofs.Common.{◌≡◌, ◌≤◌, ◌++◌, drop, map}
use Rattle.std.specs.List.{AllByRecursion}
use Rattle.cp_base.specs.Checks.{total_len}
use Rattle.cp_base.specs.Configuration.{bare}
use Rattle.cp_base.specs.Sharing.{source_region}
use Rattle.trail_model.specs.Pieces.{carried, gathered_joined}
use Rattle.job_run.specs.Held.{IsSource}
use Rattle.job_run.specs.Works.{region_bytes}
use Rattle.job_run.proofs.copies.gather.Given as goal

-- with the bytes of the sources that are left it is what is to be made
abbrev pub invariant-loop-source : goal.invariant-loop-source
invariant-loop-source l = record {
  held : AllByRecursion (λ source. IsSource (region_bytes l.pieces) (source_region (bare l.block 1 1) source)) (drop l.source-index l.from);
  room : total_len (map (source_region (bare l.block 1 1)) (drop l.source-index l.from)) ≤ l.made.spare;
  made : l.made.items ++ gathered_joined (carried (region_bytes l.pieces)) (map (source_region (bare l.block 1 1)) (drop l.source-index l.from))
      ≡ l.initial.made.items ++ gathered_joined (carried (region_bytes l.pieces)) (map (source_region (bare l.block 1 1)) l.from);
}
