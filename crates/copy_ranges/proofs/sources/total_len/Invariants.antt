use Rattle.std.proofs.Common.{◌≡◌, ◌*◌, ◌^◌, ◌≤◌, map, take}
use Rattle.cp_base.specs.Checks.{total_len}
use Rattle.cp_base.specs.Sharing.{source_region}
use Rattle.copy_ranges.proofs.sources.total_len.Given as goal

-- the bytes so far, and how many they can be
abbrev pub invariant-loop-source : goal.invariant-loop-source
invariant-loop-source l = record {
  value : l.total ≡ total_len (map (source_region l.config) (take l.source-index l.sources));
  bounded : l.total ≤ 2 ^ 96 * l.source-index;
}
