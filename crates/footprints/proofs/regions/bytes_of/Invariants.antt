use Rattle.std.proofs.Common.{◌≡◌, map, take}
use Rattle.cp_base.specs.Sharing.{range_region}
use Rattle.cp_base.specs.declared.limits.TheConstants.{MAX_ITEMS}
use Rattle.footprints.proofs.regions.bytes_of.Given as goal

-- the bytes of the ranges so far
abbrev pub invariant-loop-range : goal.invariant-loop-range
invariant-loop-range l = record {
  capacity : l.bytes.capacity ≡ MAX_ITEMS;
  bytes : l.bytes.items ≡ map range_region (take l.range-index l.ranges);
}
