use Rattle.std.proofs.Common.{◌≡◌, ◌≤◌, length, take}
use Rattle.cp_base.specs.declared.limits.TheConstants.{MAX_ITEMS}
use Rattle.trail_model.specs.Footprints.{writable_ranges}
use Rattle.footprints.proofs.regions.writable.Given as goal

-- those of the ranges so far, which are no more
abbrev pub invariant-loop-range : goal.invariant-loop-range
invariant-loop-range l = record {
  capacity : l.writable.capacity ≡ MAX_ITEMS;
  few : length l.writable.items ≤ l.range-index;
  ranges : l.writable.items ≡ writable_ranges (take l.range-index l.ranges);
}
