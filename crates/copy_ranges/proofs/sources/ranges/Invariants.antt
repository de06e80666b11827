use Rattle.std.proofs.Common.{◌≡◌, false, map, take}
use Rattle.std.specs.List.{list_any}
use Rattle.cp_base.specs.Sharing.{is_outside, source_region}
use Rattle.cp_base.specs.declared.limits.TheConstants.{MAX_ITEMS}
use Rattle.copy_ranges.proofs.sources.ranges.Given as goal

-- the ranges of the sources so far, which lie in their namespaces
abbrev pub invariant-loop-source : goal.invariant-loop-source
invariant-loop-source l = record {
  capacity : l.ranges.capacity ≡ MAX_ITEMS;
  ranges : l.ranges.items ≡ map (source_region l.config) (take l.source-index l.sources);
  inside : list_any (is_outside l.config) (map (source_region l.config) (take l.source-index l.sources)) ≡ false;
}
