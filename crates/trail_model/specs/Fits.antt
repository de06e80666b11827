-- States that fit a configuration: every state of a device does. This project's own.
use Rattle.std.specs.Prelude.{◌≡◌, ◌<◌, false, length, map, unwrap_or}
use Rattle.std.specs.List.{AllByRecursion, list_any}
use Rattle.cp_base.specs.Checks.{any_without_bytes}
use Rattle.cp_base.specs.Configuration.{Configuration, size_of}
use Rattle.cp_base.specs.Contents.{bytes_of}
use Rattle.cp_base.specs.Sets.{RangeSet}
use Rattle.cp_base.specs.Sharing.{any_overlap, is_outside, range_region}
use Rattle.cp_base.specs.declared.region.SpaceId.{SpaceId}
use Rattle.device_model.specs.State.{State}

-- a set whose number is not 0, and whose ranges lie inside their namespaces, are not empty and share no byte
pub record SetFits (c : Configuration) (set : RangeSet) : Type 0 where
  pub number : 0 < set.number
  pub inside : list_any (is_outside c) (map range_region set.ranges) ≡ false
  pub some : any_without_bytes (map range_region set.ranges) ≡ false
  pub apart : any_overlap (map range_region set.ranges) ≡ false

-- each namespace has its size, and each set fits
pub record StateFits (c : Configuration) (s : State) : Type 0 where
  pub sizes : (space : SpaceId) → length (bytes_of s.contents space) ≡ unwrap_or (size_of c space) 0
  pub sets : AllByRecursion (SetFits c) s.sets
