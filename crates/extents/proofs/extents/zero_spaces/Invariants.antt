use Rattle.std.proofs.Common.{◌≡◌, take}
use Rattle.extents.specs.Homes.{zero_spaces}
use Rattle.extents.proofs.extents.zero_spaces.Given as goal

-- the namespaces so far
abbrev pub invariant-loop-size : goal.invariant-loop-size
invariant-loop-size l = l.made.items ≡ zero_spaces l.unit (take l.size-index l.sizes)
