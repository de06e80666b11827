use Rattle.std.proofs.Common.{◌≡◌, ◌*◌, ◌≤◌, sum, take}
use Rattle.cp_base.proofs.configuration.total.Given as goal

-- the sum so far, and how large it can be
abbrev pub invariant-loop-size : goal.invariant-loop-size
invariant-loop-size l = (l.total ≡ sum (take l.size-index l.sizes)) × (l.total ≤ 4294967295 * l.size-index)
