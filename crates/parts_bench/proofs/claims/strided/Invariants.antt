use Rattle.std.proofs.Common.{◌≡◌}
use Rattle.parts_bench.specs.Parts.{strided}
use Rattle.parts_bench.proofs.claims.strided.Given as goal

abbrev pub invariant-loop-number : goal.invariant-loop-number
invariant-loop-number l = l.ranges.items ≡ strided l.first l.number
