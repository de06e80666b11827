use Rattle.std.proofs.Common.{◌≡◌}
use Rattle.parts_bench.specs.Parts.{footprints_between}
use Rattle.parts_bench.proofs.claims.asked.Given as goal

abbrev pub invariant-loop-number : goal.invariant-loop-number
invariant-loop-number l = l.asked.items ≡ footprints_between l.writes l.number
