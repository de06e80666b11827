use Rattle.std.proofs.Common.{◌≡◌}
use Rattle.parts_bench.specs.Parts.{claims_of}
use Rattle.parts_bench.proofs.claims.kept.Given as goal

abbrev pub invariant-loop-key : goal.invariant-loop-key
invariant-loop-key l = l.claims ≡ record { most = 32; kept = claims_of l.reads l.writes l.key }
