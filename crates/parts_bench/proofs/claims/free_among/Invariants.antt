use Rattle.std.proofs.Common.{◌≡◌, take}
use Rattle.parts_bench.specs.Parts.{free_among}
use Rattle.parts_bench.proofs.claims.free_among.Given as goal

abbrev pub invariant-loop-footprint : goal.invariant-loop-footprint
invariant-loop-footprint l = l.free ≡ free_among l.claims.kept (take l.footprint-index l.asked)
