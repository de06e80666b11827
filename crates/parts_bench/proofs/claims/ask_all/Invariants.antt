use Rattle.std.proofs.Common.{◌≡◌, ◌*◌, ◌≤◌}
use Rattle.parts_bench.specs.Parts.{free_among}
use Rattle.parts_bench.proofs.claims.ask_all.Given as goal

abbrev pub invariant-loop : goal.invariant-loop
invariant-loop l = record {
  free : l.free ≡ l.counter * free_among l.claims.kept l.asked;
  few : l.free ≤ 32 * l.counter;
}
