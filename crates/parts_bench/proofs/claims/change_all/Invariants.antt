use Rattle.std.proofs.Common.{◌≡◌, ◌*◌, ◌≤◌}
use Rattle.range_claims.specs.Steps.{ranges_touched}
use Rattle.parts_bench.proofs.claims.change_all.Given as goal

abbrev pub invariant-loop : goal.invariant-loop
invariant-loop l = record {
  claims : l.claims ≡ l.initial.claims;
  footprint : l.footprint ≡ l.initial.footprint;
  ranges : l.ranges ≡ l.counter * ranges_touched l.initial.footprint;
  few : l.ranges ≤ 40 * l.counter;
}
