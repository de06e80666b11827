use Rattle.std.proofs.Common.{◌≡◌, ◌*◌, ◌≤◌}
use Rattle.cp_base.specs.declared.limits.TheConstants.{MAX_NAMESPACE}
use Rattle.parts_bench.specs.Parts.{AreHome, range_len}
use Rattle.parts_bench.proofs.exchanges.repeated.Given as goal

abbrev pub invariant-loop-round : goal.invariant-loop-round
invariant-loop-round l = record {
  home : AreHome l.extents MAX_NAMESPACE;
  moved : l.moved ≡ l.round * range_len l.places;
  few : l.moved ≤ 4096 * l.round;
}
