-- Later segments end later, so each half is decided by the segment in the middle.
use Rattle.std.proofs.Common.{ℕ, ◌+◌, ◌-◌, ◌/◌, ◌<◌, ◌≤◌, length, get_or, nat_le, arith}
use Rattle.range_claims.specs.declared.segments.Segment.{Segment}
use Rattle.range_claims.proofs.Basics.{false_le, true_le}
use Rattle.range_claims.proofs.Splits.{behind_from, ended_to, prefix_is}
use Rattle.range_claims.proofs.segments.first_behind.Goals as goal

pub loop-low-preserved-then-list-middle : goal.loop-low-preserved-then-list-middle
loop-low-preserved-then-list-middle c = record {
  order = omega arith;
  within = c.loop-low.invariant.within;
  ended = λ k d before. ended_to c.args.place (c.loop-low.low + (c.loop-low.high - c.loop-low.low) / 2) c.args.list.now d _ k c.requires (omega (arith, c.loop-low.invariant.within)) c.if-list-middle.true before;
  behind = c.loop-low.invariant.behind;
}

pub loop-low-preserved : goal.loop-low-preserved
loop-low-preserved c = record {
  order = omega arith;
  within = omega (arith, c.loop-low.invariant.within);
  ended = c.loop-low.invariant.ended;
  behind = λ k d from below. behind_from c.args.place (c.loop-low.low + (c.loop-low.high - c.loop-low.low) / 2) c.args.list.now d _ k c.requires below c.if-list-middle.false from;
}

pub returns-clause-value : goal.returns-clause-value
returns-clause-value c =
    prefix_is (λ (s : Segment). nat_le s.to c.args.place) c.args.list.now c.loop-low.low (omega (arith, c.loop-low.invariant.order, c.loop-low.invariant.within))
    (λ k d below. true_le _ _ (c.loop-low.invariant.ended k d below))
    (λ d below. false_le _ _ (c.loop-low.invariant.behind c.loop-low.low d (omega arith) below))
