use Rattle.std.proofs.Common.{ℕ, ◌≤◌}
use Rattle.seat_lock.specs.Trails.{BeginsWith}
use Rattle.seat_lock.specs.Passes.{AreAllOf, lock_of}
use Rattle.seat_lock.specs.Meeting.{HasLearned, view_at, seen_at}
use Rattle.seat_lock.proofs.types.SeatLock.tell_first.Given as goal

-- party 1 has been told by the parties up to this one
abbrev pub invariant-loop-party : goal.invariant-loop-party
invariant-loop-party g l =
    record {
      all : AreAllOf g.V.Trailed.party (lock_of g.V.Trailed.fixed l.self) l.passes;
      each : (n : ℕ) → HasLearned (view_at l.fn.passes n) (view_at l.passes n);
      told : (n : ℕ) → 1 ≤ n → n ≤ l.party → BeginsWith (seen_at l.passes 1) (seen_at l.passes n);
    }
