use Rattle.std.proofs.Common.{◌≡◌, ℕ, ◌<◌, ◌≤◌}
use Rattle.seat_lock.specs.Trails.{BeginsWith}
use Rattle.seat_lock.specs.Passes.{AreAllOf, lock_of, seats_in}
use Rattle.seat_lock.specs.Meeting.{HasLearned, view_at, seen_at}
use Rattle.seat_lock.proofs.types.SeatLock.tell_others.Given as goal

-- the parties up to this one have been told, and the others have seen no more than party 1
abbrev pub invariant-loop-party : goal.invariant-loop-party
invariant-loop-party g l =
    record {
      all : AreAllOf g.V.Trailed.party (lock_of g.V.Trailed.fixed l.self) l.passes;
      each : (n : ℕ) → HasLearned (view_at l.fn.passes n) (view_at l.passes n);
      met : (n : ℕ) → 1 ≤ n → n ≤ l.party → seen_at l.passes n ≡ seen_at l.fn.passes 1;
      less : (n : ℕ) → l.party < n → n ≤ seats_in l.passes → BeginsWith (seen_at l.passes 1) (seen_at l.passes n);
    }
