use Rattle.std.proofs.Common.{◌≡◌, ℕ, ◌<◌, []}
use Rattle.seat_lock.specs.Passes.{lock_of, at_home, seats_in}
use Rattle.seat_lock.specs.Closing.{HasKept}
use Rattle.seat_lock.proofs.types.SeatLock.gather.Given as goal

abbrev pub invariant-loop-party : goal.invariant-loop-party
invariant-loop-party g l =
    record {
      table : l.seat.table_id ≡ (lock_of g.V.Trailed.fixed l.self).table;
      bare : l.seat.me.1 ≡ [];
      kept : HasKept (lock_of g.V.Trailed.fixed l.self) l.fn.passes l.party l.seat.me.0;
      rest : (n : ℕ) → l.party < n → at_home l.passes n ≡ at_home l.fn.passes n;
      seats : seats_in l.passes ≡ seats_in l.fn.passes;
    }
