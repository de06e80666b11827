use Rattle.std.proofs.Common.{◌≡◌}
use Rattle.seat_lock.specs.Trails.{BeginsWith}
use Rattle.seat_lock.specs.Passes.{IsPassOf, lock_of, party_of, seen_by, made_by, lost_by}
use Rattle.seat_lock.proofs.types.SeatLock.enter.Given as goal

-- the pass is as it came, but for the tries that were lost
abbrev pub invariant-loop : goal.invariant-loop
invariant-loop g l =
    record {
      pass : IsPassOf g.V.Trailed.party (lock_of g.V.Trailed.fixed l.self) l.pass;
      party : party_of l.pass ≡ party_of l.initial.pass;
      seen : seen_by l.pass ≡ seen_by l.initial.pass;
      made : made_by l.pass ≡ made_by l.initial.pass;
      lost : BeginsWith (lost_by l.pass) (lost_by l.initial.pass);
    }
