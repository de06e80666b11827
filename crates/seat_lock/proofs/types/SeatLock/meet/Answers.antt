use Rattle.std.proofs.Common.{sym, subst, arith}
use Rattle.seat_lock.specs.Passes.{IsTrailOf, lock_of}
use Rattle.seat_lock.specs.Meeting.{seen_at}
use Rattle.seat_lock.proofs.MeetingLemmas.{first_begins, have_met, home_seen}
use Rattle.seat_lock.proofs.types.SeatLock.meet.Goals as goal

pub tell_others-requires-clause-seen : goal.tell_others-requires-clause-seen
tell_others-requires-clause-seen g c n some to = first_begins g.V.Trailed.party c.tell_first.new.passes c.take_turn.new.passes n c.take_turn.ensures.first (c.take_turn.ensures.others n) (c.tell_first.ensures.seen n some (omega (arith, c.tell_first.ensures.all.seats, c.take_turn.ensures.all.seats)))

pub returns-clause-met : goal.returns-clause-met
returns-clause-met g c = have_met c.tell_others.new.passes (seen_at c.take_turn.new.passes 1) c.tell_others.ensures.met

pub returns-clause-trail : goal.returns-clause-trail
returns-clause-trail g c n p here = let t = g.V.Trailed in
    subst (IsTrailOf t.entries t.fixed (lock_of t.fixed c.args.self.now)) (sym (home_seen c.tell_others.new.passes (seen_at c.take_turn.new.passes 1) c.tell_others.ensures.met n p here)) c.take_turn.ensures.trail
