use Rattle.std.proofs.Common.{◌≡◌, ◌^◌, ◌<◌, length, Some, sym, ap, ◌∙◌, subst}
use Rattle.seat_lock.specs.Passes.{LockName, IsPassOf, lock_of, at_home}
use Rattle.seat_lock.specs.Meeting.{seen_at}
use Rattle.seat_lock.proofs.MeetingLemmas.{back_home, view_is}
use Rattle.seat_lock.proofs.types.SeatLock.take_turn.Goals as goal

pub returns-clause-all : goal.returns-clause-all
returns-clause-all g c = let t = g.V.Trailed in let lock : LockName g.row.V-Fixed.Denot = lock_of t.fixed c.args.self.now in let lent = c.lend.ensures in
    back_home t.party lock c.args.passes.now c.lend.new.self c.give.new.self 1 c.leave.result c.requires lent.others lent.seats c.give.ensures.pass c.give.ensures.others c.give.ensures.seats (c.leave.ensures.party ∙ (c.enter-turn.ensures.turn.1 ∙ lent.party))
    (subst (λ (l : LockName g.row.V-Fixed.Denot). IsPassOf t.party l c.leave.result) c.enter-turn.ensures.turn.0 c.leave.ensures.pass)

pub returns-clause-trail : goal.returns-clause-trail
returns-clause-trail g c = let t = g.V.Trailed in let turn = c.enter-turn in
    let home : at_home c.give.new.self 1 ≡ Some c.leave.result = ap (at_home c.give.new.self) (sym (c.leave.ensures.party ∙ (turn.ensures.turn.1 ∙ c.lend.ensures.party))) ∙ c.give.ensures.pass in
    let seen : t.entries turn.result.value ≡ seen_at c.give.new.self 1 = sym c.leave.ensures.seen ∙ sym (ap (λ v. v.seen) (view_is c.give.new.self 1 c.leave.result home)) in
    record { value = turn.result.value; entries_are = seen; fixed_is = turn.ensures.fixed; short = subst (λ l. length l < 2 ^ 32) (sym turn.ensures.trail.0 ∙ seen) turn.ensures.trail.1 }
