use Rattle.std.proofs.Common.{◌+◌, ◌≤◌, arith}
use Rattle.seat_lock.specs.Passes.{seats_in}
use Rattle.seat_lock.specs.Meeting.{view_at, seen_at}
use Rattle.seat_lock.proofs.MeetingLemmas.{Tells, tell_learns, learned_both, others_told, still_less}
use Rattle.seat_lock.proofs.types.SeatLock.tell_others.Goals as goal

pub loop-party-preserved : goal.loop-party-preserved
loop-party-preserved g c = let inv = c.loop-party.invariant in let ps = c.loop-party.passes in let qs = c.tell.new.passes in
    let t : Tells ps qs 1 (c.loop-party.party + 1) = record { others = c.tell.ensures.others; learned = c.tell.ensures.learned; own = c.tell.ensures.own; told = c.tell.ensures.told } in
    let within : c.loop-party.party + 1 ≤ seats_in ps = omega (arith, inv.all.seats, c.requires.all.seats, c.seats-party-end.ensures) in record {
      all = c.tell.ensures.all;
      each = λ n. learned_both g.V.Trailed.party (view_at c.args.passes.now n) (view_at ps n) (view_at qs n) (inv.each n) (tell_learns ps qs 1 (c.loop-party.party + 1) t n);
      met = others_told ps qs c.loop-party.party (seen_at c.args.passes.now 1) (omega arith) t (inv.less (c.loop-party.party + 1) (omega arith) within) inv.met;
      less = λ n more to. still_less ps qs c.loop-party.party n (omega arith) t more (inv.less n (omega arith) (omega (arith, inv.all.seats, c.tell.ensures.all.seats)));
    }
