use Rattle.std.proofs.Common.{◌+◌}
use Rattle.seat_lock.specs.Meeting.{view_at}
use Rattle.seat_lock.proofs.MeetingLemmas.{Tells, tell_learns, learned_both, first_told}
use Rattle.seat_lock.proofs.types.SeatLock.tell_first.Goals as goal

pub loop-party-preserved : goal.loop-party-preserved
loop-party-preserved g c = let P = g.V.Trailed.party in let inv = c.loop-party.invariant in let ps = c.loop-party.passes in let qs = c.tell.new.passes in
    let t : Tells ps qs (c.loop-party.party + 1) 1 = record { others = c.tell.ensures.others; learned = c.tell.ensures.learned; own = c.tell.ensures.own; told = c.tell.ensures.told } in record {
      all = c.tell.ensures.all;
      each = λ n. learned_both P (view_at c.args.passes.now n) (view_at ps n) (view_at qs n) (inv.each n) (tell_learns ps qs (c.loop-party.party + 1) 1 t n);
      told = first_told P ps qs c.loop-party.party t inv.told;
    }
