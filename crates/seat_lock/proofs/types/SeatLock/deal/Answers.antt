use Rattle.std.proofs.Common.{◌≡◌, ◌≤◌, Some, refl, ◌∙◌, arith}
use Rattle.seat_lock.specs.Passes.{LockName, lock_of}
use Rattle.seat_lock.proofs.PlaceLemmas.{dealt_more, dealt_placed, dealt_all, dealt_whole, first_placed, set_placed}
use Rattle.seat_lock.proofs.types.SeatLock.deal.Goals as goal

pub loop-made-preserved : goal.loop-made-preserved
loop-made-preserved g c = let inv = c.loop-made.invariant in let more = c.push_reserved-in-loop-made.ensures in record {
  dealt = dealt_more _ c.loop-made.made c.loop-made.first c.next_pass-back.result.0 c.next_pass-back.result.1 c.loop-made.places.items c.push_reserved-in-loop-made.new.self.items inv.dealt (omega arith) c.next_pass-back.ensures.first c.next_pass-back.ensures.next more.items;
  room = more.capacity ∙ inv.room;
}

pub invariant_of-result-clause-placed : goal.invariant_of-result-clause-placed
invariant_of-result-clause-placed g c = let inv = c.loop-made.invariant in
    set_placed c.loop-made.places.items 0 (Some c.loop-made.first) (first_placed (Some c.loop-made.first) c.loop-made.first refl inv.dealt.first_is.party_is) (dealt_placed _ c.loop-made.made c.loop-made.first c.loop-made.places.items inv.dealt)

pub returns : goal.returns
returns g c = let inv = c.loop-made.invariant in let lock : LockName g.row.V-Fixed.Denot = lock_of g.V.Trailed.fixed c.args.self.now in
    let all : c.loop-made.made ≡ c.args.seats = omega arith in let some_seat : 1 ≤ lock.seats = omega arith in record {
      all = dealt_all lock c.loop-made.first c.loop-made.places.items _ (dealt_whole lock c.loop-made.made c.args.seats c.loop-made.first c.loop-made.places.items all c.requires.seats.1 inv.dealt) some_seat refl;
    }
