use Rattle.seat_lock.specs.Passes.{lock_of}
use Rattle.seat_lock.proofs.PlaceLemmas.{all_of_new, new_at_home}
use Rattle.seat_lock.proofs.types.SeatLock.new.Goals as goal

pub returns : goal.returns
returns g c = record {
  lock = c.in_ok-lock.ensures.lock;
  all = all_of_new g.V.Trailed.party (lock_of g.V.Trailed.fixed c.in_ok-lock.lock) c.deal-passes.result c.deal-passes.ensures.all;
  new = new_at_home g.V.Trailed.party (lock_of g.V.Trailed.fixed c.in_ok-lock.lock) c.deal-passes.result c.deal-passes.ensures.all;
}
