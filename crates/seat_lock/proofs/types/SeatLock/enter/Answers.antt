use Rattle.std.proofs.Common.{[], refl, sym, append-nil}
use Rattle.seat_lock.proofs.types.SeatLock.enter.Goals as goal

pub loop-init : goal.loop-init
loop-init g c = record { pass = c.requires; party = refl; seen = refl; made = refl; lost = ([], sym (append-nil _)) }
