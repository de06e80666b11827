use Rattle.std.proofs.Common.{◌≡◌, vec_capacity}
use Rattle.seat_lock.specs.Passes.{lock_of}
use Rattle.seat_lock.proofs.PlaceLemmas.{AreDealt}
use Rattle.seat_lock.proofs.types.SeatLock.deal.Given as goal

abbrev pub invariant-loop-made : goal.invariant-loop-made
invariant-loop-made g l = record { dealt : AreDealt (lock_of g.V.Trailed.fixed l.self) l.made l.first l.places.items; room : vec_capacity l.places ≡ l.seats }
