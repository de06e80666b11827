use Rattle.std.proofs.Common.{◌≡◌}
use Rattle.seat_lock.specs.Passes.{party_of}
use Rattle.device_lock.specs.Passes.{IsIdle, IsOfDevice}
use Rattle.device_lock.proofs.tests.drain.Given as goal

abbrev pub invariant-loop : goal.invariant-loop
invariant-loop g l = record { pass : IsOfDevice l.device l.pass; idle : IsIdle l.pass; party : party_of l.pass ≡ party_of l.initial.pass }
