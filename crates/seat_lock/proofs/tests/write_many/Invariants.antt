use Rattle.std.proofs.Common.{◌≡◌}
use Rattle.seat_lock.specs.Passes.{IsPassOf, lock_of, party_of}
use Rattle.seat_lock.specs.declared.tests.Line.{Line}
use Rattle.seat_lock.specs.declared.tests.Notebook.{Notebook}
use Rattle.seat_lock.proofs.tests.write_many.Given as goal

abbrev pub invariant-loop-number : goal.invariant-loop-number
invariant-loop-number g l = record { pass : IsPassOf (λ (x : Line). x.party) (lock_of (λ (n : Notebook). n.shelf) l.lock) l.pass; party : party_of l.pass ≡ party_of l.initial.pass }
