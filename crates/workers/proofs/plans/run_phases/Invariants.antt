use Rattle.std.proofs.Common.{◌≡◌, length}
use Rattle.std.specs.Vec.Iter.{into_iter_items, into_iter_len}
use Rattle.seat_lock.specs.Passes.{seats_in}
use Rattle.workers.proofs.Phased.{HasPhasesLeft}
use Rattle.workers.proofs.plans.run_phases.Given as goal

-- the phases that are not left are run
abbrev pub invariant-loop-phase : goal.invariant-loop-phase
invariant-loop-phase g l = record {
  left : HasPhasesLeft l.device l.fn.phases.items (into_iter_items l.phase-iterator) l.passes;
  count : into_iter_len l.phase-iterator ≡ length (into_iter_items l.phase-iterator);
  seats : seats_in l.passes ≡ seats_in l.fn.passes;
}
