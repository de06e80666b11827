use Rattle.std.proofs.Common.{◌≡◌, length, map, replicate}
use Rattle.device_model.specs.State.{Empty}
use Rattle.program_slots.specs.Program.{slot_of}
use Rattle.program_slots.proofs.slots.Slots.new.Given as goal

abbrev pub invariant-loop : goal.invariant-loop
invariant-loop l = (map slot_of l.programs.items ≡ replicate l.counter Empty) × (length l.programs.items ≡ l.counter)
