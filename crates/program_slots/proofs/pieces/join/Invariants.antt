use Rattle.std.proofs.Common.{◌≡◌, ◌++◌, ◌≤◌}
use Rattle.program_slots.specs.Spread.{joined_bytes, loaded_in}
use Rattle.program_slots.proofs.pieces.join.Given as goal

abbrev pub invariant-loop-bytes : goal.invariant-loop-bytes
invariant-loop-bytes l = (l.code.items ++ joined_bytes l.bytes-iterator ≡ joined_bytes l.pieces.entries) × (loaded_in l.bytes-iterator ≤ l.code.spare)
