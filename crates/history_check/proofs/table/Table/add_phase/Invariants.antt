use Rattle.std.proofs.Common.{◌≡◌, drop}
use Rattle.history_model.specs.Sent.{sends_of_parts}
use Rattle.history_check.specs.Table.{IsTable, sends_in}
use Rattle.history_check.proofs.table.Table.add_phase.Given as goal

-- the commands so far and those of the rest are all
abbrev pub invariant-loop-part : goal.invariant-loop-part
invariant-loop-part l = record {
  table : IsTable l.self;
  sends : sends_of_parts l.phase (sends_in l.self) (drop l.part-index l.parts) ≡ sends_of_parts l.phase (sends_in l.initial.self) l.parts;
}
