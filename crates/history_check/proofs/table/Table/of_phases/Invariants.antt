use Rattle.std.proofs.Common.{◌≡◌, ◌+◌, drop}
use Rattle.history_model.specs.Sent.{sends_of, sends_of_phases}
use Rattle.history_check.specs.Table.{IsTable, sends_in}
use Rattle.history_check.proofs.table.Table.of_phases.Given as goal

-- the commands so far and those of the rest are all
abbrev pub invariant-loop-index : goal.invariant-loop-index
invariant-loop-index l = record {
  table : IsTable l.table;
  sends : sends_of_phases (l.index + 1) (sends_in l.table) (drop l.index l.phases) ≡ sends_of l.phases;
}
