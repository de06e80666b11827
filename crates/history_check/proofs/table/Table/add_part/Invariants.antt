use Rattle.std.proofs.Common.{◌≡◌, ◌++◌, ◌≤◌, [], drop, length}
use Rattle.history_model.specs.Sent.{next_ordinal, sends_of_items}
use Rattle.history_check.specs.Table.{IsTable, going_on, sends_in}
use Rattle.history_check.proofs.table.Table.add_part.Given as goal

-- the commands so far and those of the rest are all
abbrev pub invariant-loop-item : goal.invariant-loop-item
invariant-loop-item l = record {
  table : IsTable l.self;
  begun : l.sender.begin ≤ length l.self.takes.items;
  sends : going_on l.self l.sender (drop l.item-index l.items)
      ≡ sends_in l.initial.self ++ sends_of_items l.fn.part.host l.fn.phase (next_ordinal l.fn.part.host (sends_in l.initial.self)) [] [] l.fn.part.items;
}
