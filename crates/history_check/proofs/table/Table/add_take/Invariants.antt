use Rattle.std.proofs.Common.{◌≡◌, ◌++◌, drop}
use Rattle.history_model.specs.Sent.{ordinals_of}
use Rattle.history_check.specs.Table.{waiting_of}
use Rattle.history_check.proofs.table.Table.add_take.Given as goal

-- the takes so far and those of the rest
abbrev pub invariant-loop-sent : goal.invariant-loop-sent
invariant-loop-sent l = record {
  takes : l.self.takes.items ++ ordinals_of l.cid (waiting_of (drop l.sent-index l.outstanding)) ≡ l.initial.self.takes.items ++ ordinals_of l.cid (waiting_of l.outstanding);
  commands : l.self.commands.items ≡ l.initial.self.commands.items;
  places : l.self.places ≡ l.initial.self.places;
  counts : l.self.counts ≡ l.initial.self.counts;
}
