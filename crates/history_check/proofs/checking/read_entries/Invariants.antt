use Rattle.history_check.specs.Reading.{BeginsWithEntries}
use Rattle.history_check.proofs.checking.read_entries.Given as goal

-- so many entries were read
abbrev pub invariant-loop-count : goal.invariant-loop-count
invariant-loop-count l = BeginsWithEntries l.initial.checker.device.config l.plan.phases l.history l.rest l.count l.checker
