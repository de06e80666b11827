use Rattle.std.proofs.Common.{◌≡◌, ◌+◌, ◌≤◌, length, drop}
use Rattle.std.specs.List.{AllByRecursion}
use Rattle.history_model.specs.Plain.{PlainPart}
use Rattle.device_core.specs.Gives.{world_in}
use Rattle.schedule_model.specs.Deeds.{IsHost}
use Rattle.schedule_model.specs.Schedule.{actions_of_hosts}
use Rattle.step_driver.proofs.turns.ready_at.Given as goal

-- what is counted so far and what the rest has are all, and the number is not yet passed
abbrev pub invariant-loop-index : goal.invariant-loop-index
invariant-loop-index l = record {
  count : l.count + length (actions_of_hosts (world_in l.core) (drop l.index l.parts)) ≡ length (actions_of_hosts (world_in l.core) l.parts);
  few : l.count ≤ l.index;
  low : l.count ≤ l.number;
  hosts : AllByRecursion (λ (part : PlainPart). IsHost part.host) (drop l.index l.parts);
}
