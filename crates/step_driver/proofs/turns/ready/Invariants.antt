use Rattle.std.proofs.Common.{◌≡◌, ◌+◌, ◌≤◌, length, drop}
use Rattle.std.specs.List.{AllByRecursion}
use Rattle.history_model.specs.Plain.{PlainPart}
use Rattle.device_core.specs.Gives.{world_in}
use Rattle.schedule_model.specs.Deeds.{IsHost}
use Rattle.schedule_model.specs.Schedule.{actions_of_hosts}
use Rattle.step_driver.proofs.turns.ready.Given as goal

-- what is counted so far and what the rest has are all
abbrev pub invariant-loop-part : goal.invariant-loop-part
invariant-loop-part l = record {
  count : l.count + length (actions_of_hosts (world_in l.core) (drop l.part-index l.parts)) ≡ length (actions_of_hosts (world_in l.core) l.parts);
  few : l.count ≤ l.part-index;
  hosts : AllByRecursion (λ (part : PlainPart). IsHost part.host) (drop l.part-index l.parts);
}
