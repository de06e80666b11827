use Rattle.std.proofs.Common.{◌≡◌, ◌-◌}
use Rattle.device_core.specs.Gives.{world_in}
use Rattle.schedule_model.specs.Schedule.{idle_from, idle_worker}
use Rattle.step_driver.proofs.running.Running.idle.Given as goal

-- none so far is idle
abbrev pub invariant-loop-party : goal.invariant-loop-party
invariant-loop-party l = idle_from (world_in l.self) l.party (l.party-end - l.party) ≡ idle_worker (world_in l.self) l.workers
