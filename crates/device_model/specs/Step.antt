-- The sequential device: one command after the other. Source: the NVMe command sets in outline; the
-- answer for want of memory is this project's own.
use Rattle.std.specs.Prelude.{◌≡◌, ℕ, ◌⊎◌, IsTrue, Option, Some, None}
use Rattle.cp_base.specs.Answer.{Answer, only_status}
use Rattle.cp_base.specs.Configuration.{Configuration}
use Rattle.cp_base.specs.declared.commands.Command.{Command}
use Rattle.cp_base.specs.declared.commands.Command.TheVariants as command
use Rattle.cp_base.specs.declared.replies.Status.TheVariants as status
use Rattle.device_model.specs.Checks.{refusal_of}
use Rattle.device_model.specs.Effect.{effect_of}
use Rattle.device_model.specs.Execution.{Outcome}
use Rattle.device_model.specs.Memory.{takes_memory}
use Rattle.device_model.specs.State.{State}

-- the refusal, which leaves the state, or else the effect
abbrev pub refused_or_done : State → Option Answer → Outcome → Outcome
refused_or_done s (Some answer) effect = record { answer = answer; next = s }
refused_or_done s None effect = effect

-- what the device answers to a command in a state, and the state after it, where there is memory
abbrev pub outcome_of : Configuration → State → Command → Outcome
outcome_of c s cmd = refused_or_done s (refusal_of c s cmd) (effect_of c s cmd)

-- a command that takes memory finds none: nothing is changed
pub record FindsNoMemory (c : Configuration) (s : State) (cmd : Command) (answer : Answer) (next : State) : Type 0 where
  pub takes : IsTrue (takes_memory c s cmd)
  pub told : answer ≡ only_status status.NoMemory
  pub unchanged : next ≡ s

-- a command is withdrawn by an Abort before it is carried out: nothing is changed
pub record IsWithdrawn (s : State) (answer : Answer) (next : State) : Type 0 where
  pub told : answer ≡ only_status status.Aborted
  pub unchanged : next ≡ s

-- an Abort withdraws the command that it names: it answers 0, and nothing is changed
pub record Withdraws (s : State) (cmd : Command) (answer : Answer) (next : State) : Type 0 where
  pub cid : ℕ
  pub aborts : cmd ≡ command.Abort cid
  pub told : answer ≡ only_status status.Ok
  pub unchanged : next ≡ s

-- the device may answer so to the command, and go on to the next state
abbrev pub DeviceStep : Configuration → State → Command → Answer → State → Type 0
DeviceStep c s cmd answer next =
    (outcome_of c s cmd ≡ record { answer = answer; next = next })
    ⊎ FindsNoMemory c s cmd answer next ⊎ IsWithdrawn s answer next ⊎ Withdraws s cmd answer next
