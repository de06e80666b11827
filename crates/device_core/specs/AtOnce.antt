-- Commands that are done at once: those that move no bytes, and those that are refused. This project's own.
use Rattle.std.specs.Prelude.{◌≡◌, ℕ, ◌⊎◌, Bool, true, false, not, ◌&&◌, ◌||◌, if◌then◌else◌, IsTrue, Option, is_some}
use Rattle.cp_base.specs.Answer.{Answer, only_status}
use Rattle.cp_base.specs.Configuration.{Configuration}
use Rattle.cp_base.specs.declared.commands.Command.{Command}
use Rattle.cp_base.specs.declared.replies.Status.TheVariants as status
use Rattle.device_model.specs.Checks.{refusal_of}
use Rattle.device_model.specs.Execution.{tells}
use Rattle.device_model.specs.Memory.{moves_bytes, takes_memory}
use Rattle.device_model.specs.State.{State}
use Rattle.device_model.specs.Step.{FindsNoMemory, outcome_of}
use Rattle.trail_model.specs.Lawful.{is_abort}

-- a command is carried out or refused, or finds no memory
abbrev pub CarriesOut : Configuration → State → Command → Answer → State → Type 0
CarriesOut c s cmd answer next =
    (outcome_of c s cmd ≡ record { answer = answer; next = next }) ⊎ FindsNoMemory c s cmd answer next

-- whether a command changes tables and moves no bytes
abbrev pub changes_tables : Command → Bool
changes_tables cmd = not (moves_bytes cmd) && not (is_abort cmd)

-- what a command that is done at once is told, where an Abort withdraws this
abbrev pub told_at_once : Configuration → State → Command → Option ℕ → Answer
told_at_once c s cmd aborts =
    if is_abort cmd then tells status.Ok (if is_some aborts then 0 else 1) else (outcome_of c s cmd).answer

-- a command is done at once, told this, and leaves this state: there is no memory, where it takes memory; or it is told what
-- the device answers, where it moves no bytes or is refused
abbrev pub IsDoneAtOnce : Bool → Configuration → State → Command → Option ℕ → Answer → State → Type 0
IsDoneAtOnce true c s cmd aborts answer next =
    (answer ≡ only_status status.NoMemory) × IsTrue (takes_memory c s cmd) × (next ≡ s)
IsDoneAtOnce false c s cmd aborts answer next =
    (answer ≡ told_at_once c s cmd aborts) × IsTrue (not (moves_bytes cmd) || is_some (refusal_of c s cmd)) × (next ≡ (outcome_of c s cmd).next)
