-- Legal histories: what a device that carries out one command after the other may have answered. This
-- project's own; that the commands of a queue may be carried out in any order is NVMe's (Base
-- Specification, command ordering).
use Rattle.std.specs.Prelude.{◌≡◌, ℕ, List, [], ◌∷◌, AllPairs, IsPermutation, map}
use Rattle.cp_base.specs.Configuration.{Configuration}
use Rattle.cp_base.specs.declared.commands.Command.TheVariants as command
use Rattle.cp_base.specs.declared.replies.Status.{Status}
use Rattle.cp_base.specs.declared.replies.Status.TheVariants as status
use Rattle.script_cmds.specs.declared.item.Phase.{Phase}
use Rattle.device_model.specs.State.{State, opening}
use Rattle.device_model.specs.Step.{DeviceStep, outcome_of}
use Rattle.history_model.specs.Entry.{Entry}
use Rattle.history_model.specs.Sent.{Names, TakenBefore, sends_of}

-- the state after a command that was answered with this status: a command that found no memory, or that
-- was withdrawn, changed nothing
abbrev pub after_status : State → State → Status → State
after_status old new status.Ok = new
after_status old new status.BadNamespace = new
after_status old new status.BadLength = new
after_status old new status.TooLong = new
after_status old new status.OutOfRange = new
after_status old new status.CopyOverlap = new
after_status old new status.SetTableFull = new
after_status old new status.RangeOverlap = new
after_status old new status.NoSuchSet = new
after_status old new status.NoSuchSlot = new
after_status old new status.SlotEmpty = new
after_status old new status.SlotPartial = new
after_status old new status.SlotComplete = new
after_status old new status.SlotActive = new
after_status old new status.SlotInactive = new
after_status old new status.SizeDiffers = new
after_status old new status.PieceOverlap = new
after_status old new status.BadProgram = new
after_status old new status.BudgetRange = new
after_status old new status.BadAccess = new
after_status old new status.BadJump = new
after_status old new status.CallDepth = new
after_status old new status.BudgetSpent = new
after_status old new status.NoMemory = old
after_status old new status.Aborted = old

-- the state after an entry
abbrev pub after_entry : Configuration → State → Entry → State
after_entry c s entry = after_status s (outcome_of c s entry.sent.command).next entry.answer.status

-- the state after a history
abbrev pub after_history : Configuration → State → List Entry → State
after_history c s [] = s
after_history c s (entry ∷ entries) = after_history c (after_entry c s entry) entries

-- each entry is one step of the sequential device
abbrev pub Replays : Configuration → State → List Entry → Type 0
Replays c s [] = Unit {0}
Replays c s (entry ∷ entries) =
    DeviceStep c s entry.sent.command entry.answer (after_entry c s entry) × Replays c (after_entry c s entry) entries

-- an Abort has withdrawn the command that it names: it is answered Ok with 0
pub record HasWithdrawn (entry : Entry) : Type 0 where
  pub cid : ℕ
  pub abort : entry.sent.command ≡ command.Abort cid
  pub told : entry.answer.status ≡ status.Ok
  pub result : entry.answer.result ≡ 0

-- An entry directly behind another one. Where it is told Aborted, the one before is that of the Abort that
-- has withdrawn its command; and where the one before has withdrawn a command, it is told Aborted.
pub record StandsBehind (before entry : Entry) : Type 0 where
  pub aborted : entry.answer.status ≡ status.Aborted → HasWithdrawn before × Names before.sent entry.sent
  pub follows : HasWithdrawn before → entry.answer.status ≡ status.Aborted

-- what stands behind an entry, one by one to the end
abbrev pub StandBehind : Entry → List Entry → Type 0
StandBehind before [] = HasWithdrawn before → ⊥
StandBehind before (entry ∷ entries) = StandsBehind before entry × StandBehind entry entries

-- Each entry that is told Aborted stands directly behind that of the Abort that has withdrawn its command,
-- and directly behind each such Abort stands such an entry.
abbrev pub ArePaired : List Entry → Type 0
ArePaired [] = Unit {0}
ArePaired (entry ∷ entries) = (entry.answer.status ≡ status.Aborted → ⊥) × StandBehind entry entries

-- A history is legal for a plan: it has each command of the plan once and no other; none stands before
-- one that has to be over before it is sent; from the opening state on the answers are those of the
-- sequential device; and a withdrawn command stands directly behind the Abort that names it.
pub record IsLegal (c : Configuration) (plan : List Phase) (history : List Entry) : Type 0 where
  pub each_once : IsPermutation (map (λ (entry : Entry). entry.sent) history) (sends_of plan)
  pub in_order : AllPairs (λ (earlier : Entry) (later : Entry). TakenBefore later.sent earlier.sent → ⊥) history
  pub replays : Replays c (opening c) history
  pub paired : ArePaired history

-- the state that a history leaves at its end
abbrev pub last_state : Configuration → List Entry → State
last_state c history = after_history c (opening c) history
