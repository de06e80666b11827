-- No check and no effect tells that there is no memory or that a command was withdrawn.
use Rattle.std.proofs.Common.{◌≡◌, refl, ℕ, Bool, true, false, is_none, if◌then◌else◌, List, [], ◌∷◌, ◌++◌, map, length, Option, Some, None, IfSome, option_map, subst}
use Rattle.std.specs.List.{AllByRecursion}
use Rattle.std.specs.Option.{option_or}
use Rattle.cp_base.specs.Answer.{Answer, only_status}
use Rattle.cp_base.specs.Checks.{Check, block_checks, byte_checks, copy_checks, first_failing, set_checks, write_checks}
use Rattle.cp_base.specs.Configuration.{Configuration, size_of}
use Rattle.cp_base.specs.Region.{Region}
use Rattle.cp_base.specs.declared.commands.Command.{Command}
use Rattle.cp_base.specs.declared.commands.Command.TheVariants as command
use Rattle.cp_base.specs.declared.region.SpaceId.{SpaceId}
use Rattle.cp_base.specs.declared.replies.Status.{Status}
use Rattle.cp_base.specs.declared.replies.Status.TheVariants as status
use Rattle.bpf_isa.specs.declared.end.End.{End}
use Rattle.bpf_isa.specs.declared.end.End.TheVariants as end
use Rattle.device_model.specs.Builtin.{Builtin, builtin_at}
use Rattle.device_model.specs.Checks.{activate_checks, checks_of, deactivate_checks, execute_checks, load_checks, program_refusal, refusal_of, refusal_of_program, runnable_checks, unload_checks}
use Rattle.device_model.specs.Effect.{effect_of}
use Rattle.device_model.specs.Execution.{Outcome, told_of}
use Rattle.device_model.specs.State.{Slot, State, slot_at}
use Rattle.device_model.specs.Step.{outcome_of, refused_or_done}

-- whether a status is one that the sequential device tells where there is memory
abbrev pub is_settled : Status → Bool
is_settled status.NoMemory = false
is_settled status.Aborted = false
is_settled _ = true

-- a status that tells neither that there is no memory nor that a command was withdrawn
abbrev pub IsSettled : Status → Type 0
IsSettled s = is_settled s ≡ true

-- checks that give such statuses
abbrev TellSettled : List Check → Type 0
TellSettled checks = AllByRecursion (λ (check : Check). IsSettled check.status) checks

both_tell : (some more : List Check) → TellSettled some → TellSettled more → TellSettled (some ++ more)
both_tell [] more a b = b
both_tell (check ∷ some) more a b = (a.0, both_tell some more a.1 b)

first_by : (fails : Bool) (s : Status) (rest : Option Status) → IsSettled s → IfSome rest IsSettled → IfSome (if fails then Some s else rest) IsSettled
first_by true s rest a b = a
first_by false s rest a b = b

first_settled : (checks : List Check) → TellSettled checks → IfSome (first_failing checks) IsSettled
first_settled [] all = tt
first_settled (check ∷ checks) all = first_by check.fails check.status (first_failing checks) all.0 (first_settled checks all.1)

runnable_by : (test : Bool) (checks : List Check) → TellSettled checks → TellSettled (if test then checks else [])
runnable_by true checks all = all
runnable_by false checks all = tt

all_settled : (c : Configuration) (s : State) (cmd : Command) → TellSettled (checks_of c s cmd)
all_settled c s (command.NvmRead ns lba count) = (refl, (refl, (refl, (refl, tt))))
all_settled c s (command.NvmWrite ns lba bytes) = (refl, (refl, (refl, (refl, tt))))
all_settled c s (command.NvmZeroes ns lba count) = (refl, (refl, (refl, (refl, tt))))
all_settled c s (command.NvmCopy ns lba from) = (refl, (refl, (refl, (refl, (refl, tt)))))
all_settled c s (command.MemRead ns at len) = (refl, (refl, (refl, (refl, tt))))
all_settled c s (command.MemWrite ns at bytes) = (refl, (refl, (refl, (refl, tt))))
all_settled c s (command.MemFill ns at len value) = (refl, (refl, (refl, (refl, tt))))
all_settled c s (command.MemCopy ns at from) = (refl, (refl, (refl, (refl, (refl, tt)))))
all_settled c s (command.SetCreate ranges) = (refl, (refl, (refl, (refl, (refl, tt)))))
all_settled c s (command.SetDelete set) = (refl, tt)
all_settled c s (command.Load slot size at bytes) = (refl, (refl, (refl, (refl, (refl, (refl, (refl, (refl, tt))))))))
all_settled c s (command.Unload slot) = (refl, (refl, (refl, tt)))
all_settled c s (command.Activate slot) = (refl, (refl, (refl, (refl, tt))))
all_settled c s (command.Deactivate slot) = (refl, (refl, (refl, tt)))
all_settled c s (command.Execute slot set p1 p2 budget) =
    both_tell (runnable_checks s slot) _ (runnable_by (is_none (builtin_at slot)) (deactivate_checks (slot_at s slot)) (refl, (refl, (refl, tt)))) (refl, (refl, tt))
all_settled c s (command.Abort cid) = tt

-- an answer of such a status
abbrev IsSettledAnswer : Answer → Type 0
IsSettledAnswer answer = IsSettled answer.status

told_settled : (budget : ℕ) (e : End) → IsSettledAnswer (told_of budget e)
told_settled budget (end.Exit value) = refl
told_settled budget (end.BadAccess place) = refl
told_settled budget (end.BadJump place) = refl
told_settled budget (end.CallDepth place) = refl
told_settled budget end.BudgetSpent = refl

effect_settled : (c : Configuration) (s : State) (cmd : Command) → IsSettledAnswer (effect_of c s cmd).answer
effect_settled c s (command.NvmRead ns lba count) = refl
effect_settled c s (command.NvmWrite ns lba bytes) = refl
effect_settled c s (command.NvmZeroes ns lba count) = refl
effect_settled c s (command.NvmCopy ns lba from) = refl
effect_settled c s (command.MemRead ns at len) = refl
effect_settled c s (command.MemWrite ns at bytes) = refl
effect_settled c s (command.MemFill ns at len value) = refl
effect_settled c s (command.MemCopy ns at from) = refl
effect_settled c s (command.SetCreate ranges) = refl
effect_settled c s (command.SetDelete set) = refl
effect_settled c s (command.Load slot size at bytes) = refl
effect_settled c s (command.Unload slot) = refl
effect_settled c s (command.Activate slot) = refl
effect_settled c s (command.Deactivate slot) = refl
effect_settled c s (command.Execute slot set p1 p2 budget) = told_settled budget _
effect_settled c s (command.Abort cid) = refl

program_by : (well : Bool) (answer : Answer) → IsSettledAnswer answer → IfSome (if well then None else Some answer) IsSettledAnswer
program_by true answer other = tt
program_by false answer other = other

program_settled : (s : State) (cmd : Command) → IfSome (refusal_of_program s cmd) IsSettledAnswer
program_settled s (command.NvmRead ns lba count) = tt
program_settled s (command.NvmWrite ns lba bytes) = tt
program_settled s (command.NvmZeroes ns lba count) = tt
program_settled s (command.NvmCopy ns lba from) = tt
program_settled s (command.MemRead ns at len) = tt
program_settled s (command.MemWrite ns at bytes) = tt
program_settled s (command.MemFill ns at len value) = tt
program_settled s (command.MemCopy ns at from) = tt
program_settled s (command.SetCreate ranges) = tt
program_settled s (command.SetDelete set) = tt
program_settled s (command.Load slot size at bytes) = tt
program_settled s (command.Unload slot) = tt
program_settled s (command.Activate slot) = program_by _ _ refl
program_settled s (command.Deactivate slot) = tt
program_settled s (command.Execute slot set p1 p2 budget) = tt
program_settled s (command.Abort cid) = tt

either_settled : (first : Option Status) (then_ : Option Answer) → IfSome first IsSettled → IfSome then_ IsSettledAnswer → IfSome (option_or (option_map only_status first) then_) IsSettledAnswer
either_settled None then_ a b = b
either_settled (Some s) then_ a b = a

refused_or_done_settled : (s : State) (refusal : Option Answer) (effect : Outcome) → IfSome refusal IsSettledAnswer → IsSettledAnswer effect.answer → IsSettledAnswer (refused_or_done s refusal effect).answer
refused_or_done_settled s None effect a b = b
refused_or_done_settled s (Some answer) effect a b = a

-- what a failing check tells
pub checks_tell : (c : Configuration) (s : State) (cmd : Command) (told : Status) → first_failing (checks_of c s cmd) ≡ Some told → IsSettled told
checks_tell c s cmd told e = subst (λ (o : Option Status). IfSome o IsSettled) e (first_settled (checks_of c s cmd) (all_settled c s cmd))

-- what the device answers where there is memory
pub outcome_tells : (c : Configuration) (s : State) (cmd : Command) → IsSettled (outcome_of c s cmd).answer.status
outcome_tells c s cmd =
    refused_or_done_settled s (refusal_of c s cmd) (effect_of c s cmd)
    (either_settled (first_failing (checks_of c s cmd)) (refusal_of_program s cmd) (first_settled (checks_of c s cmd) (all_settled c s cmd)) (program_settled s cmd))
    (effect_settled c s cmd)
