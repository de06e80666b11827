-- The state after a command, from the state before it and the answer.
use Rattle.std.proofs.Common.{◌≡◌, ℕ, [], unwrap_or, inl, inr, Option, Some, None, refl, sym, ◌∙◌, ap}
use Rattle.cp_base.specs.Answer.{Answer}
use Rattle.cp_base.specs.Configuration.{Configuration}
use Rattle.cp_base.specs.Sets.{ranges_under}
use Rattle.cp_base.specs.declared.commands.Command.{Command}
use Rattle.cp_base.specs.declared.commands.Command.TheVariants as command
use Rattle.cp_base.specs.declared.replies.Status.{Status}
use Rattle.cp_base.specs.declared.replies.Status.TheVariants as status
use Rattle.bpf_isa.specs.declared.end.End.{End}
use Rattle.bpf_isa.specs.declared.end.End.TheVariants as end
use Rattle.bpf_model.specs.Outcome.{RunOutcome as Run}
use Rattle.device_model.specs.Checks.{refusal_of}
use Rattle.device_model.specs.Effect.{effect_of}
use Rattle.device_model.specs.Execution.{Outcome, executable_in, memory_of, outcome_on, told_of, with_memory}
use Rattle.device_model.specs.State.{State}
use Rattle.device_model.specs.Step.{DeviceStep, outcome_of, refused_or_done}
use Rattle.history_model.specs.Legal.{after_status}

-- where nothing changes, no status tells states apart
unchanged : (s : State) (told : Status) → after_status s s told ≡ s
unchanged s status.Ok = refl
unchanged s status.BadNamespace = refl
unchanged s status.BadLength = refl
unchanged s status.TooLong = refl
unchanged s status.OutOfRange = refl
unchanged s status.CopyOverlap = refl
unchanged s status.SetTableFull = refl
unchanged s status.RangeOverlap = refl
unchanged s status.NoSuchSet = refl
unchanged s status.NoSuchSlot = refl
unchanged s status.SlotEmpty = refl
unchanged s status.SlotPartial = refl
unchanged s status.SlotComplete = refl
unchanged s status.SlotActive = refl
unchanged s status.SlotInactive = refl
unchanged s status.SizeDiffers = refl
unchanged s status.PieceOverlap = refl
unchanged s status.BadProgram = refl
unchanged s status.BudgetRange = refl
unchanged s status.BadAccess = refl
unchanged s status.BadJump = refl
unchanged s status.CallDepth = refl
unchanged s status.BudgetSpent = refl
unchanged s status.NoMemory = refl
unchanged s status.Aborted = refl

-- how an execution ends is told by a status that keeps the new state
end-told : (s next : State) (budget : ℕ) (e : End) → after_status s next (told_of budget e).status ≡ next
end-told s next budget (end.Exit value) = refl
end-told s next budget (end.BadAccess place) = refl
end-told s next budget (end.BadJump place) = refl
end-told s next budget (end.CallDepth place) = refl
end-told s next budget end.BudgetSpent = refl

-- an outcome whose status keeps the new state
abbrev IsTold : State → Outcome → Type 0
IsTold s o = after_status s o.next o.answer.status ≡ o.next

-- what a command does is told by a status that keeps the new state
effect-told : (c : Configuration) (s : State) (cmd : Command) → IsTold s (effect_of c s cmd)
effect-told c s (command.NvmRead ns lba count) = refl
effect-told c s (command.NvmWrite ns lba bytes) = refl
effect-told c s (command.NvmZeroes ns lba count) = refl
effect-told c s (command.NvmCopy ns lba from) = refl
effect-told c s (command.MemRead ns at len) = refl
effect-told c s (command.MemWrite ns at bytes) = refl
effect-told c s (command.MemFill ns at len value) = refl
effect-told c s (command.MemCopy ns at from) = refl
effect-told c s (command.SetCreate ranges) = refl
effect-told c s (command.SetDelete set) = refl
effect-told c s (command.Load slot size at bytes) = refl
effect-told c s (command.Unload slot) = refl
effect-told c s (command.Activate slot) = refl
effect-told c s (command.Deactivate slot) = refl
effect-told c s (command.Execute slot set p1 p2 budget) =
    let run : Run = outcome_on (executable_in s slot) (unwrap_or (ranges_under s.sets set) []) (memory_of s.contents) p1 p2 budget in
    end-told s (record s { contents = with_memory s.contents run.memory }) budget run.ending
effect-told c s (command.Abort cid) = refl

-- a refusal leaves the state, and an effect is told as such
refused-or-told : (s : State) (refusal : Option Answer) (effect : Outcome) → IsTold s effect → IsTold s (refused_or_done s refusal effect)
refused-or-told s (Some told) effect is = unchanged s told.status
refused-or-told s None effect is = is

-- an effect that leaves the state, and a refusal, leave it
left : (s : State) (refusal : Option Answer) (effect : Outcome) → effect.next ≡ s → (refused_or_done s refusal effect).next ≡ s
left s (Some told) effect is = refl
left s None effect is = is

-- the answer and the old state settle the new one
pub settled : (c : Configuration) (s : State) (cmd : Command) (answer : Answer) (next : State) → DeviceStep c s cmd answer next
    → next ≡ after_status s (outcome_of c s cmd).next answer.status
settled c s cmd answer next (inl is) =
    let o : Outcome = outcome_of c s cmd in
    let told : IsTold s o = refused-or-told s (refusal_of c s cmd) (effect_of c s cmd) (effect-told c s cmd) in
    sym (ap (λ (x : Outcome). x.next) is) ∙ sym told ∙ ap (λ (x : Outcome). after_status s o.next x.answer.status) is
settled c s cmd answer next (inr (inl lacks)) =
    lacks.unchanged ∙ sym (ap (λ (a : Answer). after_status s (outcome_of c s cmd).next a.status) lacks.told)
settled c s cmd answer next (inr (inr (inl withdrawn))) =
    withdrawn.unchanged ∙ sym (ap (λ (a : Answer). after_status s (outcome_of c s cmd).next a.status) withdrawn.told)
settled c s cmd answer next (inr (inr (inr withdraws))) =
    let other : Command = command.Abort withdraws.cid in
    let same : (outcome_of c s cmd).next ≡ s =
    ap (λ (x : Command). (outcome_of c s x).next) withdraws.aborts ∙ left s (refusal_of c s other) (effect_of c s other) refl in
    withdraws.unchanged ∙ sym same ∙ sym (ap (λ (a : Answer). after_status s (outcome_of c s cmd).next a.status) withdraws.told)
