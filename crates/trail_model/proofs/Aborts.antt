-- In the history of a lawful trail each Abort that withdraws a command stands directly before that command.
use Rattle.std.proofs.Common.{◌≡◌, ℕ, ◌==◌, Bool, true, false, ◌&&◌, List, [], ◌∷◌, ◌++◌, Option, Some, None, option_map, is_none, is_some, refl, sym, ap, subst, ◌∙◌, if◌then◌else◌}
use Rattle.std.specs.List.{AllByRecursion}
use Rattle.std.specs.Option.{option_or}
use Rattle.std.specs.Prelude.{option_and_then}
use Rattle.std.proofs.lemmas.Bool.{true≢false}
use Rattle.cp_base.specs.Answer.{Answer, only_status}
use Rattle.cp_base.specs.Checks.{Check, first_failing}
use Rattle.cp_base.specs.Configuration.{Configuration}
use Rattle.cp_base.specs.declared.commands.Command.{Command}
use Rattle.cp_base.specs.declared.commands.Command.TheVariants as command
use Rattle.cp_base.specs.declared.replies.Status.{Status}
use Rattle.cp_base.specs.declared.replies.Status.TheVariants as status
use Rattle.bpf_isa.specs.declared.end.End.{End}
use Rattle.bpf_isa.specs.declared.end.End.TheVariants as end
use Rattle.bpf_model.specs.Walk.{bad_place, is_well_formed}
use Rattle.device_model.specs.Builtin.{Builtin, builtin_at}
use Rattle.device_model.specs.Checks.{checks_of, code_of, deactivate_checks, program_refusal, refusal_of, refusal_of_program, runnable_checks}
use Rattle.device_model.specs.Effect.{effect_of}
use Rattle.device_model.specs.Execution.{tells, told_of}
use Rattle.device_model.specs.Memory.{moves_bytes, takes_memory}
use Rattle.device_model.specs.State.{Slot, State, slot_at}
use Rattle.device_model.specs.Step.{outcome_of, refused_or_done}
use Rattle.trail_model.specs.Aborts.{AreAbortsPaired, at_end, alone, pair, is_aborted, is_ok}
use Rattle.trail_model.specs.Claims.{FindsItself}
use Rattle.trail_model.specs.Footprints.{Execution}
use Rattle.trail_model.specs.Lawful.{IsAllowedIn, IsLawful, IsLawfulFrom, MayAnswer, MayDo, MayFinish, Trail, history_of, is_abort, world_from}
use Rattle.trail_model.specs.Linked.{requests_of}
use Rattle.trail_model.specs.LocalEffects.{written}
use Rattle.trail_model.specs.Pieces.{AllBytes, carried}
use Rattle.trail_model.specs.World.{Completion, OpenClaim, Request, Submission, World, claim_at, completion_of, completions_by, first_world, is_no_memory, is_queued, named_place, request_at, submit_at, withdrawn_place, world_after}
use Rattle.trail_model.specs.declared.events.Event.{Event}
use Rattle.trail_model.specs.declared.events.Event.TheVariants as event
use Rattle.trail_model.proofs.Counts.{asked_by, requests-after}
use Rattle.trail_model.proofs.Moving.{withdrawn-queued}
use Rattle.trail_model.proofs.Sound.{SoundWorld, some-and, sound-first, sound-step}
use Rattle.trail_model.proofs.Submits.{each-append, found-each, none-some, some-same, submit-place}

-- ---- what no answer of the device tells

abbrev pub NotAborted : Answer → Type 0
NotAborted a = is_aborted a.status ≡ false

abbrev NoneAborts : List Check → Type 0
NoneAborts checks = AllByRecursion (λ (check : Check). is_aborted check.status ≡ false) checks

none-aborts : (checks : List Check) (st : Status) → NoneAborts checks → first_failing checks ≡ Some st → is_aborted st ≡ false
none-aborts [] st all e = absurd (none-some st e)
none-aborts (check ∷ checks) st all e = by_test check.fails e (none-aborts checks st all.1)
  where
    by_test : (b : Bool) → (if b then Some check.status else first_failing checks) ≡ Some st → (first_failing checks ≡ Some st → is_aborted st ≡ false) → is_aborted st ≡ false
    by_test true e later = ap is_aborted (sym (some-same check.status st e)) ∙ all.0
    by_test false e later = later e

runnable-aborts : (s : State) (slot : ℕ) (more : List Check) → NoneAborts more → NoneAborts (runnable_checks s slot ++ more)
runnable-aborts s slot more all = by_kind (builtin_at slot)
  where
    by_kind : (o : Option Builtin) → NoneAborts ((if is_none o then deactivate_checks (slot_at s slot) else []) ++ more)
    by_kind None = (refl, (refl, (refl, all)))
    by_kind (Some program) = all

checks-abort : (c : Configuration) (s : State) (cmd : Command) → NoneAborts (checks_of c s cmd)
checks-abort c s (command.NvmRead ns lba count) = (refl, (refl, (refl, (refl, tt))))
checks-abort c s (command.NvmWrite ns lba bytes) = (refl, (refl, (refl, (refl, tt))))
checks-abort c s (command.NvmZeroes ns lba count) = (refl, (refl, (refl, (refl, tt))))
checks-abort c s (command.NvmCopy ns lba from) = (refl, (refl, (refl, (refl, (refl, tt)))))
checks-abort c s (command.MemRead ns at len) = (refl, (refl, (refl, (refl, tt))))
checks-abort c s (command.MemWrite ns at bytes) = (refl, (refl, (refl, (refl, tt))))
checks-abort c s (command.MemFill ns at len value) = (refl, (refl, (refl, (refl, tt))))
checks-abort c s (command.MemCopy ns at from) = (refl, (refl, (refl, (refl, (refl, tt)))))
checks-abort c s (command.SetCreate ranges) = (refl, (refl, (refl, (refl, (refl, tt)))))
checks-abort c s (command.SetDelete set) = (refl, tt)
checks-abort c s (command.Load slot size at bytes) = (refl, (refl, (refl, (refl, (refl, (refl, (refl, (refl, tt))))))))
checks-abort c s (command.Unload slot) = (refl, (refl, (refl, tt)))
checks-abort c s (command.Activate slot) = (refl, (refl, (refl, (refl, tt))))
checks-abort c s (command.Deactivate slot) = (refl, (refl, (refl, tt)))
checks-abort c s (command.Execute slot set p1 p2 budget) = runnable-aborts s slot _ (refl, (refl, tt))
checks-abort c s (command.Abort cid) = tt

program-abort : (slot : Option Slot) (a : Answer) → program_refusal slot ≡ Some a → NotAborted a
program-abort slot a e = by_test (is_well_formed (code_of slot)) e
  where
    by_test : (b : Bool) → (if b then None else Some (let x : Answer = record { status = status.BadProgram; result = bad_place (code_of slot); bytes = [] } in x)) ≡ Some a → NotAborted a
    by_test true e = absurd (none-some a e)
    by_test false e = sym (ap (λ (x : Answer). is_aborted x.status) (some-same (let x : Answer = record { status = status.BadProgram; result = bad_place (code_of slot); bytes = [] } in x) a e))

refusal-program : (s : State) (cmd : Command) (a : Answer) → refusal_of_program s cmd ≡ Some a → NotAborted a
refusal-program s (command.Activate slot) a e = program-abort (slot_at s slot) a e
refusal-program s cmd a e = absurd (none-some a e)

refusal-abort : (c : Configuration) (s : State) (cmd : Command) (a : Answer) → refusal_of c s cmd ≡ Some a → NotAborted a
refusal-abort c s cmd a e = by_first (first_failing (checks_of c s cmd)) refl e
  where
    by_first : (o : Option Status) → first_failing (checks_of c s cmd) ≡ o → option_or (option_map only_status o) (refusal_of_program s cmd) ≡ Some a → NotAborted a
    by_first None f e = refusal-program s cmd a e
    by_first (Some st) f e = sym (ap (λ (x : Answer). is_aborted x.status) (some-same (only_status st) a e)) ∙ none-aborts (checks_of c s cmd) st (checks-abort c s cmd) f

told-abort : (budget : ℕ) (e : End) → NotAborted (told_of budget e)
told-abort budget (end.Exit value) = refl
told-abort budget (end.BadAccess place) = refl
told-abort budget (end.BadJump place) = refl
told-abort budget (end.CallDepth place) = refl
told-abort budget end.BudgetSpent = refl

effect-abort : (c : Configuration) (s : State) (cmd : Command) → NotAborted (effect_of c s cmd).answer
effect-abort c s (command.Execute slot set p1 p2 budget) = told-abort budget _
effect-abort c s cmd = refl

outcome-abort : (c : Configuration) (s : State) (cmd : Command) → NotAborted (outcome_of c s cmd).answer
outcome-abort c s cmd = by_refusal (refusal_of c s cmd) refl
  where
    by_refusal : (o : Option Answer) → refusal_of c s cmd ≡ o → NotAborted (refused_or_done s o (effect_of c s cmd)).answer
    by_refusal None e = effect-abort c s cmd
    by_refusal (Some a) e = refusal-abort c s cmd a e

written-abort : (c : Configuration) (x : Execution) (all : AllBytes) (cmd : Command) → NotAborted (written c x all cmd).answer
written-abort c x all (command.Execute slot set p1 p2 budget) = told-abort budget _
written-abort c x all cmd = refl

-- ---- only Aborts name commands

abbrev pub NamesByAbort : Request → Type 0
NamesByAbort r = is_abort r.command ≡ false → r.names ≡ None

named-by-abort : (submits : List Submission) (host : ℕ) (cmd : Command) → is_abort cmd ≡ false → named_place submits host cmd ≡ None
named-by-abort submits host (command.Abort cid) e = absurd (true≢false e)
named-by-abort submits host cmd e = refl

asked-names : (w : World) (e : Event) → AllByRecursion NamesByAbort (asked_by w e)
asked-names w (event.Submit by cid ordinal cmd) = (named-by-abort w.submits by cmd, tt)
asked-names w (event.Claim by host ordinal sent) = tt
asked-names w (event.Finish by claim answer) = tt
asked-names w (event.Do by host ordinal sent answer aborts) = tt
asked-names w (event.Take by cid posted) = tt
asked-names w (event.Rest by) = tt

names-step : (c : Configuration) (w : World) (e : Event) → AllByRecursion NamesByAbort (requests_of w.submits) → AllByRecursion NamesByAbort (requests_of (world_after c w e).submits)
names-step c w e all = subst (λ (rs : List Request). AllByRecursion NamesByAbort rs) (sym (requests-after c w e)) (each-append NamesByAbort (requests_of w.submits) (asked_by w e) all (asked-names w e))

each-request : (P : Request → Type 0) (submits : List Submission) → AllByRecursion P (requests_of submits) → AllByRecursion (λ (s : Submission). P s.request) submits
each-request P [] all = tt
each-request P (s ∷ submits) all = (all.0, each-request P submits all.1)

-- ---- each event

paired-append : (xs ys : List Completion) → AreAbortsPaired xs → AreAbortsPaired ys → AreAbortsPaired (xs ++ ys)
paired-append _ ys at_end paired = paired
paired-append _ ys (alone done rest w a more) paired = alone done (rest ++ ys) w a (paired-append rest ys more paired)
paired-append _ ys (pair done withdrawn rest w n a more) paired = pair done withdrawn (rest ++ ys) w n a (paired-append rest ys more paired)

moves-abort : (cmd : Command) → moves_bytes cmd ≡ true → is_abort cmd ≡ false
moves-abort (command.Abort cid) e = absurd (true≢false (sym e))
moves-abort cmd e = refl

-- a completion of a command that is no Abort
quiet : (request : Request) (answer : Answer) → is_abort request.command ≡ false → NotAborted answer → AreAbortsPaired ((let d : Completion = record { request = request; answer = answer } in d) ∷ [])
quiet request answer no_abort not_aborted =
    alone (record { request = request; answer = answer }) [] (ap (λ (b : Bool). b && (is_ok answer.status && (answer.result == 0))) no_abort) not_aborted at_end

no-memory : (c : Configuration) (s : State) (cmd : Command) → takes_memory c s cmd ≡ true → is_abort cmd ≡ false
no-memory c s (command.Abort cid) e = absurd (true≢false (sym e))
no-memory c s cmd e = refl

-- the second completion of a do
abbrev behind : World → Option ℕ → List Completion
behind w aborts = completion_of (only_status status.Aborted) (option_and_then (λ place. request_at w.submits place) aborts)

-- an Abort that is done
abort-paired : (w : World) (request : Request) (answer : Answer) (aborts : Option ℕ) → is_abort request.command ≡ true → aborts ≡ withdrawn_place w.submits request
    → answer ≡ tells status.Ok (if is_some aborts then 0 else 1) → AreAbortsPaired ((let d : Completion = record { request = request; answer = answer } in d) ∷ [] ++ behind w aborts)
abort-paired w request answer None is_one withdraws told =
    alone (record { request = request; answer = answer }) []
    (ap (λ (b : Bool). b && (is_ok answer.status && (answer.result == 0))) is_one ∙ ap (λ (a : Answer). is_ok a.status && (a.result == 0)) told)
    (ap (λ (a : Answer). is_aborted a.status) told) at_end
abort-paired w request answer (Some aborted) is_one withdraws told =
    let h = withdrawn-queued w.submits request aborted (sym withdraws) in
    let t : Submission = h.0 in
    let at : t.request.place ≡ aborted = submit-place w.submits aborted t h.1 in
    let done : Completion = record { request = request; answer = answer } in
    let second : Completion = record { request = t.request; answer = only_status status.Aborted } in
    let there : behind w (Some aborted) ≡ second ∷ [] =
    ap (λ (o : Option Submission). completion_of (only_status status.Aborted) (option_map (λ (s : Submission). s.request) o)) h.1 in
    subst (λ (more : List Completion). AreAbortsPaired (done ∷ [] ++ more)) (sym there)
    (pair done second []
    (ap (λ (b : Bool). b && (is_ok answer.status && (answer.result == 0))) is_one ∙ ap (λ (a : Answer). is_ok a.status && (a.result == 0)) told)
    (h.3 ∙ ap (λ (p : ℕ). Some p) (sym at)) refl at_end)

-- any other command that is done
other-paired : (w : World) (request : Request) (answer : Answer) (aborts : Option ℕ) → is_abort request.command ≡ false → request.names ≡ None → aborts ≡ withdrawn_place w.submits request
    → NotAborted answer → AreAbortsPaired ((let d : Completion = record { request = request; answer = answer } in d) ∷ [] ++ behind w aborts)
other-paired w request answer aborts no_abort names withdraws not_aborted =
    let none : aborts ≡ None = withdraws ∙ ap (λ (o : Option ℕ). option_and_then (λ place. option_and_then (λ (s : Submission). if is_queued s.stage then Some place else None) (submit_at w.submits place)) o) names in
    subst (λ (o : Option ℕ). AreAbortsPaired ((let d : Completion = record { request = request; answer = answer } in d) ∷ [] ++ behind w o)) (sym none)
    (quiet request answer no_abort not_aborted)

do-paired : (c : Configuration) (w : World) (by host ordinal : ℕ) (answer : Answer) (aborts : Option ℕ) (s : Submission) → NamesByAbort s.request
    → MayDo c w by host ordinal answer aborts s → AreAbortsPaired ((let d : Completion = record { request = s.request; answer = answer } in d) ∷ [] ++ behind w aborts)
do-paired c w by host ordinal answer aborts s names may = by_memory (is_no_memory answer.status) may.told
  where
    by_kind : (b : Bool) → is_abort s.request.command ≡ b → answer ≡ (if b then tells status.Ok (if is_some aborts then 0 else 1) else (outcome_of c w.state s.request.command).answer)
        → AreAbortsPaired ((let d : Completion = record { request = s.request; answer = answer } in d) ∷ [] ++ behind w aborts)
    by_kind true e told = abort-paired w s.request answer aborts e may.withdraws told
    by_kind false e told = other-paired w s.request answer aborts e (names e) may.withdraws
        (ap (λ (a : Answer). is_aborted a.status) told ∙ outcome-abort c w.state s.request.command)

    by_memory : (b : Bool) → MayAnswer b c w s.request.command aborts answer
        → AreAbortsPaired ((let d : Completion = record { request = s.request; answer = answer } in d) ∷ [] ++ behind w aborts)
    by_memory true told =
        let e = no-memory c w.state s.request.command told.1 in
        other-paired w s.request answer aborts e (names e) may.withdraws (ap (λ (a : Answer). is_aborted a.status) told.0)
    by_memory false told = by_kind (is_abort s.request.command) refl told.0

paired-step : (c : Configuration) (commands : ℕ) (w : World) (e : Event) → SoundWorld c w → AllByRecursion NamesByAbort (requests_of w.submits) → IsAllowedIn c commands w e
    → AreAbortsPaired (completions_by w e)
paired-step c commands w (event.Submit by cid ordinal cmd) sound names allowed = at_end
paired-step c commands w (event.Claim by host ordinal sent) sound names allowed = at_end
paired-step c commands w (event.Finish by place answer) sound names allowed =
    let found = some-and (λ (x : OpenClaim). MayFinish c by answer x) (claim_at w.claims place) allowed in
    let claim : OpenClaim = found.0 in
    let finds : FindsItself c w.state claim = found-each (FindsItself c w.state) _ w.claims claim sound.own found.1 in
    subst (λ (o : Option OpenClaim). AreAbortsPaired (completion_of answer (option_map (λ (x : OpenClaim). x.request) o))) (sym found.1)
    (quiet claim.request answer (moves-abort claim.request.command finds.moves)
    (ap (λ (a : Answer). is_aborted a.status) found.2.told ∙ written-abort c claim.execution (carried claim.pieces) claim.request.command))
paired-step c commands w (event.Do by host ordinal sent answer aborts) sound names allowed =
    let found = some-and (λ (s : Submission). MayDo c w by host ordinal answer aborts s) (submit_at w.submits sent) allowed in
    subst (λ (o : Option Submission). AreAbortsPaired (completion_of answer (option_map (λ (s : Submission). s.request) o) ++ behind w aborts)) (sym found.1)
    (do-paired c w by host ordinal answer aborts found.0
    (found-each (λ (s : Submission). NamesByAbort s.request) _ w.submits found.0 (each-request NamesByAbort w.submits names) found.1) found.2)
paired-step c commands w (event.Take by cid posted) sound names allowed = at_end
paired-step c commands w (event.Rest by) sound names allowed = at_end

paired-from : (c : Configuration) (commands : ℕ) (w : World) (trail : Trail) → SoundWorld c w → AllByRecursion NamesByAbort (requests_of w.submits) → AreAbortsPaired w.history
    → IsLawfulFrom c commands w trail → AreAbortsPaired (world_from c w trail).history
paired-from c commands w [] sound names paired lawful = paired
paired-from c commands w (e ∷ trail) sound names paired lawful =
    paired-from c commands (world_after c w e) trail (sound-step c commands w e sound lawful.0) (names-step c w e names)
    (paired-append w.history (completions_by w e) paired (paired-step c commands w e sound names lawful.0)) lawful.1

pub paired-world : (c : Configuration) (commands : ℕ) (trail : Trail) → IsLawful c commands trail → AreAbortsPaired (history_of c trail)
paired-world c commands trail lawful = paired-from c commands (first_world c) trail (sound-first c) tt at_end lawful

-- ---- what an Abort tells

pub abort-told : (c : Configuration) (commands : ℕ) (w : World) (by host ordinal sent : ℕ) (answer : Answer) (aborts : Option ℕ) (s : Submission)
    → IsAllowedIn c commands w (event.Do by host ordinal sent answer aborts) → submit_at w.submits sent ≡ Some s → is_abort s.request.command ≡ true
    → answer ≡ tells status.Ok (if is_some (withdrawn_place w.submits s.request) then 0 else 1)
abort-told c commands w by host ordinal sent answer aborts s allowed e is_one =
    let found = some-and (λ (x : Submission). MayDo c w by host ordinal answer aborts x) (submit_at w.submits sent) allowed in
    let same : found.0 ≡ s = some-same found.0 s (sym found.1 ∙ e) in
    let may : MayDo c w by host ordinal answer aborts s = subst (λ (x : Submission). MayDo c w by host ordinal answer aborts x) same found.2 in
    by_memory may (is_no_memory answer.status) may.told
  where
    by_memory : MayDo c w by host ordinal answer aborts s → (b : Bool) → MayAnswer b c w s.request.command aborts answer
        → answer ≡ tells status.Ok (if is_some (withdrawn_place w.submits s.request) then 0 else 1)
    by_memory may true told = absurd (true≢false (sym is_one ∙ no-memory c w.state s.request.command told.1))
    by_memory may false told =
        told.0 ∙ (ap (λ (b : Bool). if b then tells status.Ok (if is_some aborts then 0 else 1) else (outcome_of c w.state s.request.command).answer) is_one
        ∙ ap (λ (o : Option ℕ). tells status.Ok (if is_some o then 0 else 1)) may.withdraws)
