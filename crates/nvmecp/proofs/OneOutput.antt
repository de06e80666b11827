-- One question and one input have one output.
use Rattle.std.proofs.Common.{◌≡◌, ℕ, ◌≤◌, List, ◌++◌, length, codes, Option, Some, None, Result, Ok, Err, refl, sym, ap, ◌∙◌, subst, arith}
use Rattle.std.specs.Prelude.{IsOk, unwrap_or}
use Rattle.std.specs.List.{AllByRecursion, concat}
use Rattle.std.proofs.lemmas.Bool.{false≢true}
use Rattle.bpf_model.specs.Walk.{bad_place}
use Rattle.bpf_asm.specs.Text.{IsCodeOf, IsFaultyAt, text_of_code}
use Rattle.bpf_asm.proofs.TextLaws.{not_faulty, one_code, one_fault}
use Rattle.script_cmds.specs.declared.script.Script.{Script}
use Rattle.script_cmds.specs.Fault.{first_fault}
use Rattle.script_cmds.specs.Text.{lines_of}
use Rattle.script_cmds.proofs.OneText.{one_text}
use Rattle.script_plan.proofs.FaultLines.{one_fault as one_breach, plan_or_fault}
use Rattle.script_cmds.specs.declared.item.Phase.{Phase}
use Rattle.cp_base.specs.Configuration.{Configuration}
use Rattle.history_model.specs.Legal.{IsLegal}
use Rattle.history_model.specs.Plain.{plain_phases}
use Rattle.history_model.specs.Plan.{PlanFault, plan_of}
use Rattle.history_model.proofs.OneHistory.{one-history}
use Rattle.trail_model.specs.Lawful.{Trail, world_of}
use Rattle.trail_model.specs.World.{first_world}
use Rattle.schedule_model.specs.Schedule.{HasMemory, IsScheduled}
use Rattle.schedule_model.proofs.Settled.{settled}
use Rattle.nvmecp.specs.Lines.{ended_lines, shown_lines}
use Rattle.nvmecp.proofs.Parted.{one_script, parted_or_none}
use Rattle.nvmecp.proofs.Told.{printed_of}
use Rattle.nvmecp.specs.Asm.{IsAssembly, TellsAssembly}
use Rattle.nvmecp.specs.Check.{NoHistory, NoScript, OfParts, TellsLegal, TellsNone}
use Rattle.nvmecp.specs.Code.{code_in, hex_line}
use Rattle.nvmecp.specs.Dis.{BadCode, IsDisassembly, NotHex, TellsCode, TooMuch}
use Rattle.nvmecp.specs.Refusal.{breach_line, fault_line, place_line, refusal_line}
use Rattle.nvmecp.specs.Serve.{IsPrintOfHosts, IsServed, serve_task}
use Rattle.nvmecp.specs.Step.{Faulty, IsHistory, IsPrintOf, IsPrintOfTrail, IsTextOf, TellsScript, Unplanned}
use Rattle.nvmecp.specs.Task.{IsRefusal, Rejected, Task, TooLong}
use Rattle.nvmecp.specs.Upgrade.{IsUpgrade}
use Rattle.nvmecp.specs.Words.{task_of}
use Rattle.nvmecp.specs.declared.words.Asked.{Asked}
use Rattle.nvmecp.specs.declared.words.Asked.TheVariants as asked

-- what two options hold is one
held : {A : Type 0} (x y : A) (o : Option A) → o ≡ Some x → o ≡ Some y → x ≡ y
held {A = A} x y o a b = ap (λ (found : Option A). unwrap_or found x) (sym a ∙ b)

-- an option holds something or nothing
pub not_both : {A : Type 0} (x : A) (o : Option A) → o ≡ None → o ≡ Some x → ⊥
not_both x None a b = absurd cc
not_both x (Some y) a b = absurd cc

-- ---- the code of a text, and the text of code

same_code : (text a b : List ℕ) → IsCodeOf text a → IsCodeOf text b → a ≡ b
same_code text a b p q =
    one_code a b p.program.bytes q.program.bytes p.program.well_formed q.program.well_formed (p.spelled ∙ sym q.spelled)

pub assembled : (input one other : List ℕ) → IsAssembly input one → IsAssembly input other → one ≡ other
assembled input one other a b = a.printed ∙ ap hex_line (same_code input a.code b.code a.read b.read) ∙ sym b.printed

pub disassembled : (input one other : List ℕ) → IsDisassembly input one → IsDisassembly input other → one ≡ other
disassembled input one other a b =
    sym a.printed.spelled ∙ ap text_of_code (held a.code b.code (code_in input) a.read b.read) ∙ b.printed.spelled

-- ---- what is told where an input is rejected

tells_assembly : (input one other : List ℕ) → TellsAssembly input one → TellsAssembly input other → one ≡ other
tells_assembly input one other a b =
    a.told ∙ ap (λ (line : ℕ). refusal_line line (codes "Asm")) (one_fault input a.line b.line a.faulty b.faulty) ∙ sym b.told

tells_code : (input one other : List ℕ) → TellsCode input one → TellsCode input other → one ≡ other
tells_code input one other (NotHex none is) (NotHex none' is') = is ∙ sym is'
tells_code input one other (NotHex none is) (TooMuch code' read' long' is') = absurd (not_both code' (code_in input) none read')
tells_code input one other (NotHex none is) (BadCode code' read' short' bad' is') = absurd (not_both code' (code_in input) none read')
tells_code input one other (TooMuch code read long is) (NotHex none' is') = absurd (not_both code (code_in input) none' read)
tells_code input one other (TooMuch code read long is) (TooMuch code' read' long' is') = is ∙ sym is'
tells_code input one other (TooMuch code read long is) (BadCode code' read' short' bad' is') =
    let same : length code ≡ length code' = ap length (held code code' (code_in input) read read') in
    absurd (omega (arith, same, long, short'))
tells_code input one other (BadCode code read short bad is) (NotHex none' is') = absurd (not_both code (code_in input) none' read)
tells_code input one other (BadCode code read short bad is) (TooMuch code' read' long' is') =
    let same : length code ≡ length code' = ap length (held code code' (code_in input) read read') in
    absurd (omega (arith, same, short, long'))
tells_code input one other (BadCode code read short bad is) (BadCode code' read' short' bad' is') =
    is ∙ ap (λ (found : List ℕ). place_line (bad_place found)) (held code code' (code_in input) read read') ∙ sym is'

same_lines : (a b : Script) (input : List ℕ) → IsTextOf a input → IsTextOf b input → lines_of a ≡ lines_of b
same_lines a b input p q = one_text a b p.sized q.sized (p.read ∙ sym q.read)

tells_script : (input one other : List ℕ) → TellsScript input one → TellsScript input other → one ≡ other
tells_script input one other (Faulty fault is told) (Faulty fault' is' told') =
    told ∙ ap fault_line (held fault fault' (first_fault input) is is') ∙ sym told'
tells_script input one other (Faulty fault is told) (Unplanned script' breach' none' read' planned' told') = absurd (not_both fault (first_fault input) none' is)
tells_script input one other (Unplanned script breach none read planned told) (Faulty fault' is' told') = absurd (not_both fault' (first_fault input) none is')
tells_script input one other (Unplanned script breach none read planned told) (Unplanned script' breach' none' read' planned' told') =
    told ∙ ap breach_line (one_breach script script' breach breach' (same_lines script script' input read read') planned planned') ∙ sym told'

-- what is told of the script that stands before the first empty line
tells_none : (input one other : List ℕ) → TellsNone input one → TellsNone input other → one ≡ other
tells_none input one other (NoHistory none is) (NoHistory none' is') = is ∙ sym is'
tells_none input one other (NoHistory none is) (NoScript parts) = absurd (parted_or_none input parts.script parts.history parts.parted none)
tells_none input one other (NoScript parts) (NoHistory none' is') = absurd (parted_or_none input parts.script parts.history parts.parted none')
tells_none input one other (NoScript parts) (NoScript parts') =
    tells_script parts.script one other parts.holds
    (subst (λ (text : List ℕ). TellsScript text other) (sym (one_script input parts.script parts.history parts'.script parts'.history parts.parted parts'.parted)) parts'.holds)

refusals_agree : (task : Task) (input one other : List ℕ) → ((s t : List ℕ) → task.Refuses input s → task.Refuses input t → s ≡ t)
    → IsRefusal task input one → IsRefusal task input other → one ≡ other
refusals_agree task input one other agree (TooLong long is) (TooLong long' is') = is ∙ sym is'
refusals_agree task input one other agree (TooLong long is) (Rejected short' told') = absurd (omega (arith, long, short'))
refusals_agree task input one other agree (Rejected short told) (TooLong long' is') = absurd (omega (arith, short, long'))
refusals_agree task input one other agree (Rejected short told) (Rejected short' told') = agree one other told told'

pub refused : (word : Asked) (input one other : List ℕ) → IsRefusal (task_of word) input one → IsRefusal (task_of word) input other → one ≡ other
refused (asked.Step workers choices) input one other a b = refusals_agree (task_of (asked.Step workers choices)) input one other (tells_script input) a b
refused asked.Asm input one other a b = refusals_agree (task_of asked.Asm) input one other (tells_assembly input) a b
refused asked.Dis input one other a b = refusals_agree (task_of asked.Dis) input one other (tells_code input) a b
refused asked.Upgrade input one other a b = refusals_agree (task_of asked.Upgrade) input one other (tells_script input) a b
refused asked.Check input one other a b = refusals_agree (task_of asked.Check) input one other (tells_none input) a b

pub serve_refused : (input one other : List ℕ) → IsRefusal serve_task input one → IsRefusal serve_task input other → one ≡ other
serve_refused input one other a b = refusals_agree serve_task input one other (tells_script input) a b

-- ---- no input is both answered and refused

assembled_or_told : (input one other : List ℕ) → IsAssembly input one → TellsAssembly input other → ⊥
assembled_or_told input one other a b =
    let p = a.read.program in
    not_faulty a.code p.bytes p.well_formed p.limit b.line (subst (λ (text : List ℕ). IsFaultyAt text b.line) (sym a.read.spelled) b.faulty)

disassembled_or_told : (input one other : List ℕ) → IsDisassembly input one → TellsCode input other → ⊥
disassembled_or_told input one other a (NotHex none is) = not_both a.code (code_in input) none a.read
disassembled_or_told input one other a (TooMuch code read long is) =
    let same : length a.code ≡ length code = ap length (held a.code code (code_in input) a.read read) in
    absurd (omega (arith, same, long, a.printed.program.limit))
disassembled_or_told input one other a (BadCode code read short bad is) =
    let same : a.code ≡ code = held a.code code (code_in input) a.read read in
    let well = a.printed.program.well_formed in
    absurd (false≢true (sym bad ∙ rw same at well))

planned_or_told : (script : Script) (plan : List Phase) (input other : List ℕ) → first_fault input ≡ None → IsTextOf script input → plan_of script ≡ Ok plan
    → TellsScript input other → ⊥
planned_or_told script plan input other faultless read planned (Faulty fault is told) = not_both fault (first_fault input) faultless is
planned_or_told script plan input other faultless read planned (Unplanned second breach none read' planned' told) =
    plan_or_fault script second plan breach (same_lines script second input read read') planned planned'

-- a result that is there
the_plan : {A : Type 0} (r : Result A PlanFault) → IsOk r → (x : A) × (r ≡ Ok x)
the_plan (Ok x) ok = (x, refl)
the_plan (Err f) ok = absurd cc

upgraded_or_told : (input one other : List ℕ) → IsUpgrade input one → TellsScript input other → ⊥
upgraded_or_told input one other a (Faulty fault is told) = not_both fault (first_fault input) a.faultless is
upgraded_or_told input one other a (Unplanned script breach none read planned told) =
    let plan = the_plan (plan_of a.script) a.planned in
    plan_or_fault a.script script plan.0 breach (same_lines a.script script input a.read read) plan.1 planned

legal_or_script_told : (text history one other : List ℕ) → TellsLegal one text history → TellsScript text other → ⊥
legal_or_script_told text history one other a (Faulty fault is told) = not_both fault (first_fault text) a.of.faultless is
legal_or_script_told text history one other a (Unplanned script breach none read planned told) =
    plan_or_fault a.of.script script a.of.plan breach (same_lines a.of.script script text a.of.read read) a.of.planned planned

legal_or_told : (input one other : List ℕ) → OfParts (TellsLegal one) input → TellsNone input other → ⊥
legal_or_told input one other a (NoHistory none is) = parted_or_none input a.script a.history a.parted none
legal_or_told input one other a (NoScript parts) =
    legal_or_script_told a.script a.history one other a.holds
    (subst (λ (text : List ℕ). TellsScript text other) (one_script input parts.script parts.history a.script a.history parts.parted a.parted) parts.holds)

ends_once : (task : Task) (input one other : List ℕ) → length input ≤ task.limit → ((t : List ℕ) → task.Refuses input t → ⊥) → IsRefusal task input other → ⊥
ends_once task input one other short never (TooLong long is) = absurd (omega (arith, short, long))
ends_once task input one other short never (Rejected within told) = never other told

pub one_end : (word : Asked) (input one other : List ℕ) → length input ≤ (task_of word).limit → (task_of word).Answers input one → IsRefusal (task_of word) input other → ⊥
one_end (asked.Step workers choices) input one other short a b =
    ends_once (task_of (asked.Step workers choices)) input one other short
    (λ t told. planned_or_told a.script a.print.plan input t a.faultless a.read a.print.print.planned told) b
one_end asked.Asm input one other short a b = ends_once (task_of asked.Asm) input one other short (λ t told. assembled_or_told input one t a told) b
one_end asked.Dis input one other short a b = ends_once (task_of asked.Dis) input one other short (λ t told. disassembled_or_told input one t a told) b
one_end asked.Upgrade input one other short a b = ends_once (task_of asked.Upgrade) input one other short (λ t told. upgraded_or_told input one t a told) b
one_end asked.Check input one other short a b = ends_once (task_of asked.Check) input one other short (λ t told. legal_or_told input one t a told) b

pub serve_one_end : (input one other : List ℕ) → length input ≤ serve_task.limit → serve_task.Answers input one → IsRefusal serve_task input other → ⊥
serve_one_end input one other short a b =
    ends_once serve_task input one other short (λ t told. planned_or_told a.script a.print.plan input t a.faultless a.read a.print.print.planned told) b

-- ---- a text tells its history

abbrev ok_or : {A E : Type 0} → A → Result A E → A
ok_or x (Ok y) = y
ok_or x (Err e) = x

same_plans : (script : Script) (plan other : List Phase) → plan_of script ≡ Ok plan → plan_of script ≡ Ok other → plan ≡ other
same_plans script plan other is is' = ap (ok_or plan) (sym is ∙ is')

-- whatever trails tell it
told_once : (script : Script) (text : List ℕ) (plan plan' : List Phase) (trail trail' : Trail) (one : IsPrintOfTrail script plan trail text)
    (other : IsPrintOfTrail script plan' trail' text) → one.tells.history ≡ other.tells.history
told_once script text plan plan' trail trail' one other =
    let c : Configuration = script.config in
    let same : plan ≡ plan' = same_plans script plan plan' one.planned other.planned in
    let legal : IsLegal c plan other.tells.history = subst (λ (of : List Phase). IsLegal c of other.tells.history) (sym same) other.tells.legal in
    one-history c plan script.shows one.tells.history other.tells.history one.tells.legal legal one.sized other.sized (sym one.printed ∙ other.printed)

pub one_history : (script : Script) (text : List ℕ) (workers choices others more : ℕ) (one : IsPrintOf script workers choices text)
    (other : IsPrintOf script others more text) → one.print.tells.history ≡ other.print.tells.history
one_history script text workers choices others more one other = told_once script text one.plan other.plan one.trail other.trail one.print other.print

pub serve_one_history : (script : Script) (text : List ℕ) (one other : IsPrintOfHosts script text) → one.print.tells.history ≡ other.print.tells.history
serve_one_history script text one other = told_once script text one.plan other.plan one.trail other.trail one.print other.print

-- ---- workers and choices select one text

pub one_schedule : (script : Script) (workers choices : ℕ) (text second : List ℕ) (one : IsPrintOf script workers choices text)
    (other : IsPrintOf script workers choices second) → AllByRecursion HasMemory one.trail → AllByRecursion HasMemory other.trail → text ≡ second
one_schedule script workers choices text second one other memory memory' =
    let c : Configuration = script.config in
    let plans : one.plan ≡ other.plan = same_plans script one.plan other.plan one.print.planned other.print.planned in
    let runs : IsScheduled c (plain_phases one.plan) workers choices other.trail =
    subst (λ (plan : List Phase). IsScheduled c (plain_phases plan) workers choices other.trail) (sym plans) other.scheduled in
    let trails : one.trail ≡ other.trail = settled c workers (first_world c) (plain_phases one.plan) choices one.trail other.trail one.scheduled runs memory memory' in
    let text_after : Trail → List ℕ =
    λ trail. concat (ended_lines 1 (world_of c trail).history) ++ concat (shown_lines (world_of c trail).state.contents script.shows) in
    one.print.printed ∙ printed_of c script.shows one.plan (world_of c one.trail) one.print.tells ∙ ap text_after trails
    ∙ sym (printed_of c script.shows other.plan (world_of c other.trail) other.print.tells) ∙ sym other.print.printed
