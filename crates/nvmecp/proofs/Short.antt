-- No answer of a script's history has more bytes than one command may move.
use Rattle.std.proofs.Common.{◌≡◌, ◌≤◌, List, [], ◌∷◌, length, map, sym, subst}
use Rattle.std.specs.List.{AllByRecursion}
use Rattle.std.proofs.lemmas.List.Elements.{All-contains_itself}
use Rattle.cp_base.specs.Configuration.{Configuration}
use Rattle.cp_base.specs.declared.limits.TheConstants.{MAX_BUDGET, MAX_TRANSFER}
use Rattle.device_model.specs.Sized.{IsSizedState}
use Rattle.device_model.specs.State.{State, opening}
use Rattle.device_model.proofs.Sizes.{opening_sized, step_sized}
use Rattle.script_line.specs.Sized.{AreSized}
use Rattle.script_cmds.specs.Kept.{KeepsOrderAndLimits}
use Rattle.script_cmds.specs.Text.{lines_of}
use Rattle.script_cmds.specs.declared.item.Phase.{Phase}
use Rattle.script_cmds.specs.declared.script.Script.{Script}
use Rattle.history_model.specs.Entry.{Entry}
use Rattle.history_model.specs.Legal.{IsLegal, Replays, after_entry}
use Rattle.history_model.specs.Sent.{Sent, sends_of}
use Rattle.history_model.specs.Sized.{IsSizedSend}
use Rattle.history_model.proofs.Every.{every-weaker}
use Rattle.history_model.proofs.OneHistory.{Among, each-among, every-among}
use Rattle.script_plan.proofs.SizedSends.{budget_few, sends_sized}

abbrev pub IsShort : Entry → Type 0
IsShort entry = length entry.answer.bytes ≤ MAX_TRANSFER

entries_short : (c : Configuration) (s : State) (entries : List Entry) → c.budget ≤ MAX_BUDGET → IsSizedState s
    → AllByRecursion (λ (entry : Entry). IsSizedSend entry.sent) entries → Replays c s entries → AllByRecursion IsShort entries
entries_short c s [] budget h all replays = tt
entries_short c s (entry ∷ entries) budget h all replays =
    let here = step_sized c s entry.sent.command entry.answer (after_entry c s entry) budget h all.0.command replays.0 in
    (here.answer.short, entries_short c (after_entry c s entry) entries budget here.next all.1 replays.1)

-- of a plan that sends what the script does
pub script_short : (script : Script) (plan : List Phase) (history : List Entry) → AreSized (lines_of script) → KeepsOrderAndLimits script
    → sends_of plan ≡ sends_of script.phases → IsLegal script.config plan history → AllByRecursion IsShort history
script_short script plan history sized kept same legal =
    let c : Configuration = script.config in
    let sents : List Sent = map (λ (entry : Entry). entry.sent) history in
    let sends : AllByRecursion IsSizedSend (sends_of plan) = subst (λ (xs : List Sent). AllByRecursion IsSizedSend xs) (sym same) (sends_sized script sized kept) in
    let among = each-among sents (sends_of plan) history legal.each_once (All-contains_itself sents) in
    let entries = every-weaker (λ (entry : Entry). Among (sends_of plan) entry.sent) (λ (entry : Entry). IsSizedSend entry.sent)
    (λ entry found. every-among IsSizedSend (sends_of plan) entry.sent sends found) history among in
    entries_short c (opening c) history (budget_few script sized kept) (opening_sized c) entries legal.replays
