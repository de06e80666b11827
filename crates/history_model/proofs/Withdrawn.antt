-- Where no command is an Abort, none is withdrawn.
use Rattle.std.proofs.Common.{ℕ, List, [], ◌∷◌, map}
use Rattle.std.specs.Prelude.{◌≢◌}
use Rattle.std.specs.List.{All, AllByRecursion}
use Rattle.std.proofs.lemmas.List.Elements.{All-contains_itself}
use Rattle.cp_base.specs.Configuration.{Configuration}
use Rattle.cp_base.specs.declared.commands.Command.TheVariants as command
use Rattle.cp_base.specs.declared.replies.Status.TheVariants as status
use Rattle.script_cmds.specs.declared.item.Phase.{Phase}
use Rattle.history_model.specs.Entry.{Entry}
use Rattle.history_model.specs.Legal.{ArePaired, HasWithdrawn, IsLegal, StandBehind}
use Rattle.history_model.specs.Sent.{Sent, sends_of}
use Rattle.history_model.proofs.Every.{every-All, every-of-All, every-weaker}
use Rattle.history_model.proofs.OneHistory.{Among, each-among, every-among}

-- a command is no Abort
abbrev pub IsNoAbort : Sent → Type 0
IsNoAbort sent = (cid : ℕ) → sent.command ≢ command.Abort cid

-- a command was not withdrawn
abbrev pub IsDone : Entry → Type 0
IsDone entry = entry.answer.status ≢ status.Aborted

none_behind : (before : Entry) (entries : List Entry) → IsNoAbort before.sent → AllByRecursion (λ (entry : Entry). IsNoAbort entry.sent) entries
    → StandBehind before entries → AllByRecursion IsDone entries
none_behind before [] other all pairs = tt
none_behind before (entry ∷ entries) other all pairs = (
  (λ is. let by : HasWithdrawn before = (pairs.0.aborted is).0 in other by.cid by.abort),
  none_behind entry entries all.0 all.1 pairs.1,
)

-- where no entry is that of an Abort, none is that of a withdrawn command
pub none_withdrawn : (entries : List Entry) → AllByRecursion (λ (entry : Entry). IsNoAbort entry.sent) entries → ArePaired entries → AllByRecursion IsDone entries
none_withdrawn [] all pairs = tt
none_withdrawn (entry ∷ entries) all pairs = (pairs.0, none_behind entry entries all.0 all.1 pairs.1)

-- the same of a plan without an Abort
pub none_in_plan : (c : Configuration) (plan : List Phase) (history : List Entry) → IsLegal c plan history → All IsNoAbort (sends_of plan) → All IsDone history
none_in_plan c plan history legal all =
    let sents : List Sent = map (λ (entry : Entry). entry.sent) history in
    let among = each-among sents (sends_of plan) history legal.each_once (All-contains_itself sents) in
    let sends = every-of-All IsNoAbort (sends_of plan) all in
    let entries = every-weaker (λ (entry : Entry). Among (sends_of plan) entry.sent) (λ (entry : Entry). IsNoAbort entry.sent)
    (λ entry found. every-among IsNoAbort (sends_of plan) entry.sent sends found) history among in
    every-All IsDone history (none_withdrawn history entries legal.paired)

none_paired_behind : (before : Entry) (entries : List Entry) → IsNoAbort before.sent → AllByRecursion (λ (entry : Entry). IsNoAbort entry.sent) entries
    → AllByRecursion IsDone entries → StandBehind before entries
none_paired_behind before [] other all done = λ by. other by.cid by.abort
none_paired_behind before (entry ∷ entries) other all done = (
  record { aborted = λ is. absurd (done.0 is); follows = λ by. absurd (other by.cid by.abort) },
  none_paired_behind entry entries all.0 all.1 done.1,
)

-- where no entry is that of an Abort and none that of a withdrawn command, there is no pair
pub none_paired : (entries : List Entry) → AllByRecursion (λ (entry : Entry). IsNoAbort entry.sent) entries → AllByRecursion IsDone entries → ArePaired entries
none_paired [] all done = tt
none_paired (entry ∷ entries) all done = (done.0, none_paired_behind entry entries all.0 all.1 done.1)

-- Ok is not Aborted
pub ok-done : status.Ok ≢ status.Aborted
ok-done is = cc
