-- Withdrawn commands stand in pairs in the entries too, and the entries replay.
use Rattle.std.proofs.Common.{◌≡◌, ℕ, ◌==◌, Bool, true, false, ◌&&◌, List, [], ◌∷◌, Some, refl, sym, ap, subst, ◌∙◌}
use Rattle.std.proofs.lemmas.Bool.{true≢false}
use Rattle.cp_base.specs.Answer.{Answer}
use Rattle.cp_base.specs.Configuration.{Configuration}
use Rattle.cp_base.specs.declared.commands.Command.{Command}
use Rattle.cp_base.specs.declared.commands.Command.TheVariants as command
use Rattle.cp_base.specs.declared.replies.Status.{Status}
use Rattle.cp_base.specs.declared.replies.Status.TheVariants as status
use Rattle.device_model.specs.State.{State}
use Rattle.device_model.specs.Step.{DeviceStep}
use Rattle.history_model.specs.Entry.{Entry}
use Rattle.history_model.specs.Legal.{ArePaired, HasWithdrawn, Replays, StandBehind, after_entry, after_history}
use Rattle.history_model.proofs.Settled.{settled}
use Rattle.trail_model.specs.Aborts.{AreAbortsPaired, at_end, alone, pair, is_aborted, is_ok, withdraws_one}
use Rattle.trail_model.specs.Histories.{LeadsTo}
use Rattle.trail_model.specs.Lawful.{is_abort}
use Rattle.trail_model.specs.World.{Completion, Request}
use Rattle.trail_model.proofs.Submits.{eqb-same, same-eqb, some-same}
use Rattle.schedule_model.proofs.Notes.{AllSay, Says}

-- ---- one entry

ok-status : (s : Status) → is_ok s ≡ true → s ≡ status.Ok
ok-status status.Ok e = refl
ok-status s e = absurd (true≢false (sym e))

status-ok : (s : Status) → s ≡ status.Ok → is_ok s ≡ true
status-ok s e = ap is_ok e

not-aborted : (s : Status) → is_aborted s ≡ false → s ≡ status.Aborted → ⊥
not-aborted s e is = true≢false (sym (ap is_aborted is) ∙ e)

ok-not-aborted : (s : Status) → s ≡ status.Ok → s ≡ status.Aborted → ⊥
ok-not-aborted s ok is = true≢false (sym (ap is_ok ok) ∙ ap is_ok is)

abort-of : (cmd : Command) → is_abort cmd ≡ true → (cid : ℕ) × (cmd ≡ command.Abort cid)
abort-of (command.Abort cid) e = (cid, refl)
abort-of cmd e = absurd (true≢false (sym e))

both-true : (a b : Bool) → (a && b) ≡ true → (a ≡ true) × (b ≡ true)
both-true true b e = (refl, e)
both-true false b e = absurd (true≢false (sym e))

-- an entry has withdrawn a command where its completion has
has-withdrawn : (requests : List Request) (done : Completion) (entry : Entry) → Says requests done entry → withdraws_one done ≡ true → HasWithdrawn entry
has-withdrawn requests done entry says e =
    let a = both-true (is_abort done.request.command) (is_ok done.answer.status && (done.answer.result == 0)) e in
    let b = both-true (is_ok done.answer.status) (done.answer.result == 0) a.1 in
    let abort = abort-of done.request.command a.0 in
    record {
      cid = abort.0;
      abort = says.follows.command ∙ abort.1;
      told = ap (λ (x : Answer). x.status) says.answer ∙ ok-status done.answer.status b.0;
      result = ap (λ (x : Answer). x.result) says.answer ∙ eqb-same done.answer.result 0 b.1;
    }

withdraws : (requests : List Request) (done : Completion) (entry : Entry) → Says requests done entry → HasWithdrawn entry → withdraws_one done ≡ true
withdraws requests done entry says h =
    let a : is_abort done.request.command ≡ true = ap is_abort (sym says.follows.command ∙ h.abort) in
    let b : is_ok done.answer.status ≡ true = status-ok done.answer.status (sym (ap (λ (x : Answer). x.status) says.answer) ∙ h.told) in
    let d : (done.answer.result == 0) ≡ true = same-eqb done.answer.result 0 (sym (ap (λ (x : Answer). x.result) says.answer) ∙ h.result) in
    ap (λ (x : Bool). x && (is_ok done.answer.status && (done.answer.result == 0))) a
    ∙ (ap (λ (x : Bool). x && (done.answer.result == 0)) b ∙ d)

-- ---- pairs

behind-alone : (before : Entry) (entries : List Entry) → (HasWithdrawn before → ⊥) → ArePaired entries → StandBehind before entries
behind-alone before [] never paired = never
behind-alone before (entry ∷ entries) never paired =
    (record { aborted = λ is. absurd (paired.0 is); follows = λ by. absurd (never by) }, paired.1)

pub entries-paired : (requests : List Request) (history : List Completion) (entries : List Entry) → AreAbortsPaired history → AllSay requests history entries → ArePaired entries
entries-paired requests [] [] at_end say = tt
entries-paired requests [] (entry ∷ entries) at_end say = absurd say
entries-paired requests (done ∷ rest) [] (alone _ _ one fine paired) say = absurd say
entries-paired requests (done ∷ rest) (entry ∷ entries) (alone _ _ one fine paired) say = (
  (λ is. not-aborted entry.answer.status (ap (λ (x : Answer). is_aborted x.status) say.0.answer ∙ fine) is),
  behind-alone entry entries (λ by. true≢false (sym (withdraws requests done entry say.0 by) ∙ one)) (entries-paired requests rest entries paired say.1),
)
entries-paired requests (done ∷ withdrawn ∷ rest) [] (pair _ _ _ one names aborted paired) say = absurd say
entries-paired requests (done ∷ withdrawn ∷ rest) (entry ∷ []) (pair _ _ _ one names aborted paired) say = absurd say.1
entries-paired requests (done ∷ withdrawn ∷ rest) (entry ∷ other ∷ entries) (pair _ _ _ one names aborted paired) say =
    let h : HasWithdrawn entry = has-withdrawn requests done entry say.0 one in
    let n = say.0.follows.names withdrawn.request.place names in
    let same : n.0 ≡ withdrawn.request = some-same n.0 withdrawn.request (sym n.1 ∙ say.1.0.follows.found) in
    let is : other.answer.status ≡ status.Aborted = ap (λ (x : Answer). x.status) (say.1.0.answer ∙ aborted) in (
      (λ bad. ok-not-aborted entry.answer.status h.told bad),
      (
        record {
          aborted = λ e. (
            h,
            (
              sym n.2 ∙ (ap (λ (r : Request). r.host) same ∙ sym say.1.0.follows.host),
              n.3 ∙ ap (λ (k : ℕ). Some k) (ap (λ (r : Request). r.ordinal) same ∙ sym say.1.0.follows.ordinal),
            ),
          );
          follows = λ by. is;
        },
        behind-alone other entries (λ by. ok-not-aborted other.answer.status by.told is) (entries-paired requests rest entries paired say.1.1),
      ),
    )

-- ---- replays

pub entries-replay : (c : Configuration) (requests : List Request) (s last : State) (history : List Completion) (entries : List Entry) → LeadsTo c s history last → AllSay requests history entries
    → Replays c s entries × (after_history c s entries ≡ last)
entries-replay c requests s last [] [] leads say = (tt, leads)
entries-replay c requests s last [] (entry ∷ entries) leads say = absurd say
entries-replay c requests s last (done ∷ history) [] leads say = absurd say
entries-replay c requests s last (done ∷ history) (entry ∷ entries) leads say =
    let step : DeviceStep c s entry.sent.command entry.answer leads.0 =
    subst (λ (a : Answer). DeviceStep c s entry.sent.command a leads.0) (sym say.0.answer)
    (subst (λ (cmd : Command). DeviceStep c s cmd done.answer leads.0) (sym say.0.follows.command) leads.1) in
    let next : leads.0 ≡ after_entry c s entry = settled c s entry.sent.command entry.answer leads.0 step in
    let rest = entries-replay c requests (after_entry c s entry) last history entries (subst (λ (x : State). LeadsTo c x history last) next leads.2) say.1 in
    ((subst (λ (x : State). DeviceStep c s entry.sent.command entry.answer x) next step, rest.0), rest.1)
