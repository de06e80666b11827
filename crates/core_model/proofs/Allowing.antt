-- Where a call's test over the parts passes, its event is allowed in the world.
use Rattle.std.proofs.Common.{◌≡◌, ℕ, ◌<◌, ◌≤◌, ◌==◌, nat_le, Bool, true, false, not, ◌||◌, cond, List, [], ◌∷◌, find, length, Option, Some, None, is_none, is_some, option_map, refl, sym, ap, subst, ◌∙◌, arith, if◌then◌else◌, slice_get, IsSomeAnd}
use Rattle.std.specs.Prelude.{Ok, IsSome}
use Rattle.std.specs.List.{list_any}
use Rattle.std.proofs.lemmas.Bool.{true≢false}
use Rattle.std.proofs.lemmas.Bool.Decides.{nat_tests}
use Rattle.cp_base.specs.Answer.{Answer}
use Rattle.cp_base.specs.Configuration.{Configuration}
use Rattle.cp_base.specs.declared.commands.Command.{Command}
use Rattle.cp_base.specs.declared.limits.TheConstants.{MAX_HOSTS}
use Rattle.cp_base.specs.declared.replies.Status.TheVariants as status
use Rattle.device_model.specs.Checks.{refusal_of}
use Rattle.device_model.specs.Execution.{tells}
use Rattle.device_model.specs.Memory.{moves_bytes, takes_memory}
use Rattle.device_model.specs.State.{State}
use Rattle.device_model.specs.Step.{outcome_of}
use Rattle.queue_pairs.specs.Outstanding.{is_busy, send_cause, taken, taken_at}
use Rattle.queue_pairs.specs.declared.causes.SendCause.{SendCause}
use Rattle.queue_pairs.specs.declared.causes.SendCause.TheVariants as send
use Rattle.queue_pairs.specs.declared.command.Outstanding.{Outstanding as Waiting}
use Rattle.trail_model.specs.Lawful.{IsAllowedIn, IsParty, MayAnswer, MayClaim, MayDo, MayTurnTo, Trail, is_abort, is_idle, world_of}
use Rattle.trail_model.specs.World.{Posted, Queued, Stage, Submission, Taken, Working, World, is_free, is_no_memory, is_pickable, is_posted_at, is_queued, is_taken_off, outstanding_of, outstanding_under, submit_at}
use Rattle.trail_model.specs.declared.events.Event.TheVariants as event
use Rattle.trail_model.proofs.Linked.{found-under}
use Rattle.trail_model.proofs.Submits.{none-some, same-eqb}
use Rattle.core_model.specs.Asked.{Asked, asked_at, asked_by_request}
use Rattle.core_model.specs.Causes.{MayTell, posted_by, posted_of, submit_cause, submit_cause_in, take_answer, take_answer_in}
use Rattle.core_model.specs.Parts.{Parts, WaitingSubmit, tables_in}
use Rattle.core_model.specs.Picking.{is_clear_of, may_pick, touched_by, withdrawn_waiting}
use Rattle.core_model.specs.Ties.{AreTied, StandFor, as_outstanding, queue_among, queue_stage}
use Rattle.core_model.proofs.Choosing.{any-map, clear-in, may-in, refusal-in, same-tables, waits-in, withdrawn-in}
use Rattle.core_model.proofs.Quiet.{under-same}
use Rattle.core_model.proofs.Reading.{asked-found, asked-same}
use Rattle.core_model.proofs.Steps.{length-shown, some-so}
use Rattle.core_model.proofs.Tabling.{done-same, same-memory}

-- ---- a submit

any-found : {A : Type 0} (test : A → Bool) (xs : List A) → list_any test xs ≡ is_some (find test xs)
any-found test [] = refl
any-found test (x ∷ xs) = by_test (test x) (any-found test xs)
  where
    by_test : (b : Bool) → list_any test xs ≡ is_some (find test xs) → (b || list_any test xs) ≡ is_some (cond b (Some x) (find test xs))
    by_test true later = refl
    by_test false later = later

pub submit-cause : (c : Configuration) (commands : ℕ) (p : Parts) (w : World) (by cid : ℕ) → AreTied c p w
    → submit_cause_in c commands p by cid ≡ submit_cause c commands w by cid
submit-cause c commands p w by cid t =
    ap (λ (n : ℕ). if nat_le commands n then Some send.Spent else send_cause (record { depth = c.depth; commands = p.queues by }) cid) t.submitted
    ∙ (ap (λ (q : List Waiting). if nat_le commands (length w.submits) then Some send.Spent else send_cause (record { depth = c.depth; commands = q }) cid) (t.queues by)
    ∙ (ap (λ (n : ℕ). if nat_le commands (length w.submits) then Some send.Spent else if nat_le c.depth n then Some send.QueueFull
    else if is_busy (queue_among w.submits by) cid then Some send.CidBusy else None) (length-shown as_outstanding (outstanding_of w.submits by))
    ∙ ap (λ (b : Bool). if nat_le commands (length w.submits) then Some send.Spent else if nat_le c.depth (length (outstanding_of w.submits by)) then Some send.QueueFull
    else if b then Some send.CidBusy else None)
    (any-map as_outstanding (λ (x : Waiting). x.cid == cid) (outstanding_of w.submits by)
    ∙ any-found (λ (s : Submission). s.request.cid == cid) (outstanding_of w.submits by))))

le-false : (a b : ℕ) → nat_le a b ≡ false → b < a
le-false a b e = grind (arith, nat_tests)

is-nothing : {A : Type 0} (o : Option A) → is_some o ≡ false → is_none o ≡ true
is-nothing None e = refl
is-nothing (Some x) e = absurd (true≢false e)

-- no cause tells that each test has passed
record NoCause (spent full busy : Bool) : Type 0 where
  not_spent : spent ≡ false
  not_full : full ≡ false
  not_busy : busy ≡ false

cause-none : (cause : SendCause) → Some cause ≡ None → ⊥
cause-none cause e = none-some cause (sym e)

no-cause : (spent full busy : Bool) → (if spent then Some send.Spent else if full then Some send.QueueFull else if busy then Some send.CidBusy else None) ≡ None → NoCause spent full busy
no-cause true full busy e = absurd (cause-none send.Spent e)
no-cause false true busy e = absurd (cause-none send.QueueFull e)
no-cause false false true e = absurd (cause-none send.CidBusy e)
no-cause false false false e = record { not_spent = refl; not_full = refl; not_busy = refl }

pub submit-allowed : (c : Configuration) (commands : ℕ) (p : Parts) (trail : Trail) (by cid : ℕ) (cmd : Command) → StandFor c commands p trail
    → 1 ≤ by → by ≤ MAX_HOSTS → submit_cause_in c commands p by cid ≡ None
    → IsAllowedIn c commands (world_of c trail) (event.Submit by cid (p.ordinals by) cmd)
submit-allowed c commands p trail by cid cmd stand least most none =
    let w : World = world_of c trail in
    let h = no-cause (nat_le commands (length w.submits)) (nat_le c.depth (length (outstanding_of w.submits by))) (is_some (outstanding_under w.submits by cid))
    (sym (submit-cause c commands p w by cid stand.ties) ∙ none) in
    record {
      host = (least, most);
      not_spent = le-false commands (length w.submits) h.not_spent;
      not_full = le-false c.depth (length (outstanding_of w.submits by)) h.not_full;
      not_busy = is-nothing (outstanding_under w.submits by cid) h.not_busy;
      next = stand.ties.ordinals by;
    }

-- ---- a take

pub take-answer : (c : Configuration) (p : Parts) (w : World) (by cid : ℕ) → AreTied c p w → take_answer_in p by cid ≡ take_answer w by cid
take-answer c p w by cid t = ap taken (under-same p c w by cid t) ∙ by_found (outstanding_under w.submits by cid) refl
  where
    by_stage : (s : Submission) (stage : Stage) → is_taken_off stage ≡ false → taken_at (queue_stage stage) ≡ posted_by stage
    by_stage s Queued e = refl
    by_stage s Working e = refl
    by_stage s (Posted place) e = refl
    by_stage s Taken e = absurd (true≢false e)

    by_found : (o : Option Submission) → outstanding_under w.submits by cid ≡ o → taken (option_map as_outstanding o) ≡ posted_of o
    by_found None e = refl
    by_found (Some s) e = by_stage s s.stage (found-under w.submits by cid s e).outstanding

pub take-allowed : (c : Configuration) (commands : ℕ) (p : Parts) (trail : Trail) (by cid posted : ℕ) → StandFor c commands p trail
    → take_answer_in p by cid ≡ Ok posted → IsAllowedIn c commands (world_of c trail) (event.Take by cid posted)
take-allowed c commands p trail by cid posted stand e =
    by_found (outstanding_under (world_of c trail).submits by cid) (sym (take-answer c p (world_of c trail) by cid stand.ties) ∙ e)
  where
    by_stage : (stage : Stage) → posted_by stage ≡ Ok posted → is_posted_at posted stage ≡ true
    by_stage Queued e = cc
    by_stage Working e = cc
    by_stage (Posted place) e = same-eqb place posted (let h : place ≡ posted = cc in h)
    by_stage Taken e = cc

    by_found : (o : Option Submission) → posted_of o ≡ Ok posted → IsSomeAnd o (λ (s : Submission). is_posted_at posted s.stage ≡ true)
    by_found None e = cc
    by_found (Some s) e = by_stage s.stage e

-- ---- picking

some-there : {A : Type 0} (o : Option A) (x : A) → o ≡ Some x → IsSome o
some-there o x e = ap is_some e

pub waits-asked : (c : Configuration) (commands : ℕ) (p : Parts) (trail : Trail) (i : ℕ) (x : WaitingSubmit) → StandFor c commands p trail
    → slice_get p.waiting i ≡ Some x → IsSome (asked_at trail x.sent)
waits-asked c commands p trail i x stand e =
    let there = waits-in c commands p trail i x stand e in
    some-there (asked_at trail x.sent) (asked_by_request there.submit.request) (asked-found c commands trail x.sent there.submit stand.lawful there.found)

-- an idle party turns to what waits
turns-to : (w : World) (by : ℕ) (s : Submission) (asked : Asked) → IsParty by → is_idle w by ≡ true → is_queued s.stage ≡ true
    → asked_by_request s.request ≡ asked → MayTurnTo w by asked.host asked.ordinal s
turns-to w by s asked party idle queued same = record {
  party = party;
  idle = idle;
  queued = queued;
  same_host = ap (λ (a : Asked). a.host) same;
  same_ordinal = ap (λ (a : Asked). a.ordinal) same;
}

pub claim-allowed : (c : Configuration) (commands : ℕ) (p : Parts) (trail : Trail) (by i : ℕ) (x : WaitingSubmit) (asked : Asked) → StandFor c commands p trail
    → IsParty by → is_idle (world_of c trail) by ≡ true → slice_get p.waiting i ≡ Some x → asked_at trail x.sent ≡ Some asked
    → moves_bytes asked.command ≡ true → refusal_of c (tables_in p) asked.command ≡ None → is_clear_of p.kept (touched_by c p asked.command) ≡ true
    → IsAllowedIn c commands (world_of c trail) (event.Claim by asked.host asked.ordinal x.sent)
claim-allowed c commands p trail by i x asked stand party idle e read moves passes free =
    let w : World = world_of c trail in
    let there = waits-in c commands p trail i x stand e in
    let s : Submission = there.submit in
    let same : asked_by_request s.request ≡ asked = asked-same c commands trail x.sent s asked stand.lawful there.found read in
    let cmd : asked.command ≡ s.request.command = sym (ap (λ (a : Asked). a.command) same) in
    some-so (λ (y : Submission). MayClaim c w by asked.host asked.ordinal y) (submit_at w.submits x.sent) s there.found (record {
      turn = turns-to w by s asked party idle there.queued same;
      moves = subst (λ (m : Command). moves_bytes m ≡ true) cmd moves;
      passes = subst (λ (m : Command). is_none (refusal_of c w.state m) ≡ true) cmd
          (ap is_none (sym (refusal-in c p w asked.command stand.ties) ∙ passes));
      free = subst (λ (m : Command). is_free c w m ≡ true) cmd (sym (clear-in c p w asked.command stand.ties) ∙ free);
    })

-- what may be told by the parts may be answered in the world
may-answer : (c : Configuration) (p : Parts) (w : World) (cmd : Command) (aborts : Option ℕ) (answer : Answer) (b : Bool) → AreTied c p w
    → MayTell b c p cmd aborts answer → MayAnswer b c w cmd aborts answer
may-answer c p w cmd aborts answer true t told = (
  told.0,
  same-memory c w.state cmd ∙ (sym (ap (λ (s : State). takes_memory c s cmd) (same-tables c p w t)) ∙ told.1),
)
may-answer c p w cmd aborts answer false t told =
    let once : (not (moves_bytes cmd) || is_some (refusal_of c w.state cmd)) ≡ true =
    sym (ap (λ (o : Option Answer). not (moves_bytes cmd) || is_some o) (refusal-in c p w cmd t)) ∙ told.1 in
    let answers : (outcome_of c (tables_in p) cmd).answer ≡ (outcome_of c w.state cmd).answer =
    ap (λ (s : State). (outcome_of c s cmd).answer) (same-tables c p w t) ∙ sym (done-same c w.state cmd once).answer in
    (told.0 ∙ ap (λ (a : Answer). if is_abort cmd then tells status.Ok (if is_some aborts then 0 else 1) else a) answers, once)

pub do-allowed : (c : Configuration) (commands : ℕ) (p : Parts) (trail : Trail) (by i : ℕ) (x : WaitingSubmit) (asked : Asked) (answer : Answer) → StandFor c commands p trail
    → IsParty by → is_idle (world_of c trail) by ≡ true → slice_get p.waiting i ≡ Some x → asked_at trail x.sent ≡ Some asked
    → may_pick c p asked.command ≡ true → MayTell (is_no_memory answer.status) c p asked.command (withdrawn_waiting p.waiting x.names) answer
    → IsAllowedIn c commands (world_of c trail) (event.Do by asked.host asked.ordinal x.sent answer (withdrawn_waiting p.waiting x.names))
do-allowed c commands p trail by i x asked answer stand party idle e read pickable told =
    let w : World = world_of c trail in
    let there = waits-in c commands p trail i x stand e in
    let s : Submission = there.submit in
    let aborts : Option ℕ = withdrawn_waiting p.waiting x.names in
    let same : asked_by_request s.request ≡ asked = asked-same c commands trail x.sent s asked stand.lawful there.found read in
    let cmd : asked.command ≡ s.request.command = sym (ap (λ (a : Asked). a.command) same) in
    some-so (λ (y : Submission). MayDo c w by asked.host asked.ordinal answer aborts y) (submit_at w.submits x.sent) s there.found (record {
      turn = turns-to w by s asked party idle there.queued same;
      pickable = subst (λ (m : Command). is_pickable c w m ≡ true) cmd (sym (may-in c p w asked.command stand.ties) ∙ pickable);
      withdraws = ap (λ (names : Option ℕ). withdrawn_waiting p.waiting names) there.names ∙ withdrawn-in c commands p trail s.request stand;
      told = subst (λ (m : Command). MayAnswer (is_no_memory answer.status) c w m aborts answer) cmd
          (may-answer c p w asked.command aborts answer (is_no_memory answer.status) stand.ties told);
    })
