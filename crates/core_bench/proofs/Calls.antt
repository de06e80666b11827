-- What the calls of a device leave of it.
use Rattle.std.proofs.Common.{◌≡◌, ◌∙◌, ℕ, ◌+◌, ◌<◌, if◌then◌else◌, List, [], ◌∷◌, ◌++◌, length, length-append, Result, Ok, Err, is_ok, refl, sym, ap, subst, arith, drop, get_or, slice_get, take}
use Rattle.std.specs.Prelude.{IfOk, OnErr, OnOk}
use Rattle.cp_base.specs.Answer.{answer_of}
use Rattle.cp_base.specs.Configuration.{Configuration}
use Rattle.cp_base.specs.declared.commands.Command.{Command}
use Rattle.device_model.specs.State.{State}
use Rattle.trail_model.specs.Lawful.{IsLawful}
use Rattle.trail_model.specs.World.{Submission, completions_by, ordinal_after, pickable_among, withdrawn_place}
use Rattle.trail_model.specs.declared.events.Event.{Event}
use Rattle.trail_model.specs.declared.events.Event.TheVariants as event
use Rattle.core_model.specs.Causes.{take_answer}
use Rattle.queue_pairs.specs.declared.causes.TakeCause.{TakeCause}
use Rattle.job_run.specs.Works.{IsWork, IsWorkDone}
use Rattle.job_run.specs.declared.work.Work.{Work}
use Rattle.job_run.specs.declared.work.Worked.{Worked}
use Rattle.device_core.specs.Gives.{Claims, Does as DoesAtOnce, Gives, world_in}
use Rattle.device_core.specs.Recorded.{Appends, Recorded}
use Rattle.device_core.specs.declared.answers.Picked.TheVariants as picked
use Rattle.step_driver.specs.Held.{HoldsWorks}
use Rattle.step_driver.specs.declared.running.Held.{Held}
use Rattle.step_driver.proofs.Doing.{finish-done, may-finish, send-done, take-done, there, turn-claimed, turn-did}
use Rattle.core_bench.specs.Progress.{IsLater, open_on, over_on, sent_as, sent_on}
use Rattle.core_bench.proofs.Events.{later-same, later-then, open-held, over-finished, over-still, sent-still, sent-then}

-- the works of the open claims are the same, and as many commands are over
pub record Keeps (old new : Recorded) (held : List Held) : Type 0 where
  pub holds : HoldsWorks new held
  pub later : IsLater old new
  pub claims : open_on new ≡ open_on old
  pub over : over_on new ≡ over_on old

keeps-then : (old new : Recorded) (held : List Held) (e : Event) → HoldsWorks old held → HoldsWorks new held → Appends old new e → completions_by (world_in old) e ≡ [] → Keeps old new held
keeps-then old new held e before after appended none = record {
  holds = after;
  later = later-then old new e appended;
  claims = open-held new held after ∙ sym (open-held old held before);
  over = over-still old new e appended none;
}

keeps-same : (old new : Recorded) (held : List Held) → HoldsWorks old held → new ≡ old → Keeps old new held
keeps-same old new held holds same = record {
  holds = subst (λ (d : Recorded). HoldsWorks d held) (sym same) holds;
  later = later-same old new same;
  claims = ap open_on same;
  over = ap over_on same;
}

-- a submit, placed or refused
pub submit-keeps : {A E : Type 0} (r : Result A E) (old new : Recorded) (held : List Held) (host cid : ℕ) (cmd : Command) → HoldsWorks old held
    → OnOk r (Appends old new (event.Submit host cid (ordinal_after (world_in old).submits host) cmd)) → OnErr r (new ≡ old)
    → IsLawful new.config new.commands new.trail → Keeps old new held
submit-keeps (Ok place) old new held host cid cmd holds appended same lawful =
    keeps-then old new held (event.Submit host cid (ordinal_after (world_in old).submits host) cmd) holds
    (send-done old new held host cid cmd holds appended lawful).0 appended refl
submit-keeps (Err refused) old new held host cid cmd holds appended same lawful = keeps-same old new held holds same

pub submit-sends : {A E : Type 0} (r : Result A E) (old new : Recorded) (host cid : ℕ) (cmd : Command)
    → OnOk r (Appends old new (event.Submit host cid (ordinal_after (world_in old).submits host) cmd)) → OnErr r (new ≡ old)
    → sent_on new ≡ (if is_ok r then sent_on old ++ sent_as host cid cmd ∷ [] else sent_on old)
submit-sends (Ok place) old new host cid cmd appended same = sent-then old new (event.Submit host cid (ordinal_after (world_in old).submits host) cmd) appended
submit-sends (Err refused) old new host cid cmd appended same = ap sent_on same

-- a take, answered or refused
pub take-keeps : (r : Result ℕ TakeCause) (old new : Recorded) (held : List Held) (host cid : ℕ) → HoldsWorks old held → r ≡ take_answer (world_in old) host cid
    → IfOk r (λ posted. Appends old new (event.Take host cid posted)) → OnErr r (new ≡ old)
    → IsLawful new.config new.commands new.trail → Keeps old new held
take-keeps (Ok posted) old new held host cid holds answer appended same lawful =
    keeps-then old new held (event.Take host cid posted) holds (take-done old new held host cid posted holds (sym answer) appended lawful).0 appended refl
take-keeps (Err cause) old new held host cid holds answer appended same lawful = keeps-same old new held holds same

pub take-sends : (r : Result ℕ TakeCause) (old new : Recorded) (host cid : ℕ) → IfOk r (λ posted. Appends old new (event.Take host cid posted)) → OnErr r (new ≡ old)
    → sent_on new ≡ sent_on old
take-sends (Ok posted) old new host cid appended same = sent-still old new (event.Take host cid posted) appended refl
take-sends (Err cause) old new host cid appended same = ap sent_on same

-- ---- claims and their ends

pub record Opens (old new : Recorded) (held : List Held) : Type 0 where
  pub holds : HoldsWorks new held
  pub later : IsLater old new
  pub sent : sent_on new ≡ sent_on old
  pub claims : open_on new ≡ open_on old + 1
  pub over : over_on new ≡ over_on old

-- a command is claimed, and its work is held too
pub claim-opens : (old new : Recorded) (held : List Held) (by skip claim : ℕ) (w : Work) → HoldsWorks old held → Gives old by skip (picked.Claimed w claim) new
    → IsLawful new.config new.commands new.trail → Opens old new (held ++ (let h : Held = record { by = by; claim = claim; work = w } in h) ∷ [])
claim-opens old new held by skip claim w holds gives lawful =
    let h : Held = record { by = by; claim = claim; work = w } in
    let s = there (λ (s : Submission). Claims old new by s w) (slice_get (pickable_among old.config (world_in old)) skip) gives.1 in
    let e : Event = event.Claim by s.0.request.host s.0.request.ordinal s.0.request.place in
    let after : HoldsWorks new (held ++ h ∷ []) = (turn-claimed old new held by skip claim w holds gives lawful).0 in
    let a = open-held old held holds in
    let b = open-held new (held ++ h ∷ []) after in
    let more = length-append held (h ∷ []) in
    record {
      holds = after;
      later = later-then old new e s.2.event;
      sent = sent-still old new e s.2.event refl;
      claims = omega arith;
      over = over-still old new e s.2.event refl;
    }

pub record Leaves (old new : Recorded) (held : List Held) : Type 0 where
  pub holds : HoldsWorks new held
  pub later : IsLater old new
  pub sent : sent_on new ≡ sent_on old

-- a command is done at once
pub did-leaves : (old new : Recorded) (held : List Held) (by skip : ℕ) → HoldsWorks old held → Gives old by skip picked.Did new → IsLawful new.config new.commands new.trail
    → Leaves old new held
did-leaves old new held by skip holds gives lawful =
    let s = there (λ (s : Submission). DoesAtOnce old new by s) (slice_get (pickable_among old.config (world_in old)) skip) gives in
    let e : Event = event.Do by s.0.request.host s.0.request.ordinal s.0.request.place s.2.answer (withdrawn_place (world_in old).submits s.0.request) in
    record {
      holds = (turn-did old new held by skip holds gives lawful).0;
      later = later-then old new e s.2.event;
      sent = sent-still old new e s.2.event refl;
    }

-- nothing has happened
pub same-leaves : (old new : Recorded) (held : List Held) → HoldsWorks old held → new ≡ old → Leaves old new held
same-leaves old new held holds same = record {
  holds = subst (λ (d : Recorded). HoldsWorks d held) (sym same) holds;
  later = later-same old new same;
  sent = ap sent_on same;
}

pub record Ends (old new : Recorded) (held : List Held) : Type 0 where
  pub holds : HoldsWorks new (take 0 held ++ drop 1 held)
  pub later : IsLater old new
  pub sent : sent_on new ≡ sent_on old
  pub claims : open_on new + 1 ≡ open_on old
  pub over : over_on new ≡ over_on old + 1

count-others : (held : List Held) → 0 < length held → length (take 0 held ++ drop 1 held) + 1 ≡ length held
count-others [] some = absurd (omega arith)
count-others (x ∷ held) some = omega arith

-- the first of the open claims ends, whose work was carried out
pub finish-ends : (old new : Recorded) (held : List Held) (h : Held) (done : Worked) → HoldsWorks old held → 0 < length held → h ≡ get_or held 0 h
    → ((c : Configuration) (s : State) → IsWork c s h.work → IsWorkDone c s h.work done)
    → Appends old new (event.Finish h.by h.claim (answer_of done.reply)) → IsLawful new.config new.commands new.trail → Ends old new held
finish-ends old new held h done holds some is ran appended lawful =
    let e : Event = event.Finish h.by h.claim (answer_of done.reply) in
    let after : HoldsWorks new (take 0 held ++ drop 1 held) = (finish-done old new held 0 h done holds some is ran appended lawful).0 in
    let a = open-held old held holds in
    let b = open-held new (take 0 held ++ drop 1 held) after in
    let less = count-others held some in
    record {
      holds = after;
      later = later-then old new e appended;
      sent = sent-still old new e appended refl;
      claims = omega arith;
      over = over-finished old new h.by h.claim (answer_of done.reply) done appended (may-finish old held 0 h done holds some is ran);
    }
