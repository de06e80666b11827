-- What the calls of the core leave of a device and the works of its open claims.
use Rattle.std.proofs.Common.{◌≡◌, ◌≢◌, ◌∙◌, ℕ, zero, suc, ◌+◌, ◌<◌, ◌≤◌, Bool, true, false, if◌then◌else◌, List, [], ◌∷◌, ◌++◌, length, Option, Some, None, Result, Ok, Err, refl, sym, ap, subst, arith, inl, inr, get_or, slice_get, take, drop, IsSomeAnd}
use Rattle.cp_base.specs.Answer.{Answer, answer_of}
use Rattle.cp_base.specs.Configuration.{Configuration}
use Rattle.cp_base.specs.declared.commands.Command.{Command}
use Rattle.queue_pairs.specs.declared.causes.TakeCause.{TakeCause}
use Rattle.device_model.specs.State.{State}
use Rattle.trail_model.specs.Lawful.{IsLawful}
use Rattle.trail_model.specs.World.{OpenClaim, Posted, Queued, Stage, Submission, Taken, Working, World, claim_at, effect_of_claim, ordinal_after, outstanding_under, pickable_among, queued_among, withdrawn_place}
use Rattle.trail_model.specs.declared.events.Event.{Event}
use Rattle.trail_model.specs.declared.events.Event.TheVariants as event
use Rattle.core_model.specs.Causes.{posted_by, posted_of, take_answer}
use Rattle.job_run.specs.Works.{IsWork, IsWorkDone}
use Rattle.job_run.specs.declared.work.Work.{Work}
use Rattle.job_run.specs.declared.work.Worked.{Worked}
use Rattle.device_core.specs.Gives.{Claims, Does as DoesAtOnce, Gives, HasWorked, IsWorkedOf, world_in}
use Rattle.device_core.specs.Recorded.{Appends, Recorded, with_event}
use Rattle.device_core.specs.declared.answers.Picked.TheVariants as picked
use Rattle.schedule_model.specs.Schedule.{Action, Ending, Sending, Turning, taking_of, taking_under}
use Rattle.step_driver.specs.Held.{HoldsWorks, IsHeldFor}
use Rattle.step_driver.specs.Turns.{DoesAction}
use Rattle.step_driver.specs.declared.running.Held.{Held}
use Rattle.step_driver.proofs.Getting.{some-itself}
use Rattle.step_driver.proofs.Holding.{claim-found, claimed, claims-stay, claims-stay-taken, finished, held-at, holds-then, was-allowed, worked-of}

-- an item that is there, by itself
pub there : {A : Type 0} (P : A → Type 0) (o : Option A) → IsSomeAnd o P → (x : A) × (o ≡ Some x) × P x
there P None h = absurd h
there P (Some x) h = (x, refl, h)

-- ---- a claim ends

-- the open claim of a work that is held
pub claim-of : (d : Recorded) (held : List Held) (k : ℕ) (h : Held) → HoldsWorks d held → k < length held → h ≡ get_or held k h
    → (claim : OpenClaim) × (slice_get (world_in d).claims k ≡ Some claim) × IsHeldFor d.config claim h
claim-of d held k h holds below is =
    there (λ (claim : OpenClaim). IsHeldFor d.config claim h) (slice_get (world_in d).claims k) (held-at d.config (world_in d).claims held k h holds.works below is)

pub may-run : (d : Recorded) (held : List Held) (k : ℕ) (h : Held) → HoldsWorks d held → k < length held → h ≡ get_or held k h
    → (c : Configuration) × (s : State) × IsWork c s h.work
may-run d held k h holds below is =
    let claim = claim-of d held k h holds below is in (d.config, claim.2.work.state, claim.2.work.work)

pub may-finish : (d : Recorded) (held : List Held) (k : ℕ) (h : Held) (done : Worked) → HoldsWorks d held → k < length held → h ≡ get_or held k h
    → ((c : Configuration) (s : State) → IsWork c s h.work → IsWorkDone c s h.work done)
    → IsSomeAnd (claim_at (world_in d).claims h.claim) (λ (claim : OpenClaim). HasWorked d h.by done claim)
may-finish d held k h done holds below is ran =
    let claim = claim-of d held k h holds below is in
    let found : claim_at (world_in d).claims h.claim ≡ Some claim.0 =
    ap (λ (n : ℕ). claim_at (world_in d).claims n) claim.2.place ∙ claim-found d k claim.0 holds.lawful claim.1 in
    subst (λ (o : Option OpenClaim). IsSomeAnd o (λ (x : OpenClaim). HasWorked d h.by done x)) (sym found)
    (record {
      own = sym claim.2.party;
      worked = worked-of d.config claim.0 h.work done claim.2.work (ran d.config claim.2.work.state claim.2.work.work);
    })

pub finish-done : (old new : Recorded) (held : List Held) (k : ℕ) (h : Held) (done : Worked) → HoldsWorks old held → k < length held → h ≡ get_or held k h
    → ((c : Configuration) (s : State) → IsWork c s h.work → IsWorkDone c s h.work done)
    → Appends old new (event.Finish h.by h.claim (answer_of done.reply)) → IsLawful new.config new.commands new.trail
    → HoldsWorks new (take k held ++ drop (suc k) held) × IsSomeAnd (slice_get (world_in old).claims k) (λ (claim : OpenClaim). DoesAction old new (Ending claim))
finish-done old new held k h done holds below is ran appended lawful =
    let claim = claim-of old held k h holds below is in
    let worked : IsWorkedOf old.config claim.0 done = worked-of old.config claim.0 h.work done claim.2.work (ran old.config claim.2.work.state claim.2.work.work) in
    let same : event.Finish h.by h.claim (answer_of done.reply) ≡ event.Finish claim.0.party claim.0.place (answer_of done.reply) =
    ap (λ (n : ℕ). event.Finish n h.claim (answer_of done.reply)) claim.2.party ∙ ap (λ (n : ℕ). event.Finish claim.0.party n (answer_of done.reply)) claim.2.place in
    let told : event.Finish claim.0.party claim.0.place (answer_of done.reply) ≡ event.Finish claim.0.party claim.0.place (effect_of_claim old.config claim.0).answer =
    ap (λ (a : Answer). event.Finish claim.0.party claim.0.place a) worked.answer in
    let now : Appends old new (event.Finish claim.0.party claim.0.place (answer_of done.reply)) = appended ∙ ap (λ (e : Event). with_event old e) same in (
      finished old new held k claim.0 (answer_of done.reply) holds claim.1 now lawful,
      subst (λ (o : Option OpenClaim). IsSomeAnd o (λ (x : OpenClaim). DoesAction old new (Ending x))) (sym claim.1)
          (record { event = event.Finish claim.0.party claim.0.place (answer_of done.reply); appended = now; performs = told }),
    )

-- ---- a worker turns to a command

pub turn-claimed : (old new : Recorded) (held : List Held) (by skip claim : ℕ) (w : Work) → HoldsWorks old held → Gives old by skip (picked.Claimed w claim) new
    → IsLawful new.config new.commands new.trail
    → HoldsWorks new (held ++ (let h : Held = record { by = by; claim = claim; work = w } in h) ∷ [])
    × IsSomeAnd (slice_get (pickable_among old.config (world_in old)) skip) (λ (s : Submission). DoesAction old new (Turning by s))
turn-claimed old new held by skip claim w holds gives lawful =
    let s = there (λ (s : Submission). Claims old new by s w) (slice_get (pickable_among old.config (world_in old)) skip) gives.1 in
    let h : Held = record { by = by; claim = claim; work = w } in (
      claimed old new held by skip s.0 h holds s.1 s.2 refl gives.0 lawful,
      subst (λ (o : Option Submission). IsSomeAnd o (λ (x : Submission). DoesAction old new (Turning by x))) (sym s.1)
          (record {
            event = event.Claim by s.0.request.host s.0.request.ordinal s.0.request.place;
            appended = s.2.event;
            performs = (inl refl, was-allowed old new (event.Claim by s.0.request.host s.0.request.ordinal s.0.request.place) s.2.event lawful);
          }),
    )

pub turn-did : (old new : Recorded) (held : List Held) (by skip : ℕ) → HoldsWorks old held → Gives old by skip picked.Did new → IsLawful new.config new.commands new.trail
    → HoldsWorks new held × IsSomeAnd (slice_get (pickable_among old.config (world_in old)) skip) (λ (s : Submission). DoesAction old new (Turning by s))
turn-did old new held by skip holds gives lawful =
    let s = there (λ (s : Submission). DoesAtOnce old new by s) (slice_get (pickable_among old.config (world_in old)) skip) gives in
    let e : Event = event.Do by s.0.request.host s.0.request.ordinal s.0.request.place s.2.answer (withdrawn_place (world_in old).submits s.0.request) in (
      holds-then old new e holds.few held s.2.event lawful
          (subst (λ claims. Rattle.step_driver.specs.Held.AreHeld old.config claims held)
          (sym (claims-stay old.config (world_in old) by s.0.request.host s.0.request.ordinal s.0.request.place s.2.answer (withdrawn_place (world_in old).submits s.0.request))) holds.works),
      subst (λ (o : Option Submission). IsSomeAnd o (λ (x : Submission). DoesAction old new (Turning by x))) (sym s.1)
          (record { event = e; appended = s.2.event; performs = (inr (s.2.answer, refl), was-allowed old new e s.2.event lawful) }),
    )

-- where so many commands may be picked, something is given
pub gives-some : (old new : Recorded) (by skip : ℕ) → skip < length (pickable_among old.config (world_in old)) → Gives old by skip picked.Nothing new → ⊥
gives-some old new by skip some gives = absurd (let over = gives.1 in omega arith)

pub not-rested : (old new : Recorded) (by skip : ℕ) → skip < length (pickable_among old.config (world_in old)) → Gives old by skip picked.Rested new → ⊥
not-rested old new by skip some gives =
    let none : length (pickable_among old.config (world_in old)) ≡ 0 =
    ap (λ (xs : List Submission). length (Rattle.std.specs.List.filter (λ (x : Submission). Rattle.trail_model.specs.World.is_pickable old.config (world_in old) x.request.command) xs)) gives.2 in
    absurd (omega arith)

-- ---- a host sends, takes, and rests

pub send-done : (old new : Recorded) (held : List Held) (host cid : ℕ) (cmd : Command) → HoldsWorks old held
    → Appends old new (event.Submit host cid (ordinal_after (world_in old).submits host) cmd) → IsLawful new.config new.commands new.trail
    → HoldsWorks new held × DoesAction old new (Sending host cid cmd)
send-done old new held host cid cmd holds appended lawful = (
  holds-then old new (event.Submit host cid (ordinal_after (world_in old).submits host) cmd) holds.few held appended lawful holds.works,
  record { event = event.Submit host cid (ordinal_after (world_in old).submits host) cmd; appended = appended; performs = refl },
)

taken-under : (old new : Recorded) (host cid posted : ℕ) (o : Option Submission) → posted_of o ≡ Ok posted → Appends old new (event.Take host cid posted)
    → IsSomeAnd (slice_get (taking_under host cid o) 0) (λ (action : Action). DoesAction old new action)
taken-under old new host cid posted None is appended = absurd (let no : Err Rattle.queue_pairs.specs.declared.causes.TakeCause.TheVariants.NotOutstanding ≡ Ok posted = is in cc)
taken-under old new host cid posted (Some s) is appended = by_stage s.stage is
  where
    by_stage : (stage : Stage) → posted_by stage ≡ Ok posted → IsSomeAnd (slice_get (taking_of host cid stage) 0) (λ (action : Action). DoesAction old new action)
    by_stage Queued e = absurd (let no : Err Rattle.queue_pairs.specs.declared.causes.TakeCause.TheVariants.NotYet ≡ Ok posted = e in cc)
    by_stage Working e = absurd (let no : Err Rattle.queue_pairs.specs.declared.causes.TakeCause.TheVariants.NotYet ≡ Ok posted = e in cc)
    by_stage (Posted place) e =
        let same : place ≡ posted = cc in
        record { event = event.Take host cid posted; appended = appended; performs = ap (λ (n : ℕ). event.Take host cid n) (sym same) }
    by_stage Taken e = absurd (let no : Err Rattle.queue_pairs.specs.declared.causes.TakeCause.TheVariants.NotOutstanding ≡ Ok posted = e in cc)

pub take-done : (old new : Recorded) (held : List Held) (host cid posted : ℕ) → HoldsWorks old held → take_answer (world_in old) host cid ≡ Ok posted
    → Appends old new (event.Take host cid posted) → IsLawful new.config new.commands new.trail
    → HoldsWorks new held × IsSomeAnd (slice_get (taking_under host cid (outstanding_under (world_in old).submits host cid)) 0) (λ (action : Action). DoesAction old new action)
take-done old new held host cid posted holds answer appended lawful = (
  holds-then old new (event.Take host cid posted) holds.few held appended lawful
      (subst (λ claims. Rattle.step_driver.specs.Held.AreHeld old.config claims held) (sym (claims-stay-taken old.config (world_in old) host cid posted)) holds.works),
  taken-under old new host cid posted (outstanding_under (world_in old).submits host cid) answer appended,
)

-- a reply that is posted may be taken
pub take-posted : (host cid : ℕ) (o : Option Submission) (cause : TakeCause) → 0 < length (taking_under host cid o) → posted_of o ≡ Err cause → ⊥
take-posted host cid None cause some is = absurd (omega arith)
take-posted host cid (Some s) cause some is = by_stage s.stage some is
  where
    by_stage : (stage : Stage) → 0 < length (taking_of host cid stage) → posted_by stage ≡ Err cause → ⊥
    by_stage Queued h e = absurd (omega arith)
    by_stage Working h e = absurd (omega arith)
    by_stage (Posted place) h e = cc
    by_stage Taken h e = absurd (omega arith)

-- how many takes there are: one where the reply is posted
pub takes-ready : (host cid : ℕ) (o : Option Submission) → length (taking_under host cid o) ≡ (if Rattle.std.proofs.Common.is_ok (posted_of o) then 1 else 0)
takes-ready host cid None = refl
takes-ready host cid (Some s) = by_stage s.stage
  where
    by_stage : (stage : Stage) → length (taking_of host cid stage) ≡ (if Rattle.std.proofs.Common.is_ok (posted_by stage) then 1 else 0)
    by_stage Queued = refl
    by_stage Working = refl
    by_stage (Posted place) = refl
    by_stage Taken = refl

pub rest-done : (old new : Recorded) (held : List Held) (by : ℕ) → HoldsWorks old held → new ≡ (if (world_in old).at_rest then old else with_event old (event.Rest by))
    → IsLawful new.config new.commands new.trail → HoldsWorks new held
rest-done old new held by holds is lawful = by_rest (world_in old).at_rest refl
  where
    by_rest : (b : Bool) → (world_in old).at_rest ≡ b → HoldsWorks new held
    by_rest true h =
        let same : new ≡ old = is ∙ ap (λ (b : Bool). if b then old else with_event old (event.Rest by)) h in
        subst (λ (d : Recorded). HoldsWorks d held) (sym same) holds
    by_rest false h =
        let same : new ≡ with_event old (event.Rest by) = is ∙ ap (λ (b : Bool). if b then old else with_event old (event.Rest by)) h in
        holds-then old new (event.Rest by) holds.few held same lawful holds.works
