-- What each call's turn comes to.
use Rattle.std.proofs.Common.{◌≡◌, ◌≤◌, ◌<◌, ℕ, zero, suc, Bool, true, false, List, [], ◌∷◌, ◌++◌, length, Option, Some, None, Ok, Err, Result, slice_get, refl, sym, ap, subst, ◌∙◌, inl, inr, arith, IsSomeAnd, IsTrue, if◌then◌else◌}
use Rattle.std.specs.Prelude.{IsFalse}
use Rattle.std.specs.Arc.{arc_value}
use Rattle.cp_base.specs.Answer.{Answer, answer_of}
use Rattle.cp_base.specs.Configuration.{Configuration}
use Rattle.cp_base.specs.declared.commands.Command.{Command}
use Rattle.queue_pairs.specs.declared.causes.SendCause.{SendCause}
use Rattle.queue_pairs.specs.declared.causes.TakeCause.{TakeCause}
use Rattle.seat_lock.specs.Passes.{AddsAtMostOne, made_by, party_in, party_of, seen_by, seen_in, value_in}
use Rattle.seat_lock.specs.declared.types.Turn.{Turn}
use Rattle.trail_model.specs.Accounts.{account_of, first_account, account_after}
use Rattle.trail_model.specs.Lawful.{IsLawful, Trail, is_idle, party_of_event, world_of}
use Rattle.trail_model.specs.Traced.{EndsIt, IsClaimed as IsClaimOf, IsPostedIn}
use Rattle.trail_model.specs.World.{OpenClaim, Posted, Queued, Request, Stage, Submission, Taken, Working, World, claim_at, claim_by, claim_of, ordinal_after, outstanding_under, pickable_among, queued_among, withdrawn_place}
use Rattle.trail_model.specs.declared.events.Event.{Event}
use Rattle.trail_model.specs.declared.events.Event.TheVariants as event
use Rattle.trail_model.proofs.Counts.{count-world}
use Rattle.trail_model.proofs.Linked.{under-each}
use Rattle.trail_model.proofs.Sound.{some-and}
use Rattle.trail_model.proofs.Submits.{none-some}
use Rattle.trail_model.proofs.Traced.{traced-world}
use Rattle.core_model.specs.Causes.{posted_by, posted_of, submit_cause, take_answer}
use Rattle.job_run.specs.declared.work.Work.{Work}
use Rattle.job_run.specs.declared.work.Worked.{Worked}
use Rattle.device_core.specs.Gives.{Claims, Does, Gives, HasWorked, IsWorkedOf, world_in}
use Rattle.device_core.specs.Recorded.{Recorded, with_event}
use Rattle.device_lock.specs.Names.{DeviceName, recorded_with}
use Rattle.device_lock.specs.Passes.{DevicePass, IsBackAlone, IsBackWith, IsIdle}
use Rattle.device_lock.specs.Jobs.{HasClaim, IsDoneFor, IsJobFor, answer_of_done, pass_of_done, place_of_done, worked_of_done}
use Rattle.device_lock.specs.Answers.{FindsNothing, FindsRest, GoesToRest, HasNone, IsAtRest, IsCompleted, IsFirstClaimed, IsFirstDone, IsNotSubmitted, IsReplied, IsSubmitted, WasAtRest}
use Rattle.device_lock.specs.Given.{GivesFirst}
use Rattle.device_lock.specs.Turns.{IsTurnOf}
use Rattle.device_lock.specs.declared.jobs.Done.{Done}
use Rattle.device_lock.specs.declared.jobs.Job.{Job}
use Rattle.device_lock.specs.declared.kept.Fixed.{Fixed}
use Rattle.device_lock.specs.declared.kept.Given.{Given}
use Rattle.device_lock.specs.declared.kept.Given.TheVariants as given
use Rattle.device_lock.specs.declared.kept.Kept.{Kept}
use Rattle.device_lock.proofs.Coming.{Leaves, adds-none, adds-one, came-alone, came-with, idle-with, lawful-before}
use Rattle.device_lock.proofs.Knowing.{claim-made, idle-there, open-there}

-- what a turn is about: the device, the pass that got it, the pass that leaves, the turn, and what is behind the lock then
module _ (d : DeviceName) (p q : DevicePass) (t : Turn Kept Event Fixed) (k : Kept) (turn : IsTurnOf d p t) where
  Before : Recorded
  Before = recorded_with d (seen_in t)

  -- what a pass has seen after a turn that added nothing
  seen-alone : k.core ≡ recorded_with d (seen_in t) → Leaves t k q → seen_in t ≡ seen_by q
  seen-alone core left = sym (left.seen ∙ ap (λ (r : Recorded). r.trail) core)

  -- ---- submits

  sent-event : (by cid : ℕ) (cmd : Command) → by ≡ party_of p
      → event.Submit by cid (ordinal_after (world_in (value_in t).core).submits by) cmd
      ≡ event.Submit (party_of p) cid (ordinal_after (world_of d.config (seen_in t)).submits (party_of p)) cmd
  sent-event by cid cmd own = λ i. event.Submit (own i) cid (ordinal_after (world_in (turn.core i)).submits (own i)) cmd

  pub sent-core : (by cid : ℕ) (cmd : Command) → by ≡ party_of p
      → k.core ≡ with_event (value_in t).core (event.Submit by cid (ordinal_after (world_in (value_in t).core).submits by) cmd)
      → k.core ≡ recorded_with d (seen_in t ++ event.Submit (party_of p) cid (ordinal_after (world_of d.config (seen_in t)).submits (party_of p)) cmd ∷ [])
  sent-core by cid cmd own added = added ∙ (λ i. with_event (turn.core i) (sent-event by cid cmd own i))

  pub placed : (by cid place : ℕ) (cmd : Command) → by ≡ party_of p
      → submit_cause (value_in t).core.config (value_in t).core.commands (world_in (value_in t).core) by cid ≡ None
      → place ≡ length (value_in t).core.trail
      → k.core ≡ with_event (value_in t).core (event.Submit by cid (ordinal_after (world_in (value_in t).core).submits by) cmd)
      → Leaves t k q → IsSubmitted d p cid cmd q place
  placed by cid place cmd own cause at added left =
      let e : Event = event.Submit (party_of p) cid (ordinal_after (world_of d.config (seen_in t)).submits (party_of p)) cmd in
      let back : IsBackWith d p q (seen_in t) e = came-with d p q t k e turn (sent-core by cid cmd own added) left in
      record {
        before = seen_in t;
        turn = back;
        at_place = at ∙ ap (λ (r : Recorded). length r.trail) turn.core;
        allowed = subst (λ (n : ℕ). submit_cause d.config d.commands (world_of d.config (seen_in t)) n cid ≡ None) own
            (subst (λ (r : Recorded). submit_cause r.config r.commands (world_in r) by cid ≡ None) turn.core cause);
        idle = idle-with d p q (seen_in t) e back (λ a h. h);
      }

  -- ---- takes

  pub answer-before : (by cid : ℕ) (answer : Result ℕ TakeCause) → by ≡ party_of p → answer ≡ take_answer (world_in (value_in t).core) by cid
      → take_answer (world_of d.config (seen_in t)) (party_of p) cid ≡ answer
  answer-before by cid answer own is = sym (is ∙ (λ i. take_answer (world_in (turn.core i)) (own i) cid))

  pub taken-core : (by cid place : ℕ) → by ≡ party_of p → k.core ≡ with_event (value_in t).core (event.Take by cid place)
      → k.core ≡ recorded_with d (seen_in t ++ event.Take (party_of p) cid place ∷ [])
  taken-core by cid place own added = added ∙ (λ i. with_event (turn.core i) (event.Take (own i) cid place))

  pub replied : (by cid place : ℕ) → by ≡ party_of p → Ok place ≡ take_answer (world_in (value_in t).core) by cid
      → k.core ≡ with_event (value_in t).core (event.Take by cid place) → Leaves t k q
      → ((trail : Trail) → trail ≡ seen_in t ++ event.Take (party_of p) cid place ∷ [] → IsSomeAnd (outstanding_under (world_of d.config (seen_in t)).submits (party_of p) cid)
      (λ (s : Submission). IsSomeAnd (slice_get trail place) (λ (e : Event). EndsIt trail s.request e)))
      → IsReplied d p cid q place
  replied by cid place own is added left ended =
      let e : Event = event.Take (party_of p) cid place in
      let back : IsBackWith d p q (seen_in t) e = came-with d p q t k e turn (taken-core by cid place own added) left in
      record {
        before = seen_in t;
        turn = back;
        posted = answer-before by cid (Ok place) own is;
        ended = ended (seen_by q) back.seen;
        idle = idle-with d p q (seen_in t) e back (λ a h. h);
      }

  -- ---- claims

  -- an idle party's turn to the first command that may be picked, as the core gives it
  given-before : (by : ℕ) (g : Given) → by ≡ party_of p → GivesFirst (value_in t).core by g k.core → GivesFirst (recorded_with d (seen_in t)) (party_of p) g k.core
  given-before by g own gives =
      subst (λ (n : ℕ). GivesFirst (recorded_with d (seen_in t)) n g k.core) own (subst (λ (r : Recorded). GivesFirst r by g k.core) turn.core gives)

  -- the pass has no open claim when it gets the turn
  pub idle-now : (by : ℕ) → by ≡ party_of p → IsIdle p → is_idle (world_in (value_in t).core) by ≡ true
  idle-now by own idle =
      (λ i. is_idle (world_in (turn.core i)) (own i)) ∙ idle-there d p (seen_in t) (lawful-before d p t turn) turn.fits idle

  claimed-now : (work : Work) (claim host ordinal : ℕ) (j : Job) → GivesFirst (recorded_with d (seen_in t)) (party_of p) (given.Claimed work claim host ordinal) k.core
      → Leaves t k (Rattle.device_lock.specs.Jobs.pass_of_job j) → Rattle.device_lock.specs.Jobs.place_of_job j ≡ claim → Rattle.device_lock.specs.Jobs.host_of_job j ≡ host
      → Rattle.device_lock.specs.Jobs.ordinal_of_job j ≡ ordinal → Rattle.device_lock.specs.Jobs.work_of_job j ≡ work → IsIdle p → IsFirstClaimed d p j
  claimed-now work claim host ordinal j gives left at of_host of_ordinal has idle =
      let found = some-and (λ (s : Submission). Claims (recorded_with d (seen_in t)) k.core (party_of p) s work × (s.request.host ≡ host) × (s.request.ordinal ≡ ordinal)) (slice_get (pickable_among d.config (world_of d.config (seen_in t))) 0) gives.1 in
      let s : Submission = found.0 in
      let w : World = world_of d.config (seen_in t) in
      let r : DevicePass = Rattle.device_lock.specs.Jobs.pass_of_job j in
      let new : OpenClaim = claim_of d.config w (party_of p) s.request in
      let e : Event = event.Claim (party_of p) s.request.host s.request.ordinal s.request.place in
      let lawful = lawful-before d p t turn in
      let back : IsBackWith d p r (seen_in t) e = came-with d p r t k e turn found.2.0.event left in
      let free : is_idle w (party_of p) ≡ true = idle-there d p (seen_in t) lawful turn.fits idle in
      let made : claim_by (world_of d.config (seen_in t ++ e ∷ [])).claims (party_of p) ≡ Some new = claim-made d.config d.commands (seen_in t) (party_of p) s lawful found.1 free in
      record {
        before = seen_in t;
        first = s;
        picked = found.1;
        turn = back;
        job = record {
          claims = record {
            of_device = back.back.of_device;
            last = (made_by p, back.made ∙ (λ i. made_by p ++ event.Claim (sym back.back.party i) s.request.host s.request.ordinal s.request.place ∷ []));
            opened = subst (λ (n : ℕ). claim_by (world_of d.config (seen_by r)).claims n ≡ Some new) (sym back.back.party)
                (subst (λ (trail : Trail). claim_by (world_of d.config trail).claims (party_of p) ≡ Some new) (sym back.seen) made);
            at_place = count-world d.config (seen_in t) ∙ (sym gives.0 ∙ sym at);
          };
          host = of_host ∙ sym found.2.1;
          ordinal = of_ordinal ∙ sym found.2.2;
          work = subst (λ (x : Work). Rattle.device_core.specs.Gives.IsWorkOf d.config new x) (sym has) found.2.0.claimed;
        };
      }

  pub claimed : (by : ℕ) (work : Work) (claim host ordinal : ℕ) (j : Job) → by ≡ party_of p → GivesFirst (value_in t).core by (given.Claimed work claim host ordinal) k.core
      → Leaves t k (Rattle.device_lock.specs.Jobs.pass_of_job j) → Rattle.device_lock.specs.Jobs.place_of_job j ≡ claim → Rattle.device_lock.specs.Jobs.host_of_job j ≡ host
      → Rattle.device_lock.specs.Jobs.ordinal_of_job j ≡ ordinal → Rattle.device_lock.specs.Jobs.work_of_job j ≡ work → IsIdle p → IsFirstClaimed d p j
  claimed by work claim host ordinal j own gives = claimed-now work claim host ordinal j (given-before by (given.Claimed work claim host ordinal) own gives)

  pub did : (by : ℕ) → by ≡ party_of p → GivesFirst (value_in t).core by given.Did k.core → Leaves t k q → IsFirstDone d p q
  did by own gives left =
      let found = some-and (λ (s : Submission). Does (recorded_with d (seen_in t)) k.core (party_of p) s) (slice_get (pickable_among d.config (world_of d.config (seen_in t))) 0) (given-before by given.Did own gives) in
      let s : Submission = found.0 in
      let w : World = world_of d.config (seen_in t) in
      let e : Event = event.Do (party_of p) s.request.host s.request.ordinal s.request.place found.2.answer (withdrawn_place w.submits s.request) in
      let back : IsBackWith d p q (seen_in t) e = came-with d p q t k e turn found.2.event left in
      record {
        before = seen_in t;
        first = s;
        answer = found.2.answer;
        picked = found.1;
        turn = back;
        idle = idle-with d p q (seen_in t) e back (λ a h. h);
      }

  pub given-adds : (by : ℕ) (g : Given) → by ≡ party_of p → GivesFirst (value_in t).core by g k.core → AddsAtMostOne party_of_event (party_in t) (seen_in t) k.core.trail
  given-adds by (given.Claimed work claim host ordinal) own gives =
      let found = some-and (λ (s : Submission). Claims (recorded_with d (seen_in t)) k.core (party_of p) s work × (s.request.host ≡ host) × (s.request.ordinal ≡ ordinal)) (slice_get (pickable_among d.config (world_of d.config (seen_in t))) 0) (given-before by (given.Claimed work claim host ordinal) own gives).1 in
      let s : Submission = found.0 in
      adds-one d p t k (event.Claim (party_of p) s.request.host s.request.ordinal s.request.place) turn found.2.0.event refl
  given-adds by given.Did own gives =
      let found = some-and (λ (s : Submission). Does (recorded_with d (seen_in t)) k.core (party_of p) s) (slice_get (pickable_among d.config (world_of d.config (seen_in t))) 0) (given-before by given.Did own gives) in
      let s : Submission = found.0 in
      adds-one d p t k (event.Do (party_of p) s.request.host s.request.ordinal s.request.place found.2.answer (withdrawn_place (world_of d.config (seen_in t)).submits s.request))
      turn found.2.event refl
  given-adds by given.Nothing own gives = adds-none d t k (given-before by given.Nothing own gives).0
  given-adds by given.Rested own gives = adds-none d t k (given-before by given.Rested own gives).0

  -- ---- the end of a claim

  pub finished-core : (by claim : ℕ) (answer : Answer) → by ≡ party_of p → k.core ≡ with_event (value_in t).core (event.Finish by claim answer)
      → k.core ≡ recorded_with d (seen_in t ++ event.Finish (party_of p) claim answer ∷ [])
  finished-core by claim answer own added = added ∙ (λ i. with_event (turn.core i) (event.Finish (own i) claim answer))

  -- ---- rests

  rest-event : (by : ℕ) → by ≡ party_of p → k.core ≡ (if (world_in (value_in t).core).at_rest then (value_in t).core else with_event (value_in t).core (event.Rest by))
      → k.core ≡ (if (world_of d.config (seen_in t)).at_rest then recorded_with d (seen_in t) else recorded_with d (seen_in t ++ event.Rest (party_of p) ∷ []))
  rest-event by own rests = rests ∙ (λ i. if (world_in (turn.core i)).at_rest then turn.core i else with_event (turn.core i) (event.Rest (own i)))

  pub rested-by : (by : ℕ) → by ≡ party_of p → k.core ≡ (if (world_in (value_in t).core).at_rest then (value_in t).core else with_event (value_in t).core (event.Rest by))
      → Leaves t k q → IsAtRest d p q
  rested-by by own rests left = by_rest (world_of d.config (seen_in t)).at_rest refl (rest-event by own rests)
    where
      by_rest : (b : Bool) → (world_of d.config (seen_in t)).at_rest ≡ b
          → k.core ≡ (if b then recorded_with d (seen_in t) else recorded_with d (seen_in t ++ event.Rest (party_of p) ∷ [])) → IsAtRest d p q
      by_rest true was core =
          let back = came-alone d p q t k turn core left in
          record {
            rested = inl (record { turn = back; at_rest = subst (λ (s : Trail). (world_of d.config s).at_rest ≡ true) (seen-alone core left) was });
            idle = back.idle;
          }
      by_rest false was core =
          let back = came-with d p q t k (event.Rest (party_of p)) turn core left in
          record {
            rested = inr (record { before = seen_in t; turn = back; busy = was });
            idle = idle-with d p q (seen_in t) (event.Rest (party_of p)) back (λ a h. h);
          }

-- ---- what ended where a reply is posted

some-longer : {A : Type 0} (P Q : A → Type 0) (xs ys : List A) (k : ℕ) → ((x : A) → P x → Q x) → IsSomeAnd (slice_get xs k) P → IsSomeAnd (slice_get (xs ++ ys) k) Q
some-longer P Q [] ys k weaker h = absurd h
some-longer P Q (x ∷ xs) ys zero weaker h = weaker x h
some-longer P Q (x ∷ xs) ys (suc k) weaker h = some-longer P Q xs ys k weaker h

ends-longer : (trail more : Trail) (r : Request) (e : Event) → EndsIt trail r e → EndsIt (trail ++ more) r e
ends-longer trail more r (event.Submit by cid ordinal cmd) h = h
ends-longer trail more r (event.Claim by host ordinal sent) h = h
ends-longer trail more r (event.Finish by claim answer) h = some-longer (λ e. IsClaimOf r e) (λ e. IsClaimOf r e) trail more claim (λ e c. c) h
ends-longer trail more r (event.Do by host ordinal sent answer aborts) h = h
ends-longer trail more r (event.Take by cid posted) h = h
ends-longer trail more r (event.Rest by) h = h

-- where a reply is posted to a host's outstanding command, a longer trail has the event that ended it
pub ended-there : (c : Configuration) (commands : ℕ) (trail longer more : Trail) (by cid place : ℕ) → IsLawful c commands trail → longer ≡ trail ++ more
    → take_answer (world_of c trail) by cid ≡ Ok place
    → IsSomeAnd (outstanding_under (world_of c trail).submits by cid) (λ (s : Submission). IsSomeAnd (slice_get longer place) (λ (e : Event). EndsIt longer s.request e))
ended-there c commands trail longer more by cid place lawful is posted = by_found (outstanding_under (world_of c trail).submits by cid) refl posted
  where
    by_stage : (r : Request) (stage : Stage) → IsPostedIn trail r stage → posted_by stage ≡ Ok place → IsSomeAnd (slice_get longer place) (λ (e : Event). EndsIt longer r e)
    by_stage r Queued there h = absurd (cc)
    by_stage r Working there h = absurd (cc)
    by_stage r (Posted n) there h =
        let same : n ≡ place = cc in
        subst (λ (s : Trail). IsSomeAnd (slice_get s place) (λ (e : Event). EndsIt s r e)) (sym is)
        (some-longer (λ (e : Event). EndsIt trail r e) (λ (e : Event). EndsIt (trail ++ more) r e) trail more place (λ e. ends-longer trail more r e)
        (subst (λ (m : ℕ). IsSomeAnd (slice_get trail m) (λ (e : Event). EndsIt trail r e)) same there))
    by_stage r Taken there h = absurd (cc)

    by_found : (o : Option Submission) → outstanding_under (world_of c trail).submits by cid ≡ o → posted_of o ≡ Ok place
        → IsSomeAnd o (λ (s : Submission). IsSomeAnd (slice_get longer place) (λ (e : Event). EndsIt longer s.request e))
    by_found None e h = absurd (cc)
    by_found (Some s) e h =
        by_stage s.request s.stage
        (under-each (λ (x : Submission). IsPostedIn trail x.request x.stage) (world_of c trail).submits by cid s (traced-world c commands trail lawful).posted e) h

-- ---- the claim of a job that was run

-- it is open when its party gets the turn, and its party has what it comes to
pub may-finish : (d : DeviceName) (x : Done) (t : Turn Kept Event Fixed) (by : ℕ) (claim : OpenClaim) → IsTurnOf d (pass_of_done x) t → IsDoneFor d x claim → by ≡ party_of (pass_of_done x)
    → IsSomeAnd (claim_at (world_in (value_in t).core).claims (place_of_done x)) (λ (opened : OpenClaim). HasWorked (value_in t).core by (worked_of_done x) opened)
may-finish d x t by claim turn done own =
    let there = open-there d (pass_of_done x) (place_of_done x) claim (seen_in t) done.claims (lawful-before d (pass_of_done x) t turn) turn.fits in
    subst (λ (r : Recorded). IsSomeAnd (claim_at (world_in r).claims (place_of_done x)) (λ (opened : OpenClaim). HasWorked r by (worked_of_done x) opened)) (sym turn.core)
    (subst (λ (o : Option OpenClaim). IsSomeAnd o (λ (opened : OpenClaim). HasWorked (recorded_with d (seen_in t)) by (worked_of_done x) opened)) (sym there.found)
    (record { own = there.own ∙ sym own; worked = done.worked }))

pub completed : (d : DeviceName) (x : Done) (q : DevicePass) (t : Turn Kept Event Fixed) (k : Kept) (by : ℕ) (claim : OpenClaim) → IsTurnOf d (pass_of_done x) t → IsDoneFor d x claim
    → by ≡ party_of (pass_of_done x) → k.core ≡ with_event (value_in t).core (event.Finish by (place_of_done x) (answer_of_done x)) → Leaves t k q → IsCompleted d x q
completed d x q t k by claim turn done own added left =
    let p : DevicePass = pass_of_done x in
    let e : Event = event.Finish (party_of p) (place_of_done x) (answer_of_done x) in
    let back : IsBackWith d p q (seen_in t) e = came-with d p q t k e turn (finished-core d p q t k turn by (place_of_done x) (answer_of_done x) own added) left in
    record {
      before = seen_in t;
      turn = back;
      idle = subst (λ (mine : Trail). (account_of mine).claim ≡ None) (sym back.made) (ap (λ a. a.claim) (Rattle.device_lock.proofs.Knowing.account-push first_account (made_by p) e));
    }
