-- What each answer of a device means. In each of them `before` is the trail that the device had when the call got its turn.
-- This project's own.
use Rattle.std.specs.Prelude.{◌≡◌, ℕ, ◌⊎◌, [], Err, IsFalse, IsSomeAnd, IsTrue, None, Ok, Some, length, slice_get, true}
use Rattle.std.specs.Arc.{arc_value}
use Rattle.cp_base.specs.Answer.{Answer}
use Rattle.cp_base.specs.declared.commands.Command.{Command}
use Rattle.queue_pairs.specs.declared.causes.SendCause.{SendCause}
use Rattle.queue_pairs.specs.declared.causes.TakeCause.{TakeCause}
use Rattle.seat_lock.specs.Passes.{party_of, seen_by}
use Rattle.trail_model.specs.Lawful.{Trail, world_of}
use Rattle.trail_model.specs.Traced.{EndsIt}
use Rattle.trail_model.specs.World.{Submission, claim_of, ordinal_after, outstanding_under, pickable_among, queued_among, withdrawn_place}
use Rattle.trail_model.specs.declared.events.Event.{Event}
use Rattle.trail_model.specs.declared.events.Event.TheVariants as event
use Rattle.core_model.specs.Causes.{submit_cause, take_answer}
use Rattle.device_lock.specs.Names.{DeviceName}
use Rattle.device_lock.specs.Passes.{DevicePass, IsBackAlone, IsBackBusy, IsBackWith, IsIdle, world_seen}
use Rattle.device_lock.specs.Jobs.{IsJobFor, answer_of_done, pass_of_done, pass_of_job, place_of_done}
use Rattle.device_lock.specs.declared.answers.Offer.{Offer}
use Rattle.device_lock.specs.declared.answers.Offer.TheVariants as offer
use Rattle.device_lock.specs.declared.answers.Sent.{Sent}
use Rattle.device_lock.specs.declared.answers.Sent.TheVariants as sent
use Rattle.device_lock.specs.declared.answers.Taken.{Taken}
use Rattle.device_lock.specs.declared.answers.Taken.TheVariants as taken
use Rattle.device_lock.specs.declared.answers.TryOffer.{TryOffer}
use Rattle.device_lock.specs.declared.answers.TryOffer.TheVariants as try_offer
use Rattle.device_lock.specs.declared.answers.TryTaken.{TryTaken}
use Rattle.device_lock.specs.declared.answers.TryTaken.TheVariants as try_taken
use Rattle.device_lock.specs.declared.jobs.Done.{Done}
use Rattle.device_lock.specs.declared.jobs.Job.{Job}

-- ---- a submit

-- a command is submitted under an identifier: nothing spoke against it, and its submit is the pass's last event, at this place
pub record IsSubmitted (d : DeviceName) (p : DevicePass) (cid : ℕ) (cmd : Command) (q : DevicePass) (place : ℕ) : Type 0 where
  pub before : Trail
  pub turn : IsBackWith d p q before
      (event.Submit (party_of p) cid (ordinal_after (world_of d.config before).submits (party_of p)) cmd)
  pub at_place : place ≡ length before
  pub allowed : submit_cause d.config d.commands (world_of d.config before) (party_of p) cid ≡ None
  pub idle : IsIdle p → IsIdle q

-- a command is not submitted, for this cause, which is there in the trail that the pass has seen
pub record IsNotSubmitted (d : DeviceName) (p : DevicePass) (cid : ℕ) (q : DevicePass) (cause : SendCause) : Type 0 where
  pub turn : IsBackAlone d p q
  pub cause_is : submit_cause d.config d.commands (world_seen d q) (party_of p) cid ≡ Some cause

abbrev pub IsSent : DeviceName → DevicePass → ℕ → Command → Sent → Type 0
IsSent d p cid cmd (sent.Placed q place) = IsSubmitted d p cid cmd q place
IsSent d p cid cmd (sent.Refused q cause command) = IsNotSubmitted d p cid q cause × (arc_value command ≡ cmd)

-- ---- a take

-- A reply is taken: it was posted at this place, where the trail has the event that ended the host's command of the identifier, its
-- finish, its do, or the do that aborts it. The take is the pass's last event.
pub record IsReplied (d : DeviceName) (p : DevicePass) (cid : ℕ) (q : DevicePass) (place : ℕ) : Type 0 where
  pub before : Trail
  pub turn : IsBackWith d p q before (event.Take (party_of p) cid place)
  pub posted : take_answer (world_of d.config before) (party_of p) cid ≡ Ok place
  pub ended : IsSomeAnd (outstanding_under (world_of d.config before).submits (party_of p) cid)
      (λ (s : Submission). IsSomeAnd (slice_get (seen_by q) place) (λ (e : Event). EndsIt (seen_by q) s.request e))
  pub idle : IsIdle p → IsIdle q

-- no reply is taken, for this cause, which is there in the trail that the pass has seen
pub record HasNone (d : DeviceName) (p : DevicePass) (cid : ℕ) (q : DevicePass) (cause : TakeCause) : Type 0 where
  pub turn : IsBackAlone d p q
  pub cause_is : take_answer (world_seen d q) (party_of p) cid ≡ Err cause

abbrev pub IsTaken : DeviceName → DevicePass → ℕ → Taken → Type 0
IsTaken d p cid (taken.Reply q place) = IsReplied d p cid q place
IsTaken d p cid (taken.Refused q cause) = HasNone d p cid q cause

abbrev pub IsTakenInTry : DeviceName → DevicePass → ℕ → TryTaken → Type 0
IsTakenInTry d p cid (try_taken.Reply q place) = IsReplied d p cid q place
IsTakenInTry d p cid (try_taken.Refused q cause) = HasNone d p cid q cause
IsTakenInTry d p cid (try_taken.Busy q word) = IsBackBusy d p q word

-- ---- a claim

-- The first command that may be picked is claimed: the claim is the last event of the job's pass, and the job has its work.
pub record IsFirstClaimed (d : DeviceName) (p : DevicePass) (j : Job) : Type 0 where
  pub before : Trail
  pub first : Submission
  pub picked : slice_get (pickable_among d.config (world_of d.config before)) 0 ≡ Some first
  pub turn : IsBackWith d p (pass_of_job j) before
      (event.Claim (party_of p) first.request.host first.request.ordinal first.request.place)
  pub job : IsJobFor d j (claim_of d.config (world_of d.config before) (party_of p) first.request)

-- The first command that may be picked is done at once: this is the pass's last event. It withdraws what the command names, where
-- that still waits.
pub record IsFirstDone (d : DeviceName) (p q : DevicePass) : Type 0 where
  pub before : Trail
  pub first : Submission
  pub answer : Answer
  pub picked : slice_get (pickable_among d.config (world_of d.config before)) 0 ≡ Some first
  pub turn : IsBackWith d p q before
      (event.Do (party_of p) first.request.host first.request.ordinal first.request.place answer
      (withdrawn_place (world_of d.config before).submits first.request))
  pub idle : IsIdle p → IsIdle q

-- nothing may be picked in the trail that the pass has seen, and the device is not at rest there with nothing queued
pub record FindsNothing (d : DeviceName) (p q : DevicePass) : Type 0 where
  pub turn : IsBackAlone d p q
  pub none : pickable_among d.config (world_seen d q) ≡ []
  pub unrested : (world_seen d q).at_rest ≡ true → queued_among (world_seen d q).submits ≡ [] → ⊥

-- in the trail that the pass has seen the device is at rest and nothing is queued
pub record FindsRest (d : DeviceName) (p q : DevicePass) : Type 0 where
  pub turn : IsBackAlone d p q
  pub at_rest : IsTrue (world_seen d q).at_rest
  pub none : queued_among (world_seen d q).submits ≡ []

abbrev pub IsOffered : DeviceName → DevicePass → Offer → Type 0
IsOffered d p (offer.Claimed j) = IsFirstClaimed d p j
IsOffered d p (offer.Did q) = IsFirstDone d p q
IsOffered d p (offer.Nothing q) = FindsNothing d p q
IsOffered d p (offer.Rested q) = FindsRest d p q

abbrev pub IsOfferedInTry : DeviceName → DevicePass → TryOffer → Type 0
IsOfferedInTry d p (try_offer.Claimed j) = IsFirstClaimed d p j
IsOfferedInTry d p (try_offer.Did q) = IsFirstDone d p q
IsOfferedInTry d p (try_offer.Nothing q) = FindsNothing d p q
IsOfferedInTry d p (try_offer.Rested q) = FindsRest d p q
IsOfferedInTry d p (try_offer.Busy q word) = IsBackBusy d p q word

-- ---- the end of a claim

-- a claim is ended: its finish, told as the command's local effect tells, is the last event of the pass, which is idle
pub record IsCompleted (d : DeviceName) (x : Done) (q : DevicePass) : Type 0 where
  pub before : Trail
  pub turn : IsBackWith d (pass_of_done x) q before
      (event.Finish (party_of (pass_of_done x)) (place_of_done x) (answer_of_done x))
  pub idle : IsIdle q

-- ---- a rest

-- the device was at rest
pub record WasAtRest (d : DeviceName) (p q : DevicePass) : Type 0 where
  pub turn : IsBackAlone d p q
  pub at_rest : IsTrue (world_seen d q).at_rest

-- the device was not at rest, and the rest is the pass's last event
pub record GoesToRest (d : DeviceName) (p q : DevicePass) : Type 0 where
  pub before : Trail
  pub turn : IsBackWith d p q before (event.Rest (party_of p))
  pub busy : IsFalse (world_of d.config before).at_rest

-- a rest is added exactly where the device was not at rest
pub record IsAtRest (d : DeviceName) (p q : DevicePass) : Type 0 where
  pub rested : WasAtRest d p q ⊎ GoesToRest d p q
  pub idle : IsIdle p → IsIdle q
