-- Work that is claimed, and what is left of it. This project's own.
use Rattle.std.specs.Prelude.{◌≡◌, ℕ, ◌++◌, ◌∷◌, [], Some}
use Rattle.cp_base.specs.Answer.{Answer, answer_of}
use Rattle.seat_lock.specs.Passes.{made_by, party_of}
use Rattle.trail_model.specs.Lawful.{Trail}
use Rattle.trail_model.specs.World.{OpenClaim, claim_by}
use Rattle.trail_model.specs.declared.events.Event.{Event}
use Rattle.trail_model.specs.declared.events.Event.TheVariants as event
use Rattle.job_run.specs.declared.work.Work.{Work}
use Rattle.job_run.specs.declared.work.Worked.{Worked}
use Rattle.device_core.specs.Gives.{IsWorkOf, IsWorkedOf}
use Rattle.device_lock.specs.Names.{DeviceName}
use Rattle.device_lock.specs.Passes.{DevicePass, IsOfDevice, world_seen}
use Rattle.device_lock.specs.declared.jobs.Done.{Done}
use Rattle.device_lock.specs.declared.jobs.Job.{Job}

-- the pass of the party that claimed it
abbrev pub pass_of_job : Job → DevicePass
pass_of_job j = j.pass

-- the place of the claim in the trail
abbrev pub place_of_job : Job → ℕ
place_of_job j = j.claim

-- the host of the command, and its ordinal among the host's commands
abbrev pub host_of_job : Job → ℕ
host_of_job j = j.host

abbrev pub ordinal_of_job : Job → ℕ
ordinal_of_job j = j.ordinal

abbrev pub work_of_job : Job → Work
work_of_job j = j.work

-- the same of what is left of a job that was run
abbrev pub pass_of_done : Done → DevicePass
pass_of_done x = x.pass

abbrev pub place_of_done : Done → ℕ
place_of_done x = x.claim

abbrev pub worked_of_done : Done → Worked
worked_of_done x = x.worked

-- what the command is told
abbrev pub answer_of_done : Done → Answer
answer_of_done x = answer_of x.worked.reply

-- the last of what was made is this event
abbrev pub EndsWith : Trail → Event → Type 0
EndsWith mine e = (earlier : Trail) × (mine ≡ earlier ++ e ∷ [])

-- A pass has this claim, made at this place of the trail: the claim is its party's last event, and is open in the world that the
-- pass has seen. The pass never has the turn.
pub record HasClaim (d : DeviceName) (p : DevicePass) (place : ℕ) (claim : OpenClaim) : Type 0 where
  pub of_device : IsOfDevice d p
  pub last : EndsWith (made_by p)
      (event.Claim (party_of p) claim.request.host claim.request.ordinal claim.request.place)
  pub opened : claim_by (world_seen d p).claims (party_of p) ≡ Some claim
  pub at_place : claim.place ≡ place

-- a job is that of this claim: it has the claim, names its command, and has its work
pub record IsJobFor (d : DeviceName) (j : Job) (claim : OpenClaim) : Type 0 where
  pub claims : HasClaim d (pass_of_job j) (place_of_job j) claim
  pub host : host_of_job j ≡ claim.request.host
  pub ordinal : ordinal_of_job j ≡ claim.request.ordinal
  pub work : IsWorkOf d.config claim (work_of_job j)

-- it is a job of this device
abbrev pub IsJobOf : DeviceName → Job → Type 0
IsJobOf d j = (claim : OpenClaim) × IsJobFor d j claim

-- what is left of the job of this claim: it has the claim, and what the claim comes to
pub record IsDoneFor (d : DeviceName) (x : Done) (claim : OpenClaim) : Type 0 where
  pub claims : HasClaim d (pass_of_done x) (place_of_done x) claim
  pub worked : IsWorkedOf d.config claim (worked_of_done x)

-- it is left of a job of this device
abbrev pub IsDoneOf : DeviceName → Done → Type 0
IsDoneOf d x = (claim : OpenClaim) × IsDoneFor d x claim
