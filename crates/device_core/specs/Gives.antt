-- What is claimed, what is left of it, and what is told of a command that is over. This project's own.
use Rattle.std.specs.Prelude.{◌≡◌, ◌≤◌, ℕ, IsSomeAnd, IsTrue, true, [], length, slice_get}
use Rattle.cp_base.specs.Answer.{Answer, answer_of}
use Rattle.cp_base.specs.Configuration.{Configuration}
use Rattle.cp_base.specs.declared.commands.Command.{Command}
use Rattle.device_model.specs.State.{State}
use Rattle.trail_model.specs.Footprints.{execution_of}
use Rattle.trail_model.specs.Lawful.{world_of}
use Rattle.trail_model.specs.World.{Completion, OpenClaim, Submission, World, claim_of, effect_of_claim, pickable_among, queued_among, withdrawn_place}
use Rattle.trail_model.specs.declared.events.Event.TheVariants as event
use Rattle.job_run.specs.Works.{IsWork, pieces_after, region_bytes}
use Rattle.job_run.specs.declared.work.Work.{Work}
use Rattle.job_run.specs.declared.work.Worked.{Worked}
use Rattle.device_core.specs.Recorded.{Appends, Recorded}
use Rattle.device_core.specs.declared.answers.EntryRef.{EntryRef}
use Rattle.device_core.specs.declared.answers.Picked.{Picked}
use Rattle.device_core.specs.declared.answers.Picked.TheVariants as picked

-- Work is that of an open claim: it has the claim's command and pieces, and in some state, in which the claim was made, it
-- passes its checks and carries them out.
pub record IsWorkOf (c : Configuration) (claim : OpenClaim) (w : Work) : Type 0 where
  pub state : State
  pub work : IsWork c state w
  pub command : w.command.value ≡ claim.request.command
  pub execution : execution_of state w.command.value ≡ claim.execution
  pub pieces : region_bytes w.pieces.items ≡ claim.pieces

-- what work leaves is what an open claim comes to: its answer, and its pieces, those that it writes with their new bytes
pub record IsWorkedOf (c : Configuration) (claim : OpenClaim) (done : Worked) : Type 0 where
  pub answer : answer_of done.reply ≡ (effect_of_claim c claim).answer
  pub pieces : region_bytes done.pieces.items ≡ pieces_after (effect_of_claim c claim) claim.pieces

-- the world of a device
abbrev pub world_in : Recorded → World
world_in d = world_of d.config d.trail

-- a party claims the command of a submit: the work is what the claim takes along
pub record Claims (old new : Recorded) (by : ℕ) (s : Submission) (work : Work) : Type 0 where
  pub event : Appends old new (event.Claim by s.request.host s.request.ordinal s.request.place)
  pub claimed : IsWorkOf old.config (claim_of old.config (world_in old) by s.request) work

-- a party does the command of a submit at once, which withdraws what it names, where that still waits
pub record Does (old new : Recorded) (by : ℕ) (s : Submission) : Type 0 where
  pub answer : Answer
  pub event : Appends old new
      (event.Do by s.request.host s.request.ordinal s.request.place answer (withdrawn_place (world_in old).submits s.request))

-- What a party that turns to the command of this number is given, of those that may be picked: its work, claimed at
-- this place; nothing more, since it is done; nothing, since there are no more that may be picked; or that the hosts send nothing
-- more and all commands are picked.
abbrev pub Gives : Recorded → ℕ → ℕ → Picked → Recorded → Type 0
Gives old by skip (picked.Claimed work claim) new =
    (claim ≡ length old.trail)
    × IsSomeAnd (slice_get (pickable_among old.config (world_in old)) skip)
    (λ (s : Submission). Claims old new by s work)
Gives old by skip picked.Did new =
    IsSomeAnd (slice_get (pickable_among old.config (world_in old)) skip) (λ (s : Submission). Does old new by s)
Gives old by skip picked.Nothing new =
    (new ≡ old) × (length (pickable_among old.config (world_in old)) ≤ skip)
    × ((world_in old).at_rest ≡ true → queued_among (world_in old).submits ≡ [] → ⊥)
Gives old by skip picked.Rested new =
    (new ≡ old) × IsTrue (world_in old).at_rest × (queued_among (world_in old).submits ≡ [])

-- a party has this claim, which is open, and what is left of its work
pub record HasWorked (d : Recorded) (by : ℕ) (done : Worked) (claim : OpenClaim) : Type 0 where
  pub own : claim.party ≡ by
  pub worked : IsWorkedOf d.config claim done

-- a command that is over: its host, its ordinal and identifier, the command, and its answer
pub record Ended : Type 0 where
  pub host : ℕ
  pub ordinal : ℕ
  pub cid : ℕ
  pub command : Command
  pub answer : Answer

-- the command of a completion
abbrev pub ended_by : Completion → Ended
ended_by done = record {
  host = done.request.host;
  ordinal = done.request.ordinal;
  cid = done.request.cid;
  command = done.request.command;
  answer = done.answer;
}

-- the command of an entry, as the core shows it
abbrev pub ended_as_shown : EntryRef → Ended
ended_as_shown e = record {
  host = e.host;
  ordinal = e.ordinal;
  cid = e.cid;
  command = e.command.now;
  answer = answer_of e.reply.now;
}
