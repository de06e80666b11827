-- Which trails are lawful: each event is allowed in the world before it. This project's own.
use Rattle.std.specs.Prelude.{◌≡◌, ℕ, ◌*◌, ◌<◌, ◌≤◌, Bool, true, false, not, ◌||◌, if◌then◌else◌, IsTrue, IsFalse, IsSomeAnd, List, [], ◌∷◌, Option, is_none, is_some, length}
use Rattle.cp_base.specs.Answer.{Answer, only_status}
use Rattle.cp_base.specs.Commands.{aborted_cid}
use Rattle.cp_base.specs.Configuration.{Configuration}
use Rattle.cp_base.specs.declared.commands.Command.{Command}
use Rattle.cp_base.specs.declared.limits.TheConstants.{MAX_HOSTS}
use Rattle.cp_base.specs.declared.replies.Status.TheVariants as status
use Rattle.device_model.specs.Checks.{refusal_of}
use Rattle.device_model.specs.Execution.{tells}
use Rattle.device_model.specs.Memory.{moves_bytes, takes_memory}
use Rattle.device_model.specs.Step.{outcome_of}
use Rattle.trail_model.specs.World.{Completion, OpenClaim, Submission, World, claim_at, claim_by, effect_of_claim, first_world, is_free, is_no_memory, is_pickable, is_posted_at, is_queued, ordinal_after, outstanding_of, outstanding_under, submit_at, withdrawn_place, world_after}
use Rattle.trail_model.specs.declared.events.Event.{Event}
use Rattle.trail_model.specs.declared.events.Event.TheVariants as event

-- the events of a device, in the order of their turns
abbrev pub Trail : Type 0
Trail = List Event

-- the party of an event
abbrev pub party_of_event : Event → ℕ
party_of_event (event.Submit by cid ordinal cmd) = by
party_of_event (event.Claim by host ordinal sent) = by
party_of_event (event.Finish by claim answer) = by
party_of_event (event.Do by host ordinal sent answer aborts) = by
party_of_event (event.Take by cid posted) = by
party_of_event (event.Rest by) = by

-- a party that may carry out commands: a host or a worker
abbrev pub IsParty : ℕ → Type 0
IsParty party = (1 ≤ party) × (party ≤ 2 * MAX_HOSTS)

-- whether a party has no open claim
abbrev pub is_idle : World → ℕ → Bool
is_idle w party = is_none (claim_by w.claims party)

-- a host submits its next command: so many commands may be submitted in all
pub record MaySubmit (c : Configuration) (commands : ℕ) (w : World) (by cid ordinal : ℕ) : Type 0 where
  pub host : (1 ≤ by) × (by ≤ MAX_HOSTS)
  pub not_spent : length w.submits < commands
  pub not_full : length (outstanding_of w.submits by) < c.depth
  pub not_busy : IsTrue (is_none (outstanding_under w.submits by cid))
  pub next : ordinal ≡ ordinal_after w.submits by

-- an idle party turns to a queued command, the one of this host and ordinal
pub record MayTurnTo (w : World) (by host ordinal : ℕ) (s : Submission) : Type 0 where
  pub party : IsParty by
  pub idle : IsTrue (is_idle w by)
  pub queued : IsTrue (is_queued s.stage)
  pub same_host : s.request.host ≡ host
  pub same_ordinal : s.request.ordinal ≡ ordinal

-- a claim: the command moves bytes, passes its checks, and meets no open claim
pub record MayClaim (c : Configuration) (w : World) (by host ordinal : ℕ) (s : Submission) : Type 0 where
  pub turn : MayTurnTo w by host ordinal s
  pub moves : IsTrue (moves_bytes s.request.command)
  pub passes : IsTrue (is_none (refusal_of c w.state s.request.command))
  pub free : IsTrue (is_free c w s.request.command)

-- the end of a party's open claim, told as its local effect tells
pub record MayFinish (c : Configuration) (by : ℕ) (answer : Answer) (claim : OpenClaim) : Type 0 where
  pub own : claim.party ≡ by
  pub told : answer ≡ (effect_of_claim c claim).answer

abbrev pub is_abort : Command → Bool
is_abort cmd = is_some (aborted_cid cmd)

-- what a command is told that is done at once: an Abort 0 where it withdraws a command and else 1, any other command what
-- the sequential device answers
abbrev pub done_answer : Configuration → World → Command → Option ℕ → Answer
done_answer c w cmd aborts =
    if is_abort cmd then tells status.Ok (if is_some aborts then 0 else 1) else (outcome_of c w.state cmd).answer

-- what the answer to a command that is done at once may be: that there is no memory, where the command takes memory;
-- or what the device answers, where the command moves no bytes or is refused
abbrev pub MayAnswer : Bool → Configuration → World → Command → Option ℕ → Answer → Type 0
MayAnswer true c w cmd aborts answer = (answer ≡ only_status status.NoMemory) × IsTrue (takes_memory c w.state cmd)
MayAnswer false c w cmd aborts answer =
    (answer ≡ done_answer c w cmd aborts) × IsTrue (not (moves_bytes cmd) || is_some (refusal_of c w.state cmd))

-- a command that may be picked is done at once
pub record MayDo (c : Configuration) (w : World) (by host ordinal : ℕ) (answer : Answer) (aborts : Option ℕ) (s : Submission) : Type 0 where
  pub turn : MayTurnTo w by host ordinal s
  pub pickable : IsTrue (is_pickable c w s.request.command)
  pub withdraws : aborts ≡ withdrawn_place w.submits s.request
  pub told : MayAnswer (is_no_memory answer.status) c w s.request.command aborts answer

-- an event is allowed in a world, where so many commands may be submitted in all
abbrev pub IsAllowedIn : Configuration → ℕ → World → Event → Type 0
IsAllowedIn c commands w (event.Submit by cid ordinal cmd) = MaySubmit c commands w by cid ordinal
IsAllowedIn c commands w (event.Claim by host ordinal sent) =
    IsSomeAnd (submit_at w.submits sent) (λ s. MayClaim c w by host ordinal s)
IsAllowedIn c commands w (event.Finish by claim answer) =
    IsSomeAnd (claim_at w.claims claim) (λ claimed. MayFinish c by answer claimed)
IsAllowedIn c commands w (event.Do by host ordinal sent answer aborts) =
    IsSomeAnd (submit_at w.submits sent) (λ s. MayDo c w by host ordinal answer aborts s)
IsAllowedIn c commands w (event.Take by cid posted) =
    IsSomeAnd (outstanding_under w.submits by cid) (λ (s : Submission). IsTrue (is_posted_at posted s.stage))
IsAllowedIn c commands w (event.Rest by) = IsParty by × IsFalse w.at_rest

-- from a world on each event is allowed in the world before it
abbrev pub IsLawfulFrom : Configuration → ℕ → World → Trail → Type 0
IsLawfulFrom c commands w [] = Unit {0}
IsLawfulFrom c commands w (e ∷ trail) = IsAllowedIn c commands w e × IsLawfulFrom c commands (world_after c w e) trail

-- the same from the first world on
abbrev pub IsLawful : Configuration → ℕ → Trail → Type 0
IsLawful c commands trail = IsLawfulFrom c commands (first_world c) trail

-- the world that a trail leads to from another one
abbrev pub world_from : Configuration → World → Trail → World
world_from c w [] = w
world_from c w (e ∷ trail) = world_from c (world_after c w e) trail

-- the world of a trail
abbrev pub world_of : Configuration → Trail → World
world_of c trail = world_from c (first_world c) trail

-- the history of a trail: the completions of its commands, in order
abbrev pub history_of : Configuration → Trail → List Completion
history_of c trail = (world_of c trail).history
