-- The schedule of a plan, which a number of workers and a number that chooses select. This project's own.
use Rattle.std.specs.Prelude.{◌≡◌, ℕ, ◌+◌, zero, suc, ◌%◌, ◌/◌, Bool, true, false, ◌&&◌, if◌then◌else◌, ◌==◌, ◌⊎◌, IsFalse, IsSomeAnd, List, [], ◌∷◌, ◌++◌, Option, Some, None, length, map, slice_get}
use Rattle.cp_base.specs.Answer.{Answer}
use Rattle.cp_base.specs.Configuration.{Configuration}
use Rattle.cp_base.specs.declared.commands.Command.{Command}
use Rattle.cp_base.specs.declared.limits.TheConstants.{MAX_HOSTS}
use Rattle.history_model.specs.Plain.{PlainItem, PlainPart, Sends, Takes}
use Rattle.trail_model.specs.Lawful.{IsAllowedIn, Trail, is_idle}
use Rattle.trail_model.specs.World.{OpenClaim, Posted, Queued, Request, Stage, Submission, Taken, Working, World, effect_of_claim, first_world, is_no_memory, ordinal_after, outstanding_under, pickable_among, withdrawn_place, world_after}
use Rattle.trail_model.specs.declared.events.Event.{Event}
use Rattle.trail_model.specs.declared.events.Event.TheVariants as event
use Rattle.schedule_model.specs.Deeds.{Phases}

-- what may be done next: a host sends, a host takes a reply that was posted, a claim ends, a worker turns to a command
pub data Action : Type 0 where
  Sending : (host cid : ℕ) (cmd : Command) → Action
  Taking : (host cid posted : ℕ) → Action
  Ending : (claim : OpenClaim) → Action
  Turning : (worker : ℕ) (s : Submission) → Action

-- the take of a reply, where it is posted
abbrev pub taking_of : ℕ → ℕ → Stage → List Action
taking_of host cid Queued = []
taking_of host cid Working = []
taking_of host cid (Posted place) = Taking host cid place ∷ []
taking_of host cid Taken = []

-- the take of the reply to a command, where there is one
abbrev pub taking_under : ℕ → ℕ → Option Submission → List Action
taking_under host cid None = []
taking_under host cid (Some s) = taking_of host cid s.stage

-- what a host may do that has these items left
abbrev pub action_of_host : World → ℕ → List PlainItem → List Action
action_of_host w host [] = []
action_of_host w host (Sends cid cmd ∷ items) = Sending host cid cmd ∷ []
action_of_host w host (Takes cid ∷ items) = taking_under host cid (outstanding_under w.submits host cid)

-- what the hosts may do, in the order of the parts
abbrev pub actions_of_hosts : World → List PlainPart → List Action
actions_of_hosts w [] = []
actions_of_hosts w (part ∷ parts) = action_of_host w part.host part.items ++ actions_of_hosts w parts

-- the least idle of so many workers, of which the first is this party
abbrev pub idle_from : World → ℕ → ℕ → Option ℕ
idle_from w party zero = None
idle_from w party (suc workers) = if is_idle w party then Some party else idle_from w (party + 1) workers

-- the least idle worker; workers are the parties behind the hosts
abbrev pub idle_worker : World → ℕ → Option ℕ
idle_worker w workers = idle_from w (MAX_HOSTS + 1) workers

-- a worker may turn to each of these commands
abbrev pub turning : Option ℕ → List Submission → List Action
turning None submits = []
turning (Some worker) submits = map (λ s. Turning worker s) submits

-- All that may be done, where the parts are what is left of a phase: what its hosts may do, the ends of the open claims in
-- their order, and where a worker is idle its turn to each command that may be picked, in order of submission.
abbrev pub actions : Configuration → ℕ → World → List PlainPart → List Action
actions c workers w parts =
    actions_of_hosts w parts ++ map (λ claim. Ending claim) w.claims ++ turning (idle_worker w workers) (pickable_among c w)

-- the event is a claim of what was asked for, or does it at once
abbrev pub TurnsTo : World → ℕ → Request → Event → Type 0
TurnsTo w worker r e =
    (e ≡ event.Claim worker r.host r.ordinal r.place)
    ⊎ ((answer : Answer) × (e ≡ event.Do worker r.host r.ordinal r.place answer (withdrawn_place w.submits r)))

-- An event performs an action. A worker's turn to a command is the claim or the doing of it that is allowed.
abbrev pub Performs : Configuration → World → Action → Event → Type 0
Performs c w (Sending host cid cmd) e = e ≡ event.Submit host cid (ordinal_after w.submits host) cmd
Performs c w (Taking host cid posted) e = e ≡ event.Take host cid posted
Performs c w (Ending claim) e = e ≡ event.Finish claim.party claim.place (effect_of_claim c claim).answer
Performs c w (Turning worker s) e = TurnsTo w worker s.request e × IsAllowedIn c 0 w e

-- the items without the first
abbrev pub behind_first : List PlainItem → List PlainItem
behind_first [] = []
behind_first (item ∷ items) = items

-- the parts, of which this host has done its first item
abbrev pub one_done : ℕ → List PlainPart → List PlainPart
one_done host [] = []
one_done host (part ∷ parts) =
    if part.host == host then record part { items = behind_first part.items } ∷ parts else part ∷ one_done host parts

-- what is left of a phase after an action
abbrev pub left_after : Action → List PlainPart → List PlainPart
left_after (Sending host cid cmd) parts = one_done host parts
left_after (Taking host cid posted) parts = one_done host parts
left_after (Ending claim) parts = parts
left_after (Turning worker s) parts = parts

-- whether no item is left
abbrev pub has_none : List PlainItem → Bool
has_none [] = true
has_none (item ∷ items) = false

-- whether all hosts have done all
abbrev pub all_done : List PlainPart → Bool
all_done [] = true
all_done (part ∷ parts) = has_none part.items && all_done parts

-- the phases that are not over, where a phase that has ended while the device is at rest is over
abbrev pub not_over : Bool → Phases → Phases
not_over at_rest [] = []
not_over at_rest (phase ∷ phases) = if all_done phase && at_rest then not_over at_rest phases else phase ∷ phases

-- From a world on, with what is left of the phases and of the number that chooses, one event and then what follows: where
-- the hosts of the phase have done all, party 1 rests and the phase is over; else the event carries out the chosen action.
abbrev pub GoesBy : Bool → Configuration → ℕ → World → List PlainPart → Phases → ℕ → Event → (Phases → ℕ → Type 0)
    → Type 0
GoesBy true c workers w phase later choices e Then = (e ≡ event.Rest 1) × Then later choices
GoesBy false c workers w phase later choices e Then =
    let listed : List Action = actions c workers w phase in
    IsSomeAnd (slice_get listed (choices % length listed))
    (λ action. Performs c w action e × Then (left_after action phase ∷ later) (choices / length listed))

abbrev pub GoesOn : Configuration → ℕ → World → Phases → ℕ → Event → (Phases → ℕ → Type 0) → Type 0
GoesOn c workers w [] choices e Then = ⊥
GoesOn c workers w (phase ∷ later) choices e Then = GoesBy (all_done phase) c workers w phase later choices e Then

-- a trail follows the schedule from a world on to the end of the phases
abbrev pub Runs : Configuration → ℕ → World → Phases → ℕ → Trail → Type 0
Runs c workers w phases choices [] = not_over w.at_rest phases ≡ []
Runs c workers w phases choices (e ∷ trail) =
    GoesOn c workers w (not_over w.at_rest phases) choices e (λ left rest. Runs c workers (world_after c w e) left rest trail)

-- A trail has followed the schedule so far from a world on, and this is left of the phases and of the number that chooses.
abbrev pub RunsTo : Configuration → ℕ → World → Phases → ℕ → Trail → Phases → ℕ → Type 0
RunsTo c workers w phases choices [] left rest = (left ≡ phases) × (rest ≡ choices)
RunsTo c workers w phases choices (e ∷ trail) left rest =
    GoesOn c workers w (not_over w.at_rest phases) choices e (λ ps n. RunsTo c workers (world_after c w e) ps n trail left rest)

-- a trail is that of the schedule
abbrev pub IsScheduled : Configuration → Phases → ℕ → ℕ → Trail → Type 0
IsScheduled c phases workers choices trail = Runs c workers (first_world c) phases choices trail

-- an event does no command for want of memory
abbrev pub HasMemory : Event → Type 0
HasMemory (event.Submit by cid ordinal cmd) = Unit {0}
HasMemory (event.Claim by host ordinal sent) = Unit {0}
HasMemory (event.Finish by claim answer) = Unit {0}
HasMemory (event.Do by host ordinal sent answer aborts) = IsFalse (is_no_memory answer.status)
HasMemory (event.Take by cid posted) = Unit {0}
HasMemory (event.Rest by) = Unit {0}
