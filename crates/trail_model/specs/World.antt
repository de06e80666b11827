-- The world that a trail of events leads to. This project's own; that the commands of a queue may be carried out in any
-- order, and what an Abort withdraws, is NVMe's (Base Specification) in outline.
use Rattle.std.specs.Prelude.{ℕ, ◌+◌, ◌==◌, Bool, true, false, not, ◌||◌, if◌then◌else◌, List, [], ◌∷◌, ◌++◌, Option, Some, None, filter, find, is_some, length, option_and_then, option_map, slice_get}
use Rattle.std.specs.List.{list_any}
use Rattle.cp_base.specs.Answer.{Answer, only_status}
use Rattle.cp_base.specs.Commands.{aborted_cid, nature_of}
use Rattle.cp_base.specs.Configuration.{Configuration}
use Rattle.cp_base.specs.Contents.{bytes_of}
use Rattle.cp_base.specs.Known.{Known}
use Rattle.cp_base.specs.Touching.{meets}
use Rattle.cp_base.specs.declared.commands.Command.{Command}
use Rattle.cp_base.specs.declared.commands.Nature.{Nature}
use Rattle.cp_base.specs.declared.commands.Nature.TheVariants as nature
use Rattle.cp_base.specs.declared.region.SpaceId.{SpaceId}
use Rattle.cp_base.specs.declared.replies.Status.{Status}
use Rattle.cp_base.specs.declared.replies.Status.TheVariants as status
use Rattle.cp_base.specs.declared.spans.Footprint.{Footprint}
use Rattle.device_model.specs.Checks.{refusal_of}
use Rattle.device_model.specs.Memory.{moves_bytes}
use Rattle.device_model.specs.State.{State, opening}
use Rattle.device_model.specs.Step.{outcome_of}
use Rattle.trail_model.specs.Footprints.{Execution, cut_for, execution_of, footprint_of, held_set, held_slot}
use Rattle.trail_model.specs.LocalEffects.{LocalEffect, local_effect, put_back}
use Rattle.trail_model.specs.Pieces.{RegionBytes, any_has_byte}
use Rattle.trail_model.specs.declared.events.Event.{Event}
use Rattle.trail_model.specs.declared.events.Event.TheVariants as event

-- What a host asked for by a submit, which never changes: the submit's place in the trail, the host, the command's
-- ordinal and identifier, the command, and of an Abort the place of the submit that it names, where it names one.
pub record Request : Type 0 where
  pub place : ℕ
  pub host : ℕ
  pub ordinal : ℕ
  pub cid : ℕ
  pub command : Command
  pub names : Option ℕ

-- how far a command has come: it is queued, it is claimed and carried out, its reply is posted at a place of the trail,
-- or its reply is taken; up to then it is outstanding
pub data Stage : Type 0 where
  Queued : Stage
  Working : Stage
  Posted : (place : ℕ) → Stage
  Taken : Stage

-- a submit: what was asked, and how far it has come
pub record Submission : Type 0 where
  pub request : Request
  pub stage : Stage

-- an open claim: its place in the trail, its party, what was asked, and what was carried away for it
pub record OpenClaim : Type 0 where
  pub place : ℕ
  pub party : ℕ
  pub request : Request
  pub execution : Execution
  pub pieces : List RegionBytes

-- a command that is over, with its answer
pub record Completion : Type 0 where
  pub request : Request
  pub answer : Answer

-- The device while commands overlap: its state, in which each byte that an open claim carries is the one that it took;
-- the open claims, all submits and all completions, each in order; how many events there were, and whether the device is
-- at rest.
pub record World : Type 0 where
  pub state : State
  pub claims : List OpenClaim
  pub submits : List Submission
  pub history : List Completion
  pub count : ℕ
  pub at_rest : Bool

-- the world before any event
abbrev pub first_world : Configuration → World
first_world c = record { state = opening c; claims = []; submits = []; history = []; count = 0; at_rest = false }

-- ---- submits

abbrev pub is_queued : Stage → Bool
is_queued Queued = true
is_queued Working = false
is_queued (Posted place) = false
is_queued Taken = false

abbrev pub is_working : Stage → Bool
is_working Queued = false
is_working Working = true
is_working (Posted place) = false
is_working Taken = false

abbrev pub is_taken_off : Stage → Bool
is_taken_off Queued = false
is_taken_off Working = false
is_taken_off (Posted place) = false
is_taken_off Taken = true

abbrev pub is_posted_at : ℕ → Stage → Bool
is_posted_at posted Queued = false
is_posted_at posted Working = false
is_posted_at posted (Posted place) = place == posted
is_posted_at posted Taken = false

-- the submit at a place of the trail, where one is there
abbrev pub submit_at : List Submission → ℕ → Option Submission
submit_at submits place = find (λ (s : Submission). s.request.place == place) submits

-- the submits of a host
abbrev pub submits_of : List Submission → ℕ → List Submission
submits_of submits host = filter (λ (s : Submission). s.request.host == host) submits

-- the outstanding commands of a host, in order of sending
abbrev pub outstanding_of : List Submission → ℕ → List Submission
outstanding_of submits host = filter (λ (s : Submission). not (is_taken_off s.stage)) (submits_of submits host)

-- the outstanding command of a host under an identifier
abbrev pub outstanding_under : List Submission → ℕ → ℕ → Option Submission
outstanding_under submits host cid = find (λ (s : Submission). s.request.cid == cid) (outstanding_of submits host)

-- the ordinal of a host's next command
abbrev pub ordinal_after : List Submission → ℕ → ℕ
ordinal_after submits host = length (submits_of submits host) + 1

-- the queued commands of all hosts, in order of submission
abbrev pub queued_among : List Submission → List Submission
queued_among submits = filter (λ (s : Submission). is_queued s.stage) submits

-- the place of the submit that a host's new command names: of an Abort that of the outstanding command of its identifier
abbrev pub named_place : List Submission → ℕ → Command → Option ℕ
named_place submits host cmd =
    option_and_then (λ cid. option_map (λ (s : Submission). s.request.place) (outstanding_under submits host cid))
    (aborted_cid cmd)

-- the submits, of which the one at a place has come so far
abbrev pub staged : ℕ → Stage → List Submission → List Submission
staged place stage [] = []
staged place stage (s ∷ submits) =
    if s.request.place == place then record s { stage = stage } ∷ submits else s ∷ staged place stage submits

-- the same, where there is a place
abbrev pub staged_if : Option ℕ → Stage → List Submission → List Submission
staged_if None stage submits = submits
staged_if (Some place) stage submits = staged place stage submits

-- ---- claims

-- the open claim at a place of the trail, where one is there
abbrev pub claim_at : List OpenClaim → ℕ → Option OpenClaim
claim_at claims place = find (λ (claim : OpenClaim). claim.place == place) claims

-- the open claim of a party
abbrev pub claim_by : List OpenClaim → ℕ → Option OpenClaim
claim_by claims party = find (λ (claim : OpenClaim). claim.party == party) claims

-- the open claims without the one at a place
abbrev pub without_claim : ℕ → List OpenClaim → List OpenClaim
without_claim place [] = []
without_claim place (claim ∷ claims) = if claim.place == place then claims else claim ∷ without_claim place claims

-- what an open claim touches
abbrev pub claimed_footprint : Configuration → OpenClaim → Footprint
claimed_footprint c claim = footprint_of c claim.execution.ranges claim.request.command

-- whether a number is there and is this one
abbrev pub is_number : ℕ → Option ℕ → Bool
is_number n None = false
is_number n (Some m) = m == n

-- whether an open execution holds a slot, or a set
abbrev pub is_slot_held : List OpenClaim → ℕ → Bool
is_slot_held claims slot = list_any (λ (claim : OpenClaim). is_number slot (held_slot claim.request.command)) claims

abbrev pub is_set_held : List OpenClaim → ℕ → Bool
is_set_held claims set = list_any (λ (claim : OpenClaim). is_number set (held_set claim.request.command)) claims

-- whether an open claim that may write a byte carries it
abbrev pub is_out : Configuration → List OpenClaim → SpaceId → ℕ → Bool
is_out c claims space offset =
    list_any (λ (claim : OpenClaim). any_has_byte (claimed_footprint c claim).writes space offset) claims

-- the bytes that are at home: all but those that are out
abbrev pub home : Configuration → World → Known
home c w space offset =
    if is_out c w.claims space offset then None else slice_get (bytes_of w.state.contents space) offset

-- ---- which commands may be picked

-- whether what a command touches meets no open claim
abbrev pub is_free : Configuration → World → Command → Bool
is_free c w cmd =
    let touched : Footprint = footprint_of c (execution_of w.state cmd).ranges cmd in
    not (list_any (λ (claim : OpenClaim). meets touched (claimed_footprint c claim)) w.claims)

-- whether a command of this nature would change a slot or a set that an open execution holds
abbrev pub changes_held_by : List OpenClaim → Nature → Bool
changes_held_by claims nature.Reads = false
changes_held_by claims nature.Writes = false
changes_held_by claims nature.Copies = false
changes_held_by claims (nature.Executes slot set) = false
changes_held_by claims nature.Builds = false
changes_held_by claims nature.Arranges = false
changes_held_by claims (nature.Deletes set) = is_set_held claims set
changes_held_by claims (nature.Stops slot) = is_slot_held claims slot
changes_held_by claims (nature.Withdraws cid) = false

-- whether a command would change a slot or a set that an open execution holds
abbrev pub changes_held : List OpenClaim → Command → Bool
changes_held claims cmd = changes_held_by claims (nature_of cmd)

-- A queued command may be picked where one of its checks fails in the tables as they are; where it moves bytes, none
-- fails, and it meets no open claim; and where it moves no bytes and changes nothing that is held. A load, an unload or an
-- activation of a held slot is refused, since the slot is active, and an Abort may always be picked.
abbrev pub is_pickable : Configuration → World → Command → Bool
is_pickable c w cmd =
    is_some (refusal_of c w.state cmd) || (if moves_bytes cmd then is_free c w cmd else not (changes_held w.claims cmd))

-- the queued commands that may be picked, in order of submission
abbrev pub pickable_among : Configuration → World → List Submission
pickable_among c w = filter (λ (s : Submission). is_pickable c w s.request.command) (queued_among w.submits)

-- ---- what an event changes

-- what a submit at the end of the trail asks for
abbrev pub request_of : World → ℕ → ℕ → ℕ → Command → Request
request_of w host cid ordinal cmd = record {
  place = w.count;
  host = host;
  ordinal = ordinal;
  cid = cid;
  command = cmd;
  names = named_place w.submits host cmd;
}

-- what a claim at the end of the trail takes along
abbrev pub claim_of : Configuration → World → ℕ → Request → OpenClaim
claim_of c w party request = record {
  place = w.count;
  party = party;
  request = request;
  execution = execution_of w.state request.command;
  pieces = cut_for c w.state request.command;
}

-- what an open claim comes to
abbrev pub effect_of_claim : Configuration → OpenClaim → LocalEffect
effect_of_claim c claim = local_effect c claim.execution claim.pieces claim.request.command

-- the place of the submit that a command withdraws: of an Abort the one that it names, where that is still queued
abbrev pub withdrawn_place : List Submission → Request → Option ℕ
withdrawn_place submits request =
    option_and_then (λ place. option_and_then (λ (s : Submission). if is_queued s.stage then Some place else None) (submit_at submits place)) request.names

-- the state with the pieces that a claim brings home
abbrev pub brought_home : Configuration → State → OpenClaim → State
brought_home c s claim = (put_back s (effect_of_claim c claim)).next

abbrev pub is_no_memory : Status → Bool
is_no_memory status.NoMemory = true
is_no_memory _ = false

-- the state after a command that was done at once and told this
abbrev pub state_after : Configuration → State → Command → Answer → State
state_after c s cmd answer = if is_no_memory answer.status then s else (outcome_of c s cmd).next

-- a claim of what a submit asks for
abbrev pub with_claim : Configuration → World → ℕ → Option Submission → World
with_claim c w by None = w
with_claim c w by (Some s) = record w {
  claims = w.claims ++ claim_of c w by s.request ∷ [];
  submits = staged s.request.place Working w.submits;
}

-- the end of a claim
abbrev pub with_finish : Configuration → World → Option OpenClaim → World
with_finish c w None = w
with_finish c w (Some claim) = record w {
  state = brought_home c w.state claim;
  claims = without_claim claim.place w.claims;
  submits = staged claim.request.place (Posted w.count) w.submits;
}

-- a command done at once, which withdraws another one where it is an Abort that does
abbrev pub with_done : Configuration → World → Answer → Option ℕ → Option Submission → World
with_done c w answer aborts None = w
with_done c w answer aborts (Some s) = record w {
  state = state_after c w.state s.request.command answer;
  submits = staged_if aborts (Posted w.count) (staged s.request.place (Posted w.count) w.submits);
}

-- a reply taken
abbrev pub with_take : World → Option Submission → World
with_take w None = w
with_take w (Some s) = record w { submits = staged s.request.place Taken w.submits }

-- what an event changes, but for the history and the number of events
abbrev pub moved : Configuration → World → Event → World
moved c w (event.Submit by cid ordinal cmd) = record w {
  submits = w.submits ++ record { request = request_of w by cid ordinal cmd; stage = Queued } ∷ [];
  at_rest = false;
}
moved c w (event.Claim by host ordinal sent) = with_claim c w by (submit_at w.submits sent)
moved c w (event.Finish by claim answer) = with_finish c w (claim_at w.claims claim)
moved c w (event.Do by host ordinal sent answer aborts) = with_done c w answer aborts (submit_at w.submits sent)
moved c w (event.Take by cid posted) = with_take w (outstanding_under w.submits by cid)
moved c w (event.Rest by) = record w { at_rest = true }

-- the completion of what was asked, where something was
abbrev pub completion_of : Answer → Option Request → List Completion
completion_of answer None = []
completion_of answer (Some request) = record { request = request; answer = answer } ∷ []

abbrev pub request_at : List Submission → ℕ → Option Request
request_at submits place = option_map (λ (s : Submission). s.request) (submit_at submits place)

-- the completions that an event tells: none, or one, or that of an Abort and behind it that of what it withdraws
abbrev pub completions_by : World → Event → List Completion
completions_by w (event.Submit by cid ordinal cmd) = []
completions_by w (event.Claim by host ordinal sent) = []
completions_by w (event.Finish by claim answer) =
    completion_of answer (option_map (λ (claimed : OpenClaim). claimed.request) (claim_at w.claims claim))
completions_by w (event.Do by host ordinal sent answer aborts) =
    completion_of answer (request_at w.submits sent)
    ++ completion_of (only_status status.Aborted) (option_and_then (λ place. request_at w.submits place) aborts)
completions_by w (event.Take by cid posted) = []
completions_by w (event.Rest by) = []

-- the world after an event
abbrev pub world_after : Configuration → World → Event → World
world_after c w e = record (moved c w e) { history = w.history ++ completions_by w e; count = w.count + 1 }
