-- What a party knows of itself by its own events alone. This project's own.
use Rattle.std.specs.Prelude.{ℕ, ◌+◌, ◌==◌, not, if◌then◌else◌, List, [], ◌∷◌, ◌++◌, Option, Some, None, filter, find, map, option_and_then, option_map}
use Rattle.cp_base.specs.Commands.{aborted_cid}
use Rattle.cp_base.specs.declared.commands.Command.{Command}
use Rattle.trail_model.specs.Lawful.{Trail, party_of_event}
use Rattle.trail_model.specs.World.{OpenClaim, Request, Submission, World, claim_by, ordinal_after, outstanding_of, request_at}
use Rattle.trail_model.specs.declared.events.Event.{Event}
use Rattle.trail_model.specs.declared.events.Event.TheVariants as event

-- an outstanding command of a host, by its identifier and ordinal
pub record Outstanding : Type 0 where
  pub cid : ℕ
  pub ordinal : ℕ

-- a claimed command, by its host, its ordinal and the place of its submit
pub record ClaimedCommand : Type 0 where
  pub host : ℕ
  pub ordinal : ℕ
  pub sent : ℕ

-- an Abort by its ordinal, and the ordinal of the command that it names, where it names one
pub record Naming : Type 0 where
  pub abort : ℕ
  pub named : Option ℕ

-- the ordinal of a party's next command, its outstanding commands in order of sending, what its Aborts name, and its open
-- claim
pub record Account : Type 0 where
  pub next : ℕ
  pub outstanding : List Outstanding
  pub names : List Naming
  pub claim : Option ClaimedCommand

abbrev pub first_account : Account
first_account = record { next = 1; outstanding = []; names = []; claim = None }

-- the ordinal of the outstanding command of an identifier
abbrev pub ordinal_under : List Outstanding → ℕ → Option ℕ
ordinal_under outstanding cid =
    option_map (λ (o : Outstanding). o.ordinal) (find (λ (o : Outstanding). o.cid == cid) outstanding)

-- what a new command names by these outstanding commands, where it is an Abort of this identifier
abbrev pub naming_under : List Outstanding → ℕ → Option ℕ → List Naming
naming_under outstanding ordinal None = []
naming_under outstanding ordinal (Some cid) = record { abort = ordinal; named = ordinal_under outstanding cid } ∷ []

-- what a new command names by these outstanding commands
abbrev pub naming_of : List Outstanding → ℕ → Command → List Naming
naming_of outstanding ordinal cmd = naming_under outstanding ordinal (aborted_cid cmd)

-- the account of a party after an event of its own
abbrev pub account_after : Account → Event → Account
account_after a (event.Submit by cid ordinal cmd) = record {
  next = a.next + 1;
  outstanding = a.outstanding ++ record { cid = cid; ordinal = ordinal } ∷ [];
  names = a.names ++ naming_of a.outstanding ordinal cmd;
  claim = a.claim;
}
account_after a (event.Claim by host ordinal sent) =
    record a { claim = Some (record { host = host; ordinal = ordinal; sent = sent }) }
account_after a (event.Finish by claim answer) = record a { claim = None }
account_after a (event.Do by host ordinal sent answer aborts) = a
account_after a (event.Take by cid posted) =
    record a { outstanding = filter (λ (o : Outstanding). not (o.cid == cid)) a.outstanding }
account_after a (event.Rest by) = a

abbrev pub account_from : Account → Trail → Account
account_from a [] = a
account_from a (e ∷ trail) = account_from (account_after a e) trail

-- the account of a party by its own events
abbrev pub account_of : Trail → Account
account_of mine = account_from first_account mine

-- the events of a party
abbrev pub events_of : ℕ → Trail → Trail
events_of party trail = filter (λ (e : Event). party_of_event e == party) trail

-- ---- the same in a world

abbrev pub outstanding_in : List Submission → ℕ → List Outstanding
outstanding_in submits host =
    map (λ (s : Submission). record { cid = s.request.cid; ordinal = s.request.ordinal }) (outstanding_of submits host)

-- what a submit names, where it is an Abort of this identifier
abbrev pub named_under : List Submission → Request → Option ℕ → List Naming
named_under submits request None = []
named_under submits request (Some cid) = record {
  abort = request.ordinal;
  named = option_map (λ (r : Request). r.ordinal) (option_and_then (λ place. request_at submits place) request.names);
} ∷ []

-- what a submit names
abbrev pub named_by_submit : List Submission → Request → Command → List Naming
named_by_submit submits request cmd = named_under submits request (aborted_cid cmd)

-- what the submits of a host name, in order, where the places are those of all submits
abbrev pub names_in : List Submission → ℕ → List Submission → List Naming
names_in submits host [] = []
names_in submits host (s ∷ more) =
    (if s.request.host == host then named_by_submit submits s.request s.request.command else []) ++ names_in submits host more

-- the account of a party in a world
abbrev pub account_in : World → ℕ → Account
account_in w party = record {
  next = ordinal_after w.submits party;
  outstanding = outstanding_in w.submits party;
  names = names_in w.submits party w.submits;
  claim = option_map (λ (claim : OpenClaim). record { host = claim.request.host; ordinal = claim.request.ordinal; sent = claim.request.place }) (claim_by w.claims party);
}
