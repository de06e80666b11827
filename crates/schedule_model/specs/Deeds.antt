-- What the hosts do in a trail, and when that is a plan. This project's own.
use Rattle.std.specs.Prelude.{◌≡◌, ℕ, ◌+◌, ◌<◌, ◌≤◌, ◌==◌, if◌then◌else◌, List, [], ◌∷◌, ◌++◌, length, take}
use Rattle.cp_base.specs.declared.limits.TheConstants.{MAX_HOSTS}
use Rattle.history_model.specs.Plain.{PlainItem, PlainPart, Sends, Takes}
use Rattle.trail_model.specs.Lawful.{Trail}
use Rattle.trail_model.specs.declared.events.Event.{Event}
use Rattle.trail_model.specs.declared.events.Event.TheVariants as event

-- the phases of a plan, each by the parts of its hosts
abbrev pub Phases : Type 0
Phases = List (List PlainPart)

abbrev pub IsHost : ℕ → Type 0
IsHost host = (1 ≤ host) × (host ≤ MAX_HOSTS)

-- what a host does by an event: a submit of its own is a send, a take of its own is a take, all else is nothing
abbrev pub item_by : ℕ → Event → List PlainItem
item_by host (event.Submit by cid ordinal cmd) = if by == host then Sends cid cmd ∷ [] else []
item_by host (event.Claim by other ordinal sent) = []
item_by host (event.Finish by claim answer) = []
item_by host (event.Do by other ordinal sent answer aborts) = []
item_by host (event.Take by cid posted) = if by == host then Takes cid ∷ [] else []
item_by host (event.Rest by) = []

-- what a host does in a trail, in order
abbrev pub items_by : ℕ → Trail → List PlainItem
items_by host [] = []
items_by host (e ∷ trail) = item_by host e ++ items_by host trail

-- the items of a host in a phase
abbrev pub items_in_phase : ℕ → List PlainPart → List PlainItem
items_in_phase host [] = []
items_in_phase host (part ∷ parts) = (if part.host == host then part.items else []) ++ items_in_phase host parts

-- the items of a host in phases
abbrev pub items_in : ℕ → Phases → List PlainItem
items_in host [] = []
items_in host (phase ∷ phases) = items_in_phase host phase ++ items_in host phases

-- in a trail the submits and takes of each host are exactly its items in these phases, in order
abbrev pub HaveDone : Phases → Trail → Type 0
HaveDone phases trail = (host : ℕ) → IsHost host → items_by host trail ≡ items_in host phases

-- a trail begins with another one
pub record BeginsWith (trail start : Trail) : Type 0 where
  pub rest : Trail
  pub whole : trail ≡ start ++ rest

-- The hosts did a plan. For each phase there is a beginning of the trail in which the hosts have done this phase and all
-- before it and nothing more, and each begins with the one before; and in the whole trail they have done all phases.
pub record HostsDid (phases : Phases) (trail : Trail) : Type 0 where
  pub beginning : ℕ → Trail
  pub grows : (k : ℕ) → k < length phases → BeginsWith (beginning (k + 1)) (beginning k)
  pub did : (k : ℕ) → k ≤ length phases → HaveDone (take k phases) (beginning k)
  pub within : BeginsWith trail (beginning (length phases))
  pub all : HaveDone phases trail
