-- One turn of the schedule. This project's own.
use Rattle.std.specs.Prelude.{◌≡◌, ◌≢◌, ℕ, ◌<◌, IsSomeAnd, List, None, ◌++◌, length, map, slice_get, take}
use Rattle.std.specs.List.{AllByRecursion}
use Rattle.core_model.specs.Causes.{submit_cause}
use Rattle.history_model.specs.Plain.{PlainPart}
use Rattle.trail_model.specs.Each.{EachTwo}
use Rattle.trail_model.specs.World.{World, pickable_among}
use Rattle.trail_model.specs.declared.events.Event.{Event}
use Rattle.device_core.specs.Gives.{world_in}
use Rattle.device_core.specs.Recorded.{Appends, Recorded}
use Rattle.schedule_model.specs.Deeds.{IsHost}
use Rattle.schedule_model.specs.Schedule.{Action, Ending, Performs, Sending, Taking, Turning, action_of_host, actions, actions_of_hosts, idle_worker, left_after, turning}

-- one event has happened, which performs an action
pub record DoesAction (old new : Recorded) (action : Action) : Type 0 where
  pub event : Event
  pub appended : Appends old new event
  pub performs : Performs old.config (world_in old) action event

-- an action was done, and this is left of the phase
pub record IsActionDone (old new : Recorded) (before after : List PlainPart) (action : Action) : Type 0 where
  pub does : DoesAction old new action
  pub left : after ≡ left_after action before

-- an action was done, which leaves all parts of a phase as they are
pub record IsActionServed (old new : Recorded) (action : Action) : Type 0 where
  pub does : DoesAction old new action
  pub left : (parts : List PlainPart) → left_after action parts ≡ parts

-- what is no host's action: the ends of the open claims, and the turns of the least idle of so many workers
abbrev pub actions_of_workers : ℕ → Recorded → List Action
actions_of_workers workers d =
    map (λ claim. Ending claim) (world_in d).claims ++ turning (idle_worker (world_in d) workers) (pickable_among d.config (world_in d))

-- all that may be done on a device by its hosts, of whose phase this is left, and by so many workers
abbrev pub listed : ℕ → Recorded → List PlainPart → List Action
listed workers d parts = actions d.config workers (world_in d) parts

-- the listed action of this number was done
abbrev pub IsDoneBy : ℕ → ℕ → Recorded → Recorded → List PlainPart → List PlainPart → Type 0
IsDoneBy number workers old new before after =
    IsSomeAnd (slice_get (listed workers old before) number)
    (λ (action : Action). IsActionDone old new before after action)

-- a send finds its place: nothing forbids it
abbrev pub FindsPlace : Recorded → Action → Type 0
FindsPlace d (Sending host cid command) = submit_cause d.config d.commands (world_in d) host cid ≡ None
FindsPlace d (Taking host cid posted) = Unit {0}
FindsPlace d (Ending claim) = Unit {0}
FindsPlace d (Turning worker s) = Unit {0}

-- the hosts of what is left of a phase are different ones, and each send that one of them may do next finds its place
pub record MayAct (d : Recorded) (parts : List PlainPart) : Type 0 where
  pub hosts : AllByRecursion (λ (part : PlainPart). IsHost part.host) parts
  pub differ : EachTwo (λ (a b : PlainPart). a.host ≢ b.host) parts
  pub sends : AllByRecursion (FindsPlace d) (actions_of_hosts (world_in d) parts)

-- the part at an index is that of host number `number`, from 0, of those that may do their next item
pub record IsReadyAt (w : World) (parts : List PlainPart) (number index : ℕ) : Type 0 where
  pub before : length (actions_of_hosts w (take index parts)) ≡ number
  pub ready : IsSomeAnd (slice_get parts index)
      (λ (part : PlainPart). 0 < length (action_of_host w part.host part.items))
