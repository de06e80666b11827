-- The trail of a core. This project's own.
use Rattle.std.specs.Prelude.{◌≡◌, ℕ, List, [], ◌∷◌, ◌++◌, map}
use Rattle.std.specs.Arc.{arc_value}
use Rattle.cp_base.specs.Answer.{answer_of}
use Rattle.cp_base.specs.Configuration.{Configuration}
use Rattle.trail_model.specs.Lawful.{Trail}
use Rattle.trail_model.specs.declared.events.Event.{Event}
use Rattle.trail_model.specs.declared.events.Event.TheVariants as event
use Rattle.device_core.specs.declared.events.Event.{Event as KeptEvent}
use Rattle.device_core.specs.declared.events.Event.TheVariants as kept

-- an event by what it tells, however its command and its reply are kept
abbrev pub told_event : KeptEvent → Event
told_event (kept.Submit by cid ordinal command) = event.Submit by cid ordinal (arc_value command)
told_event (kept.Claim by host ordinal sent) = event.Claim by host ordinal sent
told_event (kept.Finish by claim reply) = event.Finish by claim (answer_of reply)
told_event (kept.Do by host ordinal sent reply aborts) = event.Do by host ordinal sent (answer_of reply) aborts
told_event (kept.Take by cid posted) = event.Take by cid posted
told_event (kept.Rest by) = event.Rest by

-- the trail of these events
abbrev pub trail_of : List KeptEvent → Trail
trail_of events = map told_event events

-- a device by its trail: its configuration, how many commands may be submitted in all, and what has happened
pub record Recorded : Type 0 where
  pub config : Configuration
  pub commands : ℕ
  pub trail : Trail

-- the device after one more event
abbrev pub with_event : Recorded → Event → Recorded
with_event d e = record d { trail = d.trail ++ e ∷ [] }

-- one event has happened, and nothing else
abbrev pub Appends : Recorded → Recorded → Event → Type 0
Appends old new e = new ≡ with_event old e
