-- What a submit in a trail asks for, read from the trail by its place. This project's own.
use Rattle.std.specs.Prelude.{ℕ, Option, Some, None, option_and_then, slice_get}
use Rattle.cp_base.specs.declared.commands.Command.{Command}
use Rattle.trail_model.specs.Lawful.{Trail}
use Rattle.trail_model.specs.World.{Request}
use Rattle.trail_model.specs.declared.events.Event.{Event}
use Rattle.trail_model.specs.declared.events.Event.TheVariants as event

-- what a submit says: its host, the command's identifier and ordinal, and the command
pub record Asked : Type 0 where
  pub host : ℕ
  pub cid : ℕ
  pub ordinal : ℕ
  pub command : Command

-- what an event asks for, where it is a submit
abbrev pub asked_in : Event → Option Asked
asked_in (event.Submit by cid ordinal cmd) = Some (record { host = by; cid = cid; ordinal = ordinal; command = cmd })
asked_in (event.Claim by host ordinal sent) = None
asked_in (event.Finish by claim answer) = None
asked_in (event.Do by host ordinal sent answer aborts) = None
asked_in (event.Take by cid posted) = None
asked_in (event.Rest by) = None

-- what the submit at a place of a trail asks for, where one is there
abbrev pub asked_at : Trail → ℕ → Option Asked
asked_at trail place = option_and_then asked_in (slice_get trail place)

-- what a request of the world asks for
abbrev pub asked_by_request : Request → Asked
asked_by_request r = record { host = r.host; cid = r.cid; ordinal = r.ordinal; command = r.command }
