-- How far a device has come. This project's own.
use Rattle.std.specs.Prelude.{◌≡◌, ℕ, ◌+◌, List, [], ◌∷◌, ◌++◌, length}
use Rattle.cp_base.specs.Configuration.{Configuration}
use Rattle.cp_base.specs.declared.commands.Command.{Command}
use Rattle.trail_model.specs.Lawful.{IsLawful, Trail, history_of, world_of}
use Rattle.trail_model.specs.declared.events.Event.{Event}
use Rattle.trail_model.specs.declared.events.Event.TheVariants as event
use Rattle.device_core.specs.Gives.{world_in}
use Rattle.device_core.specs.Recorded.{Recorded}

-- a command that was sent, with its host and the identifier
pub record SentCommand : Type 0 where
  pub host : ℕ
  pub cid : ℕ
  pub command : Command

-- what a host sends under an identifier
abbrev pub sent_as : ℕ → ℕ → Command → SentCommand
sent_as host cid command = record { host = host; cid = cid; command = command }

-- what an event sends: a submit its command
abbrev pub sent_by : Event → List SentCommand
sent_by (event.Submit by cid ordinal command) = sent_as by cid command ∷ []
sent_by (event.Claim by host ordinal sent) = []
sent_by (event.Finish by claim answer) = []
sent_by (event.Do by host ordinal sent answer aborts) = []
sent_by (event.Take by cid posted) = []
sent_by (event.Rest by) = []

-- the commands that are sent in a trail, in order
abbrev pub sent_commands : Trail → List SentCommand
sent_commands [] = []
sent_commands (e ∷ trail) = sent_by e ++ sent_commands trail

-- the commands that were sent to a device, in order
abbrev pub sent_on : Recorded → List SentCommand
sent_on d = sent_commands d.trail

-- how many claims are open on a device
abbrev pub open_on : Recorded → ℕ
open_on d = length (world_in d).claims

-- how many commands are over on a device
abbrev pub over_on : Recorded → ℕ
over_on d = length (history_of d.config d.trail)

-- a device is the same one, at a later time
pub record IsLater (old new : Recorded) : Type 0 where
  pub config : new.config ≡ old.config
  pub commands : new.commands ≡ old.commands

-- each of these commands is as its number asks, the first as this one
abbrev pub EachFrom : ℕ → (ℕ → SentCommand → Type 0) → List SentCommand → Type 0
EachFrom number Has [] = Unit {0}
EachFrom number Has (x ∷ sent) = Has number x × EachFrom (number + 1) Has sent

-- so many commands were sent, each as its number asks, from 0
pub record AreSent (Has : ℕ → SentCommand → Type 0) (count : ℕ) (sent : List SentCommand) : Type 0 where
  pub each : EachFrom 0 Has sent
  pub all : length sent ≡ count

-- On a device of this configuration so many commands were sent, each as its number asks, which are all that may be; so many claims
-- are open, and so many commands over: it has a lawful trail that comes to this.
pub record ComesTo (c : Configuration) (commands working done : ℕ) (Has : ℕ → SentCommand → Type 0) : Type 0 where
  pub trail : Trail
  pub lawful : IsLawful c commands trail
  pub sent : AreSent Has commands (sent_commands trail)
  pub claims : length (world_of c trail).claims ≡ working
  pub over : length (history_of c trail) ≡ done
