-- What a device stands for, and what it may answer. This project's own.
use Rattle.std.specs.Prelude.{◌≡◌, ℕ, ◌⊎◌, Bool, List, true, false, length, unwrap_or}
use Rattle.cp_base.specs.Answer.{Answer}
use Rattle.cp_base.specs.Commands.{nature_of}
use Rattle.cp_base.specs.Configuration.{Configuration, size_of}
use Rattle.cp_base.specs.Contents.{Contents, bytes_in, bytes_of, put}
use Rattle.cp_base.specs.declared.commands.Command.{Command}
use Rattle.cp_base.specs.Region.{Region}
use Rattle.cp_base.specs.declared.commands.Nature.{Nature}
use Rattle.cp_base.specs.declared.commands.Nature.TheVariants as nature
use Rattle.cp_base.specs.declared.region.SpaceId.{SpaceId}
use Rattle.cp_base.specs.declared.replies.Status.TheVariants as status
use Rattle.device_model.specs.State.{State}
use Rattle.device_model.specs.Step.{FindsNoMemory, outcome_of}

-- a configuration, and the state that the device is in
pub record Standing : Type 0 where
  pub config : Configuration
  pub state : State

-- each namespace has as many bytes as it is configured with
abbrev pub HasSizes : Configuration → Contents → Type 0
HasSizes c contents = (space : SpaceId) → length (bytes_of contents space) ≡ unwrap_or (size_of c space) 0

-- the answer to a read of a region
abbrev pub was_read : Contents → Region → Answer
was_read contents region = record { status = status.Ok; result = 0; bytes = bytes_in contents region }

-- the same device with these bytes in a namespace from a place on
abbrev pub with_put : Standing → SpaceId → ℕ → List ℕ → Standing
with_put d space start bytes = record d { state = record d.state { contents = put d.state.contents space start bytes } }

-- a command is carried out or refused
abbrev pub IsDone : Standing → Command → Answer → Standing → Type 0
IsDone old cmd answer new =
    (outcome_of old.config old.state cmd ≡ record { answer = answer; next = new.state }) × (new.config ≡ old.config)

-- the same, or the command finds no memory
abbrev pub IsCarriedOut : Standing → Command → Answer → Standing → Type 0
IsCarriedOut old cmd answer new =
    (outcome_of old.config old.state cmd ≡ record { answer = answer; next = new.state } ⊎ FindsNoMemory old.config old.state cmd answer new.state)
    × (new.config ≡ old.config)

-- whether a command of this nature is carried out in what the device holds already, and needs no memory beside it
abbrev pub is_in_place : Nature → Bool
is_in_place nature.Reads = false
is_in_place nature.Writes = true
is_in_place nature.Copies = false
is_in_place (nature.Executes slot set) = false
is_in_place nature.Builds = false
is_in_place nature.Arranges = true
is_in_place (nature.Deletes set) = true
is_in_place (nature.Stops slot) = true
is_in_place (nature.Withdraws cid) = true

-- whether a command is carried out in what the device holds already, and needs no memory beside it
abbrev pub works_in_place : Command → Bool
works_in_place cmd = is_in_place (nature_of cmd)
