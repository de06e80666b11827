-- What the phases of a script or a plan say, however their commands are shared. This project's own.
use Rattle.std.specs.Prelude.{ℕ, List, map}
use Rattle.cp_base.specs.declared.commands.Command.{Command}
use Rattle.script_cmds.specs.Hosts.{hosts_of}
use Rattle.script_cmds.specs.declared.item.Item.{Item}
use Rattle.script_cmds.specs.declared.item.Item.TheVariants as item
use Rattle.script_cmds.specs.declared.item.HostPart.{HostPart}
use Rattle.script_cmds.specs.declared.item.Phase.{Phase}

-- a send with its command itself, or a take
pub data PlainItem : Type 0 where
  Sends : (cid : ℕ) (command : Command) → PlainItem
  Takes : (cid : ℕ) → PlainItem

-- a host and what it does
pub record PlainPart : Type 0 where
  pub host : ℕ
  pub items : List PlainItem

abbrev pub plain_item : Item → PlainItem
plain_item (item.Send cid command) = Sends cid command.value
plain_item (item.Take cid) = Takes cid

abbrev pub plain_items : List Item → List PlainItem
plain_items items = map plain_item items

abbrev pub plain_part : HostPart → PlainPart
plain_part part = record { host = part.host; items = plain_items part.items }

abbrev pub plain_parts : List HostPart → List PlainPart
plain_parts parts = map plain_part parts

abbrev pub plain_phase : Phase → List PlainPart
plain_phase phase = plain_parts phase.hosts

-- the parts of each phase
abbrev pub plain_phases : List Phase → List (List PlainPart)
plain_phases phases = map plain_phase phases

-- the hosts of each phase, in order
abbrev pub hosts_by_phase : List Phase → List (List ℕ)
hosts_by_phase phases = map (λ (phase : Phase). hosts_of phase.hosts) phases
