-- The queues of a host: how many there are, how deep each is, and to which of them a command is sent. This project's own.
use Rattle.std.specs.Prelude.{◌≡◌, ℕ, ◌*◌, ◌/◌, ◌<◌, All, List, [], ◌∷◌}
use Rattle.script_line.specs.declared.limits.TheConstants.{QUEUE_CIDS}
use Rattle.script_line.specs.declared.version.Version.{Version}
use Rattle.script_line.specs.declared.version.Version.TheVariants.{One, Two}
use Rattle.script_cmds.specs.declared.form.Form.{Form}
use Rattle.script_cmds.specs.declared.item.Item.{Item}
use Rattle.script_cmds.specs.declared.item.Item.TheVariants as item
use Rattle.script_cmds.specs.declared.item.HostPart.{HostPart}
use Rattle.script_cmds.specs.declared.item.Phase.{Phase}

-- how many queues each host has: one in version 1
abbrev pub queues_in : Version → ℕ → ℕ
queues_in One queues = 1
queues_in Two queues = queues

abbrev pub queues_of : Form → ℕ
queues_of form = queues_in form.version form.queues

-- the depth of each queue, where all of them together have this one
abbrev pub queue_depth : Form → ℕ → ℕ
queue_depth form depth = depth / queues_of form

-- What a script says of its queues is what its text says: in version 1 there is one, and the depth of all of them is
-- so many times the depth of each.
pub record AreExact (form : Form) (depth : ℕ) : Type 0 where
  pub queues : form.queues ≡ queues_of form
  pub multiple : depth ≡ queues_of form * queue_depth form depth

-- the queue of an identifier, counted from 0: each has 65,536 identifiers
abbrev pub queue_of_cid : ℕ → ℕ
queue_of_cid cid = cid / QUEUE_CIDS

-- each command that items send goes to one of so many queues
abbrev pub SendToQueues : ℕ → List Item → Type 0
SendToQueues queues [] = Unit {0}
SendToQueues queues (item.Send cid command ∷ items) = (queue_of_cid cid < queues) × SendToQueues queues items
SendToQueues queues (item.Take cid ∷ items) = SendToQueues queues items

-- the same of each part of a phase
abbrev pub PartsSendToQueues : ℕ → List HostPart → Type 0
PartsSendToQueues queues parts = All (λ (part : HostPart). SendToQueues queues part.items) parts

-- the same of each phase
abbrev pub PhasesSendToQueues : ℕ → List Phase → Type 0
PhasesSendToQueues queues phases = All (λ (phase : Phase). PartsSendToQueues queues phase.hosts) phases
