-- Scripts and histories that serve as worked examples. This project's own.
use Rattle.std.specs.Prelude.{ℕ, ◌*◌, List, [], ◌∷◌, Option, Some, None, map}
use Rattle.std.specs.declared.alloc.Global.{Global}
use Rattle.std.specs.declared.sync.Arc.{Arc}
use Rattle.cp_base.specs.Configuration.{Configuration, bare, with_size}
use Rattle.cp_base.specs.declared.region.SpaceId.TheVariants as space
use Rattle.cp_base.specs.declared.commands.Command.{Command}
use Rattle.cp_base.specs.declared.commands.Command.TheVariants as command
use Rattle.cp_base.specs.declared.replies.Status.{Status}
use Rattle.cp_base.specs.declared.replies.Status.TheVariants as status
use Rattle.script_cmds.specs.declared.item.Item.{Item}
use Rattle.script_cmds.specs.declared.item.Item.TheVariants as item
use Rattle.script_cmds.specs.declared.item.HostPart.{HostPart}
use Rattle.script_cmds.specs.declared.item.Phase.{Phase}
use Rattle.script_cmds.specs.declared.form.Form.{Form}
use Rattle.script_cmds.specs.declared.script.Script.{Script}
use Rattle.script_line.specs.declared.version.Version.TheVariants as version
use Rattle.history_model.specs.Entry.{Entry}
use Rattle.history_model.specs.Sent.{Sent, sends_of}

-- a device with one memory namespace of 16 bytes: two lines of a script
abbrev pub small_device : ℕ → Configuration
small_device depth = with_size (bare 512 depth 1) (space.Mem 1) 16

-- a command is sent, shared like another one
abbrev pub sending : Arc Command Global → ℕ → Command → Item
sending shared cid cmd = item.Send cid (record shared { value = cmd })

-- two bytes become 7
abbrev pub fill : Command
fill = command.MemFill 1 0 2 7

-- the same two bytes are read
abbrev pub look : Command
look = command.MemRead 1 0 2

abbrev pub part : ℕ → List Item → HostPart
part host items = record { host = host; items = items }

-- one phase of these parts
abbrev pub one_phase : List HostPart → List Phase
one_phase parts = record { hosts = parts } ∷ []

-- version 1
abbrev pub one_queue : Form
one_queue = record { version = version.One; queues = 1 }

-- version 2 with so many queues
abbrev pub with_queues : ℕ → Form
with_queues queues = record { version = version.Two; queues = queues }

abbrev pub script_in : Form → ℕ → List Phase → Script
script_in form depth phases = record { form = form; config = small_device depth; phases = phases; shows = [] }

abbrev pub script_of : ℕ → List Phase → Script
script_of depth phases = script_in one_queue depth phases

-- one host, whose host line is the fourth
abbrev pub one_host : ℕ → List Item → Script
one_host depth items = script_of depth (one_phase (part 1 items ∷ []))

-- one host with two queues of this depth each
abbrev pub with_two_queues : ℕ → List Item → Script
with_two_queues depth items = script_in (with_queues 2) (2 * depth) (one_phase (part 1 items ∷ []))

-- two hosts side by side: one fills, the other reads
abbrev pub two_hosts : Arc Command Global → List Phase
two_hosts shared = one_phase (part 1 (sending shared 1 fill ∷ []) ∷ part 2 (sending shared 1 look ∷ []) ∷ [])

abbrev pub filled : Sent
filled = record { host = 1; ordinal = 1; cid = 1; phase = 1; command = fill; taken = []; named = None }

abbrev pub looked : Sent
looked = record { host = 2; ordinal = 1; cid = 1; phase = 1; command = look; taken = []; named = None }

-- a command that was answered Ok with these bytes
abbrev pub answered : Sent → List ℕ → Entry
answered sent bytes = record { sent = sent; answer = record { status = status.Ok; result = 0; bytes = bytes } }

-- the command of this identifier is withdrawn
abbrev pub withdraw : ℕ → Command
withdraw cid = command.Abort cid

-- an Abort of the first command of the one host, sent as the second
abbrev pub withdrawing : Sent
withdrawing = record { host = 1; ordinal = 2; cid = 2; phase = 1; command = withdraw 1; taken = []; named = Some 1 }

-- one host fills and withdraws the fill
abbrev pub fill_and_withdraw : Arc Command Global → List Phase
fill_and_withdraw shared =
    one_phase (part 1 (sending shared 1 fill ∷ sending shared 2 (withdraw 1) ∷ item.Take 1 ∷ item.Take 2 ∷ []) ∷ [])

-- a command that was answered without bytes
abbrev pub entry_told : Sent → Status → ℕ → Entry
entry_told sent status value = record { sent = sent; answer = record { status = status; result = value; bytes = [] } }

-- what each command of a plan names, in the order of its text
abbrev pub named_by : List Phase → List (Option ℕ)
named_by plan = map (λ (sent : Sent). sent.named) (sends_of plan)
