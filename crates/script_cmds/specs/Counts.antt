-- How many commands a script sends. This project's own.
use Rattle.std.specs.Prelude.{ℕ, Bool, true, false, List, count_by, sum_by}
use Rattle.script_cmds.specs.declared.item.Item.{Item}
use Rattle.script_cmds.specs.declared.item.Item.TheVariants as item
use Rattle.script_cmds.specs.declared.item.HostPart.{HostPart}
use Rattle.script_cmds.specs.declared.item.Phase.{Phase}

abbrev pub is_send : Item → Bool
is_send (item.Send cid command) = true
is_send (item.Take cid) = false

abbrev pub sends_in_items : List Item → ℕ
sends_in_items items = count_by is_send items

abbrev pub sends_in_parts : List HostPart → ℕ
sends_in_parts parts = sum_by (λ (part : HostPart). sends_in_items part.items) parts

abbrev pub sends_in_phases : List Phase → ℕ
sends_in_phases phases = sum_by (λ (phase : Phase). sends_in_parts phase.hosts) phases
