-- A host's part may go to another thread.
use denote.RattleType.{RattleType}
use denote.Param.Send.{IsSend, IsSync, sendable}
use Rattle.std.proofs.Crossing.{crosses}
use Rattle.device_lock.proofs.Crossing.{command-send, command-sync}
use Rattle.script_cmds.specs.contracts.item.Item as Item
use Rattle.script_cmds.specs.contracts.item.HostPart as HostPart

item-send : IsSend Item.the_row
item-send = let a = command-send in let b = command-sync in search (sendable, crosses) depth 400 fits 100000

pub part-send : IsSend HostPart.the_row
part-send = let a = item-send in search (sendable, crosses) depth 400 fits 100000

-- as a field or a capture has it
pub part-field-send : IsSend HostPart.the_field.row
part-field-send = let a = item-send in search (sendable, crosses) depth 400 fits 100000
