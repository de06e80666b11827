-- A device may be shared among threads. Each type in turn, since a search that goes down through all of them gives up.
use denote.RattleType.{RattleType}
use denote.Param.Send.{IsSend, IsSync, sendable}
use Rattle.std.proofs.Crossing.{crosses}
use Rattle.std.proofs.MapsCrossing as maps
use Rattle.atomic_table.proofs.shared.Shared.TheSendSync.{the_sync as shared_sync}
use Rattle.atomic_table.proofs.send_lease.SendLease.TheSendSync.{the_sync as lease_sync}
use Rattle.extents.specs.contracts.extents.Extents as Extents
use Rattle.extents.specs.contracts.space.Space as Space
use Rattle.extents.specs.contracts.tiles.Extent as Extent
use Rattle.range_claims.specs.contracts.claims.Claims as Claims
use Rattle.bpf_isa.specs.contracts.insn.Insn as Insn
use Rattle.bpf_decode.specs.contracts.decoder.Decoded as Decoded
use Rattle.program_slots.specs.contracts.pieces.Pieces as Pieces
use Rattle.program_slots.specs.contracts.program.Program as Program
use Rattle.program_slots.specs.contracts.slots.Slots as Slots
use Rattle.cp_base.specs.contracts.commands.Command as Command
use Rattle.cp_base.specs.contracts.configuration.Config as Config
use Rattle.cp_base.specs.contracts.lists.RangeList as RangeList
use Rattle.cp_base.specs.contracts.lists.SetRanges as SetRanges
use Rattle.cp_base.specs.contracts.lists.SourceList as SourceList
use Rattle.range_sets.specs.contracts.sets.Sets as Sets
use Rattle.queue_pairs.specs.contracts.queue.Queue as Queue
use Rattle.device_core.specs.contracts.device.Core as Core
use Rattle.device_core.specs.contracts.entries.Withdrawn as Withdrawn
use Rattle.device_core.specs.contracts.events.Event as KeptEvent
use Rattle.device_core.specs.contracts.keep.Keep as Keep
use Rattle.seat_lock.specs.contracts.types.SeatLock as SeatLock
use Rattle.seat_lock.specs.declared.trailed.Trailed.{Ghosts}
use Rattle.device_lock.specs.contracts.kept.Kept as Kept
use Rattle.device_lock.specs.contracts.locked.Device as Device

sources-send : IsSend SourceList.the_field.row
sources-send = search (sendable, crosses) depth 400 fits 100000

sources-sync : IsSync SourceList.the_field.row
sources-sync = search (sendable, crosses) depth 400 fits 100000

list-send : IsSend RangeList.the_row
list-send = search (sendable, crosses) depth 400 fits 100000

list-sync : IsSync RangeList.the_row
list-sync = search (sendable, crosses) depth 400 fits 100000

ranges-send : IsSend SetRanges.the_field.row
ranges-send = let a = list-send in search (sendable, crosses) depth 400 fits 100000

ranges-sync : IsSync SetRanges.the_field.row
ranges-sync = let a = list-sync in search (sendable, crosses) depth 400 fits 100000

pub command-send : IsSend Command.the_row
command-send = let a = sources-send in let b = ranges-send in search (sendable, crosses) depth 400 fits 100000

pub command-sync : IsSync Command.the_row
command-sync = let a = sources-sync in let b = ranges-sync in search (sendable, crosses) depth 400 fits 100000

event-send : IsSend KeptEvent.the_row
event-send = let a = command-send in let b = command-sync in search (sendable, crosses) depth 400 fits 100000

queue-send : IsSend Queue.the_row
queue-send = search (sendable, crosses) depth 400 fits 100000

sets-send : IsSend Sets.the_row
sets-send = search (sendable, crosses) depth 400 fits 100000

insn-send : IsSend Insn.the_row
insn-send = search sendable depth 400 fits 100000

insn-sync : IsSync Insn.the_row
insn-sync = search sendable depth 400 fits 100000

decoded-send : IsSend Decoded.the_row
decoded-send = let a = insn-send in search (sendable, crosses) depth 400 fits 100000

decoded-sync : IsSync Decoded.the_row
decoded-sync = let a = insn-sync in search (sendable, crosses) depth 400 fits 100000

pieces-send : IsSend Pieces.the_row
pieces-send = search (sendable, crosses, maps.crosses) depth 400 fits 100000

program-send : IsSend Program.the_row
program-send = let a = decoded-send in let b = decoded-sync in let c = pieces-send in search (sendable, crosses) depth 400 fits 100000

slots-send : IsSend Slots.the_row
slots-send = let a = program-send in search (sendable, crosses) depth 400 fits 100000

claims-send : IsSend Claims.the_row
claims-send = search (sendable, crosses) depth 400 fits 100000

extent-send : IsSend Extent.the_row
extent-send = search (sendable, crosses) depth 400 fits 100000

space-send : IsSend Space.the_row
space-send = let a = extent-send in search (sendable, crosses, maps.crosses) depth 400 fits 100000

extents-send : IsSend Extents.the_row
extents-send = let a = space-send in search (sendable, crosses, maps.crosses) depth 400 fits 100000

-- as the core has it: a field that is a plain struct goes by its `the_field`
keep-send : IsSend Keep.the_field.row
keep-send =
    let a = queue-send in let b = sets-send in let c = slots-send in let d = claims-send in let e = extents-send in
    search (sendable, crosses) depth 400 fits 100000

withdrawn-send : IsSend Withdrawn.the_row
withdrawn-send = search (sendable, crosses) depth 400 fits 100000

config-send : IsSend Config.the_row
config-send = search sendable depth 400 fits 100000

core-send : IsSend Core.the_row
core-send = let a = event-send in let b = keep-send in let c = withdrawn-send in let d = config-send in search (sendable, crosses) depth 40

kept-send : IsSend Kept.the_row
kept-send = let a = core-send in search (sendable, crosses) depth 100 fits 100000

-- a lock of what may go to another thread
lock-sync : (V E F : RattleType) (g : Ghosts V.Denot E.Denot F.Denot) → IsSend V → IsSync (SeatLock.the_row V E F g)
lock-sync V E F g a = search (sendable, crosses, shared_sync, lease_sync) depth 100 fits 100000

pub device-sync : IsSync Device.the_row
device-sync = let a = kept-send in search (sendable, crosses, lock-sync) depth 400 fits 100000
