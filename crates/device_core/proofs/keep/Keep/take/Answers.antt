use Rattle.device_core.proofs.keep.Keep.take.Goals as goal

pub returns-clause-room : goal.returns-clause-room
returns-clause-room c depth commands room =
    record { waiting = room.waiting; entries = room.entries; kept = room.kept; claims = room.claims; queues = c.take_from.ensures.queues depth room.queues; ordinals = room.ordinals }
