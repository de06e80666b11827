-- What a command does that passes its checks. Source: the NVMe command sets in outline; the details are
-- this project's own.
use Rattle.std.specs.Prelude.{ℕ, ◌*◌, true, false, List, Option, Some, None, map, replicate, if◌then◌else◌}
use Rattle.cp_base.specs.Answer.{only_status}
use Rattle.cp_base.specs.Configuration.{Configuration}
use Rattle.cp_base.specs.Contents.{bytes_in, put, joined}
use Rattle.cp_base.specs.declared.region.SpaceId.{SpaceId}
use Rattle.cp_base.specs.Pieces.{patched}
use Rattle.cp_base.specs.Region.{Region}
use Rattle.cp_base.specs.declared.region.SpaceId.TheVariants as space
use Rattle.cp_base.specs.declared.commands.Command.{Command}
use Rattle.cp_base.specs.declared.commands.Command.TheVariants as command
use Rattle.cp_base.specs.declared.replies.Status.TheVariants as status
use Rattle.cp_base.specs.Sets.{next_number, ranges_under, with_set, without_set}
use Rattle.cp_base.specs.Sharing.{source_region}
use Rattle.device_model.specs.Checks.{is_empty_slot, slot_bytes}
use Rattle.device_model.specs.Execution.{Outcome, executed, tells}
use Rattle.device_model.specs.State.{State, Slot, Empty, Holding, slot_at, with_slot}

-- done, with this state after it
abbrev pub done : State → Outcome
done next = record { answer = only_status status.Ok; next = next }

-- bytes were read, and the state is as before
abbrev pub read : State → Region → Outcome
read s region =
    record { answer = record { status = status.Ok; result = 0; bytes = bytes_in s.contents region }; next = s }

-- bytes were put into a namespace from place start on
abbrev pub wrote : State → SpaceId → ℕ → List ℕ → Outcome
wrote s space start bytes = done (record s { contents = put s.contents space start bytes })

-- the bytes of a program of that size that a slot holds, or none of them yet
abbrev pub begun : Option Slot → ℕ → List (Option ℕ)
begun slot size = if is_empty_slot slot then replicate size None else slot_bytes slot

-- what a command that passes its checks answers and leaves; an Abort that withdraws nothing answers 1
abbrev pub effect_of : Configuration → State → Command → Outcome
effect_of c s (command.NvmRead ns lba count) =
    read s (record { space = space.Nvm ns; start = lba * c.block; len = count * c.block })
effect_of c s (command.NvmWrite ns lba bytes) = wrote s (space.Nvm ns) (lba * c.block) bytes.items
effect_of c s (command.NvmZeroes ns lba count) = wrote s (space.Nvm ns) (lba * c.block) (replicate (count * c.block) 0)
effect_of c s (command.NvmCopy ns lba from) =
    wrote s (space.Nvm ns) (lba * c.block) (joined s.contents (map (source_region c) from))
effect_of c s (command.MemRead ns at len) = read s (record { space = space.Mem ns; start = at; len = len })
effect_of c s (command.MemWrite ns at bytes) = wrote s (space.Mem ns) at bytes.items
effect_of c s (command.MemFill ns at len value) = wrote s (space.Mem ns) at (replicate len value)
effect_of c s (command.MemCopy ns at from) = wrote s (space.Mem ns) at (joined s.contents (map (source_region c) from))
effect_of c s (command.SetCreate ranges) = record {
  answer = tells status.Ok (next_number s.sets);
  next = record s { sets = with_set s.sets (record { number = next_number s.sets; ranges = ranges }) };
}
effect_of c s (command.SetDelete set) = done (record s { sets = without_set s.sets set })
effect_of c s (command.Load slot size at bytes) =
    done (with_slot s slot (Holding (patched (begun (slot_at s slot) size) at (map (λ byte. Some byte) bytes.items)) false))
effect_of c s (command.Unload slot) = done (with_slot s slot Empty)
effect_of c s (command.Activate slot) = done (with_slot s slot (Holding (slot_bytes (slot_at s slot)) true))
effect_of c s (command.Deactivate slot) = done (with_slot s slot (Holding (slot_bytes (slot_at s slot)) false))
effect_of c s (command.Execute slot set p1 p2 budget) = executed s slot (ranges_under s.sets set) p1 p2 budget
effect_of c s (command.Abort cid) = record { answer = tells status.Ok 1; next = s }
