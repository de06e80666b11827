-- What a command that moves bytes does to the bytes that it carries, with nothing else at hand. This project's own.
use Rattle.std.specs.Prelude.{ℕ, ◌*◌, List, [], ◌∷◌, length, map, replicate}
use Rattle.cp_base.specs.Answer.{Answer, only_status}
use Rattle.cp_base.specs.Configuration.{Configuration}
use Rattle.cp_base.specs.Sharing.{range_region, source_region}
use Rattle.cp_base.specs.declared.commands.Command.{Command}
use Rattle.cp_base.specs.declared.commands.Command.TheVariants as command
use Rattle.cp_base.specs.declared.lists.MemRange.{MemRange}
use Rattle.cp_base.specs.declared.region.SpaceId.{SpaceId}
use Rattle.cp_base.specs.declared.region.SpaceId.TheVariants as space
use Rattle.cp_base.specs.declared.replies.Status.TheVariants as status
use Rattle.bpf_model.specs.Memory.{Memory, bytes_from}
use Rattle.device_model.specs.Execution.{Outcome, outcome_on, told_of}
use Rattle.device_model.specs.State.{State}
use Rattle.trail_model.specs.Footprints.{Execution, writable_ranges}
use Rattle.trail_model.specs.Pieces.{AllBytes, RegionBytes, carried, gathered, gathered_joined, put_pieces}

-- what a command answers, and the pieces that it may write, with their new bytes
pub record LocalEffect : Type 0 where
  pub answer : Answer
  pub pieces : List RegionBytes

-- bytes were read
abbrev pub gave : List ℕ → LocalEffect
gave bytes = record { answer = record { status = status.Ok; result = 0; bytes = bytes }; pieces = [] }

-- bytes were put into a namespace from place start on
abbrev pub laid : SpaceId → ℕ → List ℕ → LocalEffect
laid space start bytes = record {
  answer = only_status status.Ok;
  pieces = record { region = record { space = space; start = start; len = length bytes }; bytes = bytes } ∷ [];
}

-- the memory of programs among the bytes of all namespaces
abbrev pub memory_among : AllBytes → Memory
memory_among all ns offset = all (space.Mem ns) offset

-- ranges with the bytes that a memory has there
abbrev pub ranges_with : Memory → List MemRange → List RegionBytes
ranges_with memory ranges =
    map (λ (range : MemRange). record { region = range_region range; bytes = bytes_from memory range.ns range.at range.len }) ranges

-- what a command that moves bytes and passes its checks answers and writes, where an execution is of this kind, and the
-- bytes of all namespaces are these; of any other command nothing is said
abbrev pub written : Configuration → Execution → AllBytes → Command → LocalEffect
written c x all (command.NvmRead ns lba count) = gave (gathered all (space.Nvm ns) (lba * c.block) (count * c.block))
written c x all (command.NvmWrite ns lba bytes) = laid (space.Nvm ns) (lba * c.block) bytes.items
written c x all (command.NvmZeroes ns lba count) = laid (space.Nvm ns) (lba * c.block) (replicate (count * c.block) 0)
written c x all (command.NvmCopy ns lba from) =
    laid (space.Nvm ns) (lba * c.block) (gathered_joined all (map (source_region c) from))
written c x all (command.MemRead ns at len) = gave (gathered all (space.Mem ns) at len)
written c x all (command.MemWrite ns at bytes) = laid (space.Mem ns) at bytes.items
written c x all (command.MemFill ns at len value) = laid (space.Mem ns) at (replicate len value)
written c x all (command.MemCopy ns at from) = laid (space.Mem ns) at (gathered_joined all (map (source_region c) from))
written c x all (command.Execute slot set p1 p2 budget) = record {
  answer = told_of budget (outcome_on x.runs x.ranges (memory_among all) p1 p2 budget).ending;
  pieces = ranges_with (outcome_on x.runs x.ranges (memory_among all) p1 p2 budget).memory (writable_ranges x.ranges);
}
written c x all _ = gave []

-- the same where the bytes of these pieces are all the bytes that there are
abbrev pub local_effect : Configuration → Execution → List RegionBytes → Command → LocalEffect
local_effect c x pieces cmd = written c x (carried pieces) cmd

-- a state with the pieces of a local effect put back, and its answer
abbrev pub put_back : State → LocalEffect → Outcome
put_back s effect =
    record { answer = effect.answer; next = record s { contents = put_pieces s.contents effect.pieces } }
