-- How large what a command says and what the device holds and tells can be: numbers have 64 bits and bytes are
-- below 256, as in the code. This project's own.
use Rattle.std.specs.Prelude.{ℕ, ◌^◌, ◌<◌, ◌≤◌, List, Option, All, IfSome, length}
use Rattle.cp_base.specs.Answer.{Answer}
use Rattle.cp_base.specs.Sets.{RangeSet}
use Rattle.cp_base.specs.declared.commands.Command.{Command}
use Rattle.cp_base.specs.declared.commands.Command.TheVariants as command
use Rattle.cp_base.specs.declared.limits.TheConstants.{MAX_ITEMS, MAX_PROGRAM, MAX_TRANSFER}
use Rattle.cp_base.specs.declared.lists.MemRange.{MemRange}
use Rattle.device_model.specs.State.{State, Slot, Empty, Holding}

-- each is a byte
abbrev pub HoldBytes : List ℕ → Type 0
HoldBytes bytes = All (λ byte. byte < 256) bytes

-- the ranges of a set: not too many, and their lengths have 64 bits
pub record AreSizedRanges (ranges : List MemRange) : Type 0 where
  pub few : length ranges ≤ MAX_ITEMS
  pub lengths : All (λ (range : MemRange). range.len < 2 ^ 64) ranges

-- what a command says, where a word says that data are bytes, and another one what is said of the ranges of a set: a fill is
-- of a byte, and what an execution hands on has 64 bits
abbrev pub IsSizedBy : (List ℕ → Type 0) → (List MemRange → Type 0) → Command → Type 0
IsSizedBy Data Ranges (command.NvmRead ns lba count) = Unit {0}
IsSizedBy Data Ranges (command.NvmWrite ns lba bytes) = Data bytes.items
IsSizedBy Data Ranges (command.NvmZeroes ns lba count) = Unit {0}
IsSizedBy Data Ranges (command.NvmCopy ns lba from) = Unit {0}
IsSizedBy Data Ranges (command.MemRead ns at len) = Unit {0}
IsSizedBy Data Ranges (command.MemWrite ns at bytes) = Data bytes.items
IsSizedBy Data Ranges (command.MemFill ns at len value) = value < 256
IsSizedBy Data Ranges (command.MemCopy ns at from) = Unit {0}
IsSizedBy Data Ranges (command.SetCreate ranges) = Ranges ranges
IsSizedBy Data Ranges (command.SetDelete set) = Unit {0}
IsSizedBy Data Ranges (command.Load slot size at bytes) = Data bytes.items
IsSizedBy Data Ranges (command.Unload slot) = Unit {0}
IsSizedBy Data Ranges (command.Activate slot) = Unit {0}
IsSizedBy Data Ranges (command.Deactivate slot) = Unit {0}
IsSizedBy Data Ranges (command.Execute slot set p1 p2 budget) = (p1 < 2 ^ 64) × (p2 < 2 ^ 64)
IsSizedBy Data Ranges (command.Abort cid) = Unit {0}

-- what a command says: its data are bytes, and its numbers have their bits
abbrev pub IsSizedCommand : Command → Type 0
IsSizedCommand cmd = IsSizedBy HoldBytes AreSizedRanges cmd

-- what a slot holds: bytes, no more than a program may have
abbrev pub IsSizedSlot : Slot → Type 0
IsSizedSlot Empty = Unit {0}
IsSizedSlot (Holding bytes active) =
    (length bytes ≤ MAX_PROGRAM) × All (λ (byte : Option ℕ). IfSome byte (λ b. b < 256)) bytes

-- what the device holds
pub record IsSizedState (s : State) : Type 0 where
  pub nvm : All HoldBytes s.contents.nvm
  pub mem : All HoldBytes s.contents.mem
  pub slots : All IsSizedSlot s.slots
  pub sets : All (λ (set : RangeSet). AreSizedRanges set.ranges) s.sets

-- what a host is told
pub record IsSizedAnswer (answer : Answer) : Type 0 where
  pub result : answer.result < 2 ^ 64
  pub short : length answer.bytes ≤ MAX_TRANSFER
  pub bytes : HoldBytes answer.bytes
