-- What a command touches: the bytes that it reads, those that it may write, and the slot and the set that it holds
-- while it is carried out. This project's own.
use Rattle.std.specs.Prelude.{ℕ, ◌*◌, nat_lt, Bool, true, false, ◌&&◌, ◌||◌, if◌then◌else◌, List, [], ◌∷◌, filter, length, map, Option, Some, None, unwrap_or}
use Rattle.cp_base.specs.Checks.{destination_of}
use Rattle.cp_base.specs.Commands.{is_executing, nature_of}
use Rattle.cp_base.specs.Configuration.{Configuration}
use Rattle.cp_base.specs.Region.{Region}
use Rattle.cp_base.specs.Runs.{runs_of, space_before}
use Rattle.cp_base.specs.Sets.{ranges_under}
use Rattle.cp_base.specs.Sharing.{range_region, same_space, source_region}
use Rattle.cp_base.specs.declared.commands.Command.{Command}
use Rattle.cp_base.specs.declared.commands.Command.TheVariants as command
use Rattle.cp_base.specs.declared.commands.Nature.{Nature}
use Rattle.cp_base.specs.declared.commands.Nature.TheVariants as nature
use Rattle.cp_base.specs.declared.lists.MemRange.{MemRange}
use Rattle.cp_base.specs.declared.region.SpaceId.TheVariants as space
use Rattle.cp_base.specs.declared.spans.Footprint.{Footprint}
use Rattle.bpf_model.specs.Memory.{allows_writing}
use Rattle.device_model.specs.Execution.{Executable, Loaded, executable_in}
use Rattle.device_model.specs.State.{State}
use Rattle.trail_model.specs.Pieces.{RegionBytes, pieces_of}

-- whether a command is an execution
abbrev pub is_execution : Command → Bool
is_execution cmd = is_executing (nature_of cmd)

-- what an execution runs, and the ranges that it runs on
pub record Execution : Type 0 where
  pub runs : Executable
  pub ranges : List MemRange

-- what a command has that is no execution
abbrev pub no_execution : Execution
no_execution = record { runs = Loaded []; ranges = [] }

-- what a command of this nature would run in a state, and on which ranges
abbrev pub execution_by : State → Nature → Execution
execution_by s nature.Reads = no_execution
execution_by s nature.Writes = no_execution
execution_by s nature.Copies = no_execution
execution_by s (nature.Executes slot set) =
    record { runs = executable_in s slot; ranges = unwrap_or (ranges_under s.sets set) [] }
execution_by s nature.Builds = no_execution
execution_by s nature.Arranges = no_execution
execution_by s (nature.Deletes set) = no_execution
execution_by s (nature.Stops slot) = no_execution
execution_by s (nature.Withdraws cid) = no_execution

-- what a command would run in a state, and on which ranges
abbrev pub execution_of : State → Command → Execution
execution_of s cmd = execution_by s (nature_of cmd)

-- the ranges whose bytes a program may store into
abbrev pub writable_ranges : List MemRange → List MemRange
writable_ranges ranges = filter (λ (range : MemRange). allows_writing range.access) ranges

-- where the bytes lie that a command reads, where it moves any; an execution reads on these ranges
abbrev pub reads_of : Configuration → List MemRange → Command → List Region
reads_of c ranges (command.NvmRead ns lba count) =
    record { space = space.Nvm ns; start = lba * c.block; len = count * c.block } ∷ []
reads_of c ranges (command.NvmWrite ns lba bytes) = []
reads_of c ranges (command.NvmZeroes ns lba count) = []
reads_of c ranges (command.NvmCopy ns lba from) = map (source_region c) from
reads_of c ranges (command.MemRead ns at len) = record { space = space.Mem ns; start = at; len = len } ∷ []
reads_of c ranges (command.MemWrite ns at bytes) = []
reads_of c ranges (command.MemFill ns at len value) = []
reads_of c ranges (command.MemCopy ns at from) = map (source_region c) from
reads_of c ranges (command.Execute slot set p1 p2 budget) = map range_region ranges
reads_of c ranges _ = []

-- where the bytes lie that a command may write, where it moves any; an execution writes on these ranges
abbrev pub writes_of : Configuration → List MemRange → Command → List Region
writes_of c ranges (command.NvmRead ns lba count) = []
writes_of c ranges (command.NvmWrite ns lba bytes) =
    record { space = space.Nvm ns; start = lba * c.block; len = length bytes.items } ∷ []
writes_of c ranges (command.NvmZeroes ns lba count) =
    record { space = space.Nvm ns; start = lba * c.block; len = count * c.block } ∷ []
writes_of c ranges (command.NvmCopy ns lba from) =
    destination_of (space.Nvm ns) (lba * c.block) (map (source_region c) from) ∷ []
writes_of c ranges (command.MemRead ns at len) = []
writes_of c ranges (command.MemWrite ns at bytes) =
    record { space = space.Mem ns; start = at; len = length bytes.items } ∷ []
writes_of c ranges (command.MemFill ns at len value) = record { space = space.Mem ns; start = at; len = len } ∷ []
writes_of c ranges (command.MemCopy ns at from) = destination_of (space.Mem ns) at (map (source_region c) from) ∷ []
writes_of c ranges (command.Execute slot set p1 p2 budget) = map range_region (writable_ranges ranges)
writes_of c ranges _ = []

-- the slot that a command of this nature holds while it is carried out
abbrev pub slot_held_by : Nature → Option ℕ
slot_held_by nature.Reads = None
slot_held_by nature.Writes = None
slot_held_by nature.Copies = None
slot_held_by (nature.Executes slot set) = Some slot
slot_held_by nature.Builds = None
slot_held_by nature.Arranges = None
slot_held_by (nature.Deletes set) = None
slot_held_by (nature.Stops slot) = None
slot_held_by (nature.Withdraws cid) = None

-- the set that it holds
abbrev pub set_held_by : Nature → Option ℕ
set_held_by nature.Reads = None
set_held_by nature.Writes = None
set_held_by nature.Copies = None
set_held_by (nature.Executes slot set) = Some set
set_held_by nature.Builds = None
set_held_by nature.Arranges = None
set_held_by (nature.Deletes set) = None
set_held_by (nature.Stops slot) = None
set_held_by (nature.Withdraws cid) = None

-- the slot that a command holds while it is carried out
abbrev pub held_slot : Command → Option ℕ
held_slot cmd = slot_held_by (nature_of cmd)

-- the set that a command holds while it is carried out
abbrev pub held_set : Command → Option ℕ
held_set cmd = set_held_by (nature_of cmd)

-- what a command touches, where an execution runs on these ranges: the runs of its bytes, and what it holds
abbrev pub footprint_of : Configuration → List MemRange → Command → Footprint
footprint_of c ranges cmd = record {
  reads = runs_of (reads_of c ranges cmd);
  writes = runs_of (writes_of c ranges cmd);
  slot = held_slot cmd;
  set = held_set cmd;
}

-- regions with one more, in the order of namespaces and first bytes
abbrev pub with_region : Region → List Region → List Region
with_region region [] = region ∷ []
with_region region (other ∷ others) =
    if space_before region.space other.space || (same_space region.space other.space && nat_lt region.start other.start)
    then region ∷ other ∷ others else other ∷ with_region region others

-- two lists of regions as one, in that order
abbrev pub in_one_order : List Region → List Region → List Region
in_one_order [] others = others
in_one_order (region ∷ regions) others = with_region region (in_one_order regions others)

-- the regions whose bytes a command carries: an execution the ranges of its set in their order, any other command the
-- runs that it may write and those that it only reads, in one order
abbrev pub carried_regions : Configuration → List MemRange → Command → List Region
carried_regions c ranges cmd =
    if is_execution cmd then map range_region ranges
    else in_one_order (runs_of (writes_of c ranges cmd)) (runs_of (reads_of c ranges cmd))

-- the pieces that a command carries out of a state
abbrev pub cut_for : Configuration → State → Command → List RegionBytes
cut_for c s cmd = pieces_of s.contents (carried_regions c (execution_of s cmd).ranges cmd)
