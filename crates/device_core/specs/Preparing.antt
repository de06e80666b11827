-- What is prepared for a claim. This project's own.
use Rattle.std.specs.Prelude.{◌≡◌, ◌≤◌, ℕ, List, Option, None, Some, option_map, replicate, vec_capacity}
use Rattle.cp_base.specs.Commands.{nature_of}
use Rattle.cp_base.specs.Configuration.{Configuration}
use Rattle.cp_base.specs.Region.{Region}
use Rattle.cp_base.specs.Sets.{RangeSet, ranges_under}
use Rattle.cp_base.specs.declared.commands.Command.{Command}
use Rattle.cp_base.specs.declared.commands.Nature.{Nature}
use Rattle.cp_base.specs.declared.commands.Nature.TheVariants as nature
use Rattle.cp_base.specs.declared.lists.MemRange.{MemRange}
use Rattle.cp_base.specs.declared.spans.Footprint.{Footprint}
use Rattle.bpf_model.specs.Address.{stack_len}
use Rattle.device_model.specs.State.{State}
use Rattle.trail_model.specs.Footprints.{Execution, carried_regions, execution_of, footprint_of, writes_of}
use Rattle.job_run.specs.Works.{RunsDecoded}
use Rattle.device_core.specs.declared.preparing.Setup.{Setup}

-- what a command touches in a state
abbrev pub touched_in : Configuration → State → Command → Footprint
touched_in c s cmd = footprint_of c (execution_of s cmd).ranges cmd

-- the regions that it carries
abbrev pub carried_in : Configuration → State → Command → List Region
carried_in c s cmd = carried_regions c (execution_of s cmd).ranges cmd

-- the regions that are taken out for it
abbrev pub taken_in : Configuration → State → Command → List Region
taken_in c s cmd = writes_of c (execution_of s cmd).ranges cmd

-- the ranges of the set that a command of this nature runs on
abbrev pub set_run_by : List RangeSet → Nature → Option (List MemRange)
set_run_by sets nature.Reads = None
set_run_by sets nature.Writes = None
set_run_by sets nature.Copies = None
set_run_by sets (nature.Executes slot set) = ranges_under sets set
set_run_by sets nature.Builds = None
set_run_by sets nature.Arranges = None
set_run_by sets (nature.Deletes set) = None
set_run_by sets (nature.Stops slot) = None
set_run_by sets (nature.Withdraws cid) = None

-- the ranges of the set that an execution runs on; none for any other command
abbrev pub set_in : List RangeSet → Command → Option (List MemRange)
set_in sets cmd = set_run_by sets (nature_of cmd)

-- the set, the code, the stack and the room for windows on so many pieces that an execution has
pub record FitsSetup (x : Execution) (pieces : ℕ) (setup : Setup) : Type 0 where
  pub set : setup.set ≡ Some x.ranges
  pub code : RunsDecoded x.runs (option_map (λ decoded. decoded.value) setup.code)
  pub stack : setup.stack.items ≡ replicate stack_len 0
  pub windows : pieces ≤ vec_capacity setup.windows
