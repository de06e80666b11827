-- What a command touches, by its nature.
use Rattle.std.proofs.Common.{◌≡◌, ℕ, false, List, [], map, Option, None, Some, refl, sym, ap}
use Rattle.std.proofs.lemmas.Bool.{true≢false}
use Rattle.cp_base.specs.Commands.{is_executing, is_moving, nature_of}
use Rattle.cp_base.specs.Configuration.{Configuration}
use Rattle.cp_base.specs.Runs.{runs_of}
use Rattle.cp_base.specs.Sharing.{range_region}
use Rattle.cp_base.specs.declared.commands.Command.{Command}
use Rattle.cp_base.specs.declared.commands.Command.TheVariants as command
use Rattle.cp_base.specs.declared.commands.Nature.{Nature}
use Rattle.cp_base.specs.declared.commands.Nature.TheVariants as nature
use Rattle.cp_base.specs.declared.lists.MemRange.{MemRange}
use Rattle.cp_base.specs.declared.spans.Footprint.{Footprint}
use Rattle.trail_model.specs.Footprints.{footprint_of, set_held_by, slot_held_by, writable_ranges}

-- an execution reads the ranges of its set and writes those that a program may store into
pub executes : (c : Configuration) (ranges : List MemRange) (cmd : Command) (slot set : ℕ) → nature_of cmd ≡ nature.Executes slot set
    → footprint_of c ranges cmd
    ≡ record { reads = runs_of (map range_region ranges); writes = runs_of (map range_region (writable_ranges ranges)); slot = Some slot; set = Some set }
executes c ranges (command.Execute slot' set' p1 p2 budget) slot set e =
    ap (λ (n : Nature). the_footprint (slot_held_by n) (set_held_by n)) e
  where
    the_footprint : Option ℕ → Option ℕ → Footprint
    the_footprint slot set = record { reads = runs_of (map range_region ranges); writes = runs_of (map range_region (writable_ranges ranges)); slot = slot; set = set }
executes c ranges cmd slot set e = absurd (true≢false (sym (ap is_executing e)))

-- a command that moves no bytes touches nothing
pub touches_nothing : (c : Configuration) (ranges : List MemRange) (cmd : Command) → is_moving (nature_of cmd) ≡ false
    → footprint_of c ranges cmd ≡ record { reads = []; writes = []; slot = None; set = None }
touches_nothing c ranges (command.NvmRead ns lba count) e = absurd (true≢false e)
touches_nothing c ranges (command.NvmWrite ns lba bytes) e = absurd (true≢false e)
touches_nothing c ranges (command.NvmZeroes ns lba count) e = absurd (true≢false e)
touches_nothing c ranges (command.NvmCopy ns lba from) e = absurd (true≢false e)
touches_nothing c ranges (command.MemRead ns at len) e = absurd (true≢false e)
touches_nothing c ranges (command.MemWrite ns at bytes) e = absurd (true≢false e)
touches_nothing c ranges (command.MemFill ns at len value) e = absurd (true≢false e)
touches_nothing c ranges (command.MemCopy ns at from) e = absurd (true≢false e)
touches_nothing c ranges (command.Execute slot set p1 p2 budget) e = absurd (true≢false e)
touches_nothing c ranges cmd e = refl
