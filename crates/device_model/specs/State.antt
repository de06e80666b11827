-- The state of the device: the bytes of its namespaces, its program slots and its sets.
-- Source: the NVMe Subsystem Local Memory and Computational Programs Command Sets 1.0 in outline; the
-- numbers of slots and sets and the opening state are this project's own.
use Rattle.std.specs.Prelude.{ℕ, Bool, List, [], Option, replicate, slice_get, slice_set}
use Rattle.cp_base.specs.Configuration.{Configuration}
use Rattle.cp_base.specs.Contents.{Contents, all_zero}
use Rattle.cp_base.specs.Sets.{RangeSet}
use Rattle.cp_base.specs.declared.limits.TheConstants.{SLOTS}

-- a program slot: empty, or a program's bytes of which some may be missing, active or not
pub data Slot : Type 0 where
  Empty : Slot
  Holding : (bytes : List (Option ℕ)) (active : Bool) → Slot

-- the bytes of the namespaces; the slots in order of numbers from 0; the sets in order of their numbers
pub record State : Type 0 where
  pub contents : Contents
  pub slots : List Slot
  pub sets : List RangeSet

-- the state at the start: all bytes are 0, all slots are empty, there is no set
abbrev pub opening : Configuration → State
opening c = record { contents = all_zero c; slots = replicate SLOTS Empty; sets = [] }

-- the slot of a number, where there is one
abbrev pub slot_at : State → ℕ → Option Slot
slot_at s n = slice_get s.slots n

-- the state with another slot under a number
abbrev pub with_slot : State → ℕ → Slot → State
with_slot s n slot = record s { slots = slice_set s.slots n slot }
