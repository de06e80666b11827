-- The parts of a device that keep what its trail leads to, as plain data. This project's own.
use Rattle.std.specs.Prelude.{ℕ, Bool, List, [], Option}
use Rattle.cp_base.specs.Known.{Known}
use Rattle.cp_base.specs.Region.{Region}
use Rattle.cp_base.specs.Sets.{RangeSet}
use Rattle.cp_base.specs.declared.spans.Footprint.{Footprint}
use Rattle.device_model.specs.State.{Slot, State}
use Rattle.queue_pairs.specs.declared.command.Outstanding.{Outstanding as Waiting}
pub use Rattle.core_model.specs.declared.places.ClaimPlaces.{ClaimPlaces}
pub use Rattle.core_model.specs.declared.places.EntryPlaces.{EntryPlaces}
pub use Rattle.core_model.specs.declared.places.WaitingSubmit.{WaitingSubmit}

-- what an open claim touches and holds, kept under a key
pub record KeptFootprint : Type 0 where
  pub key : ℕ
  pub footprint : Footprint

-- How many events there were, how many commands were submitted, and whether the device is at rest. The commands of all
-- hosts that wait to be picked, in order of submission. For each host its outstanding commands and the ordinal of its next
-- one. What open claims touch, and the open claims, each in order of claiming. The bytes that are at home, and whether a region
-- is one of those that were taken out. The slots and the sets. The places of the history's entries, in order.
pub record Parts : Type 0 where
  pub count : ℕ
  pub submitted : ℕ
  pub at_rest : Bool
  pub waiting : List WaitingSubmit
  pub queues : ℕ → List Waiting
  pub ordinals : ℕ → ℕ
  pub kept : List KeptFootprint
  pub claims : List ClaimPlaces
  pub store : Known
  pub out : Region → Bool
  pub slots : List Slot
  pub sets : List RangeSet
  pub entries : List EntryPlaces

-- a state of these tables, without bytes
abbrev pub tables_of : List Slot → List RangeSet → State
tables_of slots sets = record { contents = record { nvm = []; mem = [] }; slots = slots; sets = sets }

-- the tables of the parts, as a state without bytes
abbrev pub tables_in : Parts → State
tables_in p = tables_of p.slots p.sets
