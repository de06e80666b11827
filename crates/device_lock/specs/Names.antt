-- Which device it is. This project's own.
use Rattle.std.specs.Prelude.{ℕ, Some}
use Rattle.atomic_table.specs.Seated.{TableId}
use Rattle.crossbeam_utils.specs.declared.cache_padded.CachePadded.{CachePadded}
use Rattle.crossbeam_utils.specs.Padded.{padded_value}
use Rattle.cp_base.specs.Configuration.{Configuration}
use Rattle.trail_model.specs.Lawful.{Trail}
use Rattle.trail_model.specs.declared.events.Event.{Event}
use Rattle.seat_lock.specs.Passes.{LockName, lock_of}
use Rattle.seat_lock.specs.declared.types.SeatLock.{SeatLock}
use Rattle.device_core.specs.Recorded.{Recorded}
use Rattle.device_lock.specs.declared.kept.Fixed.{Fixed}
use Rattle.device_lock.specs.declared.kept.Kept.{Kept}

-- Which device it is: its configuration, how many commands may be submitted in all, how many passes it has, and its lock's table
pub record DeviceName : Type 0 where
  pub config : Configuration
  pub commands : ℕ
  pub seats : ℕ
  pub table : TableId

-- the lock of a device
abbrev pub lock_of_device : DeviceName → LockName Fixed
lock_of_device d =
    record { table = d.table; fixed = Some (record { config = d.config; commands = d.commands }); seats = d.seats }

-- a device with this trail, as its core shows it
abbrev pub recorded_with : DeviceName → Trail → Recorded
recorded_with d trail = record { config = d.config; commands = d.commands; trail = trail }

-- what no turn changes of the value behind the lock
abbrev pub fixed_in : Kept → Fixed
fixed_in k = record { config = k.core.config; commands = k.core.commands }

-- the lock as a device holds it
abbrev pub held_lock : CachePadded (SeatLock Kept Event Fixed) → LockName Fixed
held_lock lock = lock_of fixed_in (padded_value lock)

-- the device that was made of a core, and that holds this lock
abbrev pub device_named : Recorded → CachePadded (SeatLock Kept Event Fixed) → DeviceName
device_named first lock = record { config = first.config; commands = first.commands; seats = (held_lock lock).seats; table = (held_lock lock).table }
