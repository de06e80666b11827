-- Turns at a device. This project's own.
use Rattle.std.specs.Prelude.{◌≡◌}
use Rattle.seat_lock.specs.Passes.{lock_in, lost_by, lost_in, made_by, made_in, party_in, party_of, seen_by, seen_in, value_in}
use Rattle.seat_lock.specs.Trails.{BeginsWith, FitsTrail}
use Rattle.seat_lock.specs.declared.types.Turn.{Turn}
use Rattle.trail_model.specs.Lawful.{party_of_event}
use Rattle.trail_model.specs.declared.events.Event.{Event}
use Rattle.device_lock.specs.Names.{DeviceName, lock_of_device, recorded_with}
use Rattle.device_lock.specs.Passes.{DevicePass, IsOfDevice}
use Rattle.device_lock.specs.declared.kept.Fixed.{Fixed}
use Rattle.device_lock.specs.declared.kept.Kept.{Kept}

-- it is a turn that a pass of this device has just got: the pass fits the trail of the core
pub record IsTurnOf (d : DeviceName) (p : DevicePass) (t : Turn Kept Event Fixed) : Type 0 where
  pub of_device : IsOfDevice d p
  pub lock : lock_in t ≡ lock_of_device d
  pub party : party_in t ≡ party_of p
  pub made : made_in t ≡ made_by p
  pub lost : BeginsWith (lost_in t) (lost_by p)
  pub core : (value_in t).core ≡ recorded_with d (seen_in t)
  pub fits : FitsTrail party_of_event (party_of p) (seen_by p) (made_by p) (seen_in t)
