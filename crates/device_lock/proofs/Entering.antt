-- What a pass of a device knows once it has the turn.
use Rattle.std.proofs.Common.{◌≡◌, ◌<◌, ◌^◌, List, length, refl, sym, ap, subst, ◌∙◌, Some}
use Rattle.crossbeam_utils.specs.declared.cache_padded.CachePadded.{CachePadded}
use Rattle.crossbeam_utils.specs.Padded.{padded_value}
use Rattle.seat_lock.specs.Passes.{LockName, lock_in, lock_of, lost_by, lost_in, made_by, made_in, party_in, party_of, seen_by, seen_in, value_in}
use Rattle.seat_lock.specs.Trails.{BeginsWith, FitsTrail}
use Rattle.seat_lock.specs.declared.types.SeatLock.{SeatLock}
use Rattle.seat_lock.specs.declared.types.Turn.{Turn}
use Rattle.trail_model.specs.Lawful.{Trail, party_of_event}
use Rattle.trail_model.specs.declared.events.Event.{Event}
use Rattle.trail_model.proofs.Submits.{some-same}
use Rattle.device_core.specs.Recorded.{Recorded}
use Rattle.device_lock.specs.Names.{DeviceName, device_named, fixed_in, held_lock, lock_of_device, recorded_with}
use Rattle.device_lock.specs.Passes.{DevicePass, IsOfDevice}
use Rattle.device_lock.specs.Turns.{IsTurnOf}
use Rattle.device_lock.specs.declared.kept.Fixed.{Fixed}
use Rattle.device_lock.specs.declared.kept.Kept.{Kept}

-- the lock that is found in a device is the one that its name tells
pub same-lock : (d : DeviceName) (first : Recorded) (held : CachePadded (SeatLock Kept Event Fixed)) (lock : SeatLock Kept Event Fixed)
    → held_lock held ≡ lock_of_device (device_named first held) → device_named first held ≡ d → lock ≡ padded_value held → lock_of fixed_in lock ≡ lock_of_device d
same-lock d first held lock holds named found = ap (λ (l : SeatLock Kept Event Fixed). lock_of fixed_in l) found ∙ (holds ∙ ap lock_of_device named)

-- the lock of a value with this core is the one that the name of the device tells
pub new-lock : (first : Recorded) (held : CachePadded (SeatLock Kept Event Fixed)) (lock : SeatLock Kept Event Fixed) (k : Kept) → padded_value held ≡ lock
    → (lock_of fixed_in lock).fixed ≡ Some (fixed_in k) → k.core ≡ first → lock_of fixed_in lock ≡ lock_of_device (device_named first held)
new-lock first held lock k pad fixed core =
    let same : (lock_of fixed_in lock).fixed ≡ (lock_of_device (device_named first held)).fixed =
    fixed ∙ ap (λ (r : Recorded). Some (let f : Fixed = record { config = r.config; commands = r.commands } in f)) core in
    λ i. record { table = (lock_of fixed_in (sym pad i)).table; fixed = same i; seats = (lock_of fixed_in (sym pad i)).seats }

-- a value with the fixed part of a device and this trail has the device's core
pub core-is : (d : DeviceName) (k : Kept) (trail : Trail) → Some (fixed_in k) ≡ (lock_of_device d).fixed → k.core.trail ≡ trail → k.core ≡ recorded_with d trail
core-is d k trail fixed is =
    let same : fixed_in k ≡ (let f : Fixed = record { config = d.config; commands = d.commands } in f) = some-same _ _ fixed in
    λ i. record { config = (same i).config; commands = (same i).commands; trail = is i }

pub turn-of : (d : DeviceName) (p : DevicePass) (t : Turn Kept Event Fixed) (l : LockName Fixed) → IsOfDevice d p → l ≡ lock_of_device d → lock_in t ≡ l → party_in t ≡ party_of p
    → made_in t ≡ made_by p → BeginsWith (lost_in t) (lost_by p) → (value_in t).core.trail ≡ seen_in t
    → FitsTrail party_of_event (party_of p) (seen_by p) (made_by p) (value_in t).core.trail → Some (fixed_in (value_in t)) ≡ l.fixed → IsTurnOf d p t
turn-of d p t l of same lock party made lost trail fits fixed = record {
  of_device = of;
  lock = lock ∙ same;
  party = party;
  made = made;
  lost = lost;
  core = core-is d (value_in t) (seen_in t) (fixed ∙ ap (λ (n : LockName Fixed). n.fixed) same) trail;
  fits = subst (λ (s : Trail). FitsTrail party_of_event (party_of p) (seen_by p) (made_by p) s) trail fits;
}
