-- Passes of a device, and how they come back from its calls. This project's own.
use Rattle.std.specs.Prelude.{◌≡◌, ◌≢◌, ℕ, ◌++◌, ◌∷◌, [], None, Some}
use Rattle.seat_lock.specs.Passes.{AreAllOf, IsPassOf, at_home, lost_by, made_by, party_of, seen_by}
use Rattle.seat_lock.specs.Trails.{BeginsWith, FitsTrail}
use Rattle.seat_lock.specs.declared.types.Pass.{Pass}
use Rattle.seat_lock.specs.declared.types.Passes.{Passes}
use Rattle.trail_model.specs.Accounts.{account_of}
use Rattle.trail_model.specs.Lawful.{IsLawful, IsParty, Trail, party_of_event, world_of}
use Rattle.trail_model.specs.World.{World}
use Rattle.trail_model.specs.declared.events.Event.{Event}
use Rattle.device_lock.specs.Names.{DeviceName, lock_of_device}
use Rattle.device_lock.specs.declared.kept.Fixed.{Fixed}

abbrev pub DevicePass : Type 0
DevicePass = Pass Event Fixed

abbrev pub DevicePasses : Type 0
DevicePasses = Passes Event Fixed

-- it is a pass of this device: of its lock, and of a host or a worker; and what it has seen is lawful
pub record IsOfDevice (d : DeviceName) (p : DevicePass) : Type 0 where
  pub lock : IsPassOf party_of_event (lock_of_device d) p
  pub party : IsParty (party_of p)
  pub lawful : IsLawful d.config d.commands (seen_by p)

-- these are all passes of this device, each at home
pub record AreAllOfDevice (d : DeviceName) (ps : DevicePasses) : Type 0 where
  pub all : AreAllOf party_of_event (lock_of_device d) ps
  pub each : (n : ℕ) (p : DevicePass) → at_home ps n ≡ Some p → IsOfDevice d p

-- the world of the trail that a pass has seen
abbrev pub world_seen : DeviceName → DevicePass → World
world_seen d p = world_of d.config (seen_by p)

-- by what its party made, the pass has no open claim: no claim stands behind the last finish
abbrev pub IsIdle : DevicePass → Type 0
IsIdle p = (account_of (made_by p)).claim ≡ None

-- A pass comes back from a call: it is of this device and of the same party, and what it has seen begins with what it had seen
-- before, as the words that its lost tries read do.
pub record IsBack (d : DeviceName) (p q : DevicePass) : Type 0 where
  pub of_device : IsOfDevice d q
  pub party : party_of q ≡ party_of p
  pub seen : BeginsWith (seen_by q) (seen_by p)
  pub lost : BeginsWith (lost_by q) (lost_by p)

-- A pass comes back from a turn that added no event. It has seen the trail of the device, which it fitted when it came.
pub record IsBackAlone (d : DeviceName) (p q : DevicePass) : Type 0 where
  pub back : IsBack d p q
  pub fits : FitsTrail party_of_event (party_of p) (seen_by p) (made_by p) (seen_by q)
  pub made : made_by q ≡ made_by p
  pub idle : IsIdle p → IsIdle q

-- A pass comes back from a turn that added one event, the last that it has seen and made. It fitted the trail of the device
-- before it.
pub record IsBackWith (d : DeviceName) (p q : DevicePass) (before : Trail) (e : Event) : Type 0 where
  pub back : IsBack d p q
  pub fits : FitsTrail party_of_event (party_of p) (seen_by p) (made_by p) before
  pub seen : seen_by q ≡ before ++ e ∷ []
  pub made : made_by q ≡ made_by p ++ e ∷ []

-- A pass comes back from a try for the turn that it lost: it has seen and made what it had, and the try read this word, the
-- number of another party.
pub record IsBackBusy (d : DeviceName) (p q : DevicePass) (word : ℕ) : Type 0 where
  pub back : IsBack d p q
  pub seen : seen_by q ≡ seen_by p
  pub made : made_by q ≡ made_by p
  pub idle : IsIdle p → IsIdle q
  pub lost : lost_by q ≡ lost_by p ++ word ∷ []
  pub some : word ≢ 0
  pub other : word ≢ party_of p

-- all passes that are at home are idle
abbrev pub AreIdle : DevicePasses → Type 0
AreIdle ps = (n : ℕ) (p : DevicePass) → at_home ps n ≡ Some p → IsIdle p
