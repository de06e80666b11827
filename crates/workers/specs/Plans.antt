-- The passes of a device on which nothing has happened. This project's own.
use Rattle.std.specs.Prelude.{◌≡◌, ℕ, [], Some}
use Rattle.seat_lock.specs.Passes.{at_home, made_by, seen_by}
use Rattle.device_lock.specs.Passes.{DevicePass, DevicePasses}

-- by their passes, which are at home, nothing was seen and nothing was done
abbrev pub HaveDoneNothing : DevicePasses → Type 0
HaveDoneNothing ps = (n : ℕ) (p : DevicePass) → at_home ps n ≡ Some p → (seen_by p ≡ []) × (made_by p ≡ [])
