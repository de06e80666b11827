-- What becomes of a party that asked for one command. Only private contracts speak of it. This project's own.
use Rattle.std.specs.Prelude.{[]}
use Rattle.device_lock.specs.Names.{DeviceName}
use Rattle.device_lock.specs.Passes.{DevicePass}
use Rattle.workers.specs.Further.{IsFurther, SeesRest}
use Rattle.workers.specs.declared.serving.Served.{Served}
use Rattle.workers.specs.declared.serving.Served.TheVariants as served

-- the pass comes back with no item done; and where the device is at rest, it sees that
abbrev pub IsBackServed : DeviceName → DevicePass → Served → Type 0
IsBackServed d p (served.Did q) = IsFurther 0 d p q []
IsBackServed d p (served.Nothing q) = IsFurther 0 d p q []
IsBackServed d p (served.Rested q) = IsFurther 0 d p q [] × SeesRest d q
