-- The slot of the number is emptied.
use Rattle.std.proofs.Common.{None, refl}
use Rattle.device_model.specs.State.{Empty}
use Rattle.program_slots.proofs.Held.{slots_set}
use Rattle.program_slots.proofs.slots.Slots.unload.Goals as goal

pub returns-clause-unloaded : goal.returns-clause-unloaded
returns-clause-unloaded c = slots_set c.self.inside.programs.items c.args.self.now c.args.slot None Empty c.self.view_is refl
