-- The slot that is loaded into is the one of the number.
use Rattle.std.proofs.Common.{Option, Some, false, map, refl, ap, ◌∙◌}
use Rattle.cp_base.specs.Pieces.{patched}
use Rattle.device_model.specs.Checks.{load_checks}
use Rattle.device_model.specs.Effect.{begun}
use Rattle.device_model.specs.State.{Holding, Slot}
use Rattle.program_slots.proofs.Held.{slot_held, slot_is_there, slots_set}
use Rattle.program_slots.proofs.slots.Slots.load.Goals as goal

pub returns-clause-loaded : goal.returns-clause-loaded
returns-clause-loaded c =
    let there = slot_is_there (λ slot. load_checks slot c.args.size c.args.at c.len.result) c.args.self.now c.args.slot refl c.in_ok-check_load.ensures.passed in
    let held = slot_held c.self.inside.programs.items c.args.self.now c.args.slot c.index_mut.result.now c.self.view_is there c.index_mut.ensures.value in
    slots_set c.self.inside.programs.items c.args.self.now c.args.slot c.load_into.new.held _ c.self.view_is
    (c.in-Ok.ensures.loaded ∙ ap (λ (slot : Option Slot). Holding (patched (begun slot c.args.size) c.args.at (map (λ byte. Some byte) c.args.bytes.now.items)) false) held)
