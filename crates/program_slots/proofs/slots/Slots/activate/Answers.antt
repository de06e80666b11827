-- The program of the number becomes active.
use Rattle.std.proofs.Common.{◌≡◌, Option, None, true, refl, ap, ◌∙◌, subst}
use Rattle.device_model.specs.Checks.{activate_checks, program_refusal, slot_bytes}
use Rattle.device_model.specs.State.{Holding, Slot}
use Rattle.program_slots.proofs.Held.{slot_held, slot_is_there, slots_set}
use Rattle.program_slots.proofs.slots.Slots.activate.Goals as goal

pub returns-clause-well_formed : goal.returns-clause-well_formed
returns-clause-well_formed c =
    let there = slot_is_there activate_checks c.args.self.now c.args.slot refl c.in_ok-check_activate.ensures.passed in
    let held = slot_held c.self.inside.programs.items c.args.self.now c.args.slot c.index_mut.result.now c.self.view_is there c.index_mut.ensures.value in
    subst (λ (slot : Option Slot). program_refusal slot ≡ None) held c.in_default.ensures.well_formed

pub returns-clause-activated : goal.returns-clause-activated
returns-clause-activated c =
    let there = slot_is_there activate_checks c.args.self.now c.args.slot refl c.in_ok-check_activate.ensures.passed in
    let held = slot_held c.self.inside.programs.items c.args.self.now c.args.slot c.index_mut.result.now c.self.view_is there c.index_mut.ensures.value in
    slots_set c.self.inside.programs.items c.args.self.now c.args.slot c.activate_in.new.held _ c.self.view_is
    (c.in_default.ensures.activated ∙ ap (λ (slot : Option Slot). Holding (slot_bytes slot) true) held)
