-- The program of the number becomes inactive.
use Rattle.std.proofs.Common.{List, Option, false, map, slice_get, sym, ap, ◌∙◌}
use Rattle.std.proofs.lemmas.Option.{slice_get_within}
use Rattle.device_model.specs.Checks.{slot_bytes}
use Rattle.device_model.specs.State.{Holding, Slot}
use Rattle.program_slots.specs.Program.{HeldProgram, slot_of}
use Rattle.program_slots.proofs.Held.{slot_held, slots_set}
use Rattle.program_slots.proofs.slots.Slots.deactivate.Goals as goal

pub returns-clause-deactivated : goal.returns-clause-deactivated
returns-clause-deactivated c =
    let found = ap (λ (programs : List (Option HeldProgram)). slice_get (map slot_of programs) c.args.slot) (sym c.deref.ensures.value) ∙ sym c.in-Some.ensures in
    let there = slice_get_within c.args.self.now c.args.slot _ (ap (λ (slots : List Slot). slice_get slots c.args.slot) (sym c.self.view_is) ∙ found) in
    let held = slot_held c.self.inside.programs.items c.args.self.now c.args.slot c.index_mut.result.now c.self.view_is there c.index_mut.ensures.value in
    slots_set c.self.inside.programs.items c.args.self.now c.args.slot c.deactivate_in.new.held _ c.self.view_is
    (c.deactivate_in.ensures ∙ ap (λ (slot : Option Slot). Holding (slot_bytes slot) false) held)
