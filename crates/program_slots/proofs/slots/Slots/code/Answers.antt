-- What the program of the number was decoded to.
use Rattle.std.proofs.Common.{List, Option, Some, map, slice_get, sym, ap, ◌∙◌, subst}
use Rattle.std.specs.Arc.{arc_value}
use Rattle.device_model.specs.Checks.{code_of}
use Rattle.device_model.specs.State.{Slot}
use Rattle.program_slots.specs.Program.{HeldProgram, IsDecodedFrom, slot_of}
use Rattle.program_slots.proofs.slots.Slots.code.Goals as goal

pub returns-in-Some-code-clause-decoded : goal.returns-in-Some-code-clause-decoded
returns-in-Some-code-clause-decoded c =
    let found = ap (λ (held : Option HeldProgram). Some (slot_of held)) (sym c.in-Some-held.is) ∙ c.in-Some.ensures
    ∙ ap (λ (programs : List (Option HeldProgram)). slice_get (map slot_of programs) c.args.slot) c.deref.ensures.value
    ∙ ap (λ (slots : List Slot). slice_get slots c.args.slot) c.self.view_is in
    subst (λ (slot : Option Slot). IsDecodedFrom (arc_value c.in-Some-code.code.now) (code_of slot)) found c.in-Some-code.ensures.decoded
