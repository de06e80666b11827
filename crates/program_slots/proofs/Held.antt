-- Slots of the programs that they hold.
use Rattle.std.proofs.Common.{◌≡◌, ℕ, ◌<◌, ◌≤◌, List, Option, None, Some, length, get_or, set, map, slice_get, sym, refl, ap, ◌∙◌, ⊎_elim, arith}
use Rattle.std.specs.Prelude.{option_map}
use Rattle.std.proofs.lemmas.Bool.{cases_lt}
use Rattle.std.proofs.lemmas.List.{length-map, map-set}
use Rattle.std.proofs.lemmas.Option.{slice_get-map, slice_get_past, slice_get_read}
use Rattle.cp_base.specs.Checks.{Check, first_failing}
use Rattle.cp_base.specs.declared.replies.Status.TheVariants.{NoSuchSlot}
use Rattle.device_model.specs.State.{Slot}
use Rattle.program_slots.specs.Program.{HeldProgram, slot_of}

-- a program in the stead of another is its slot in the stead of the other's
pub slots_set : (programs : List (Option HeldProgram)) (slots : List Slot) (i : ℕ) (new : Option HeldProgram) (slot : Slot) → map slot_of programs ≡ slots → slot_of new ≡ slot
    → map slot_of (set programs i new) ≡ set slots i slot
slots_set programs slots i new slot view e =
    map-set slot_of programs i new ∙ ap (λ (s : Slot). set (map slot_of programs) i s) e ∙ ap (λ (all : List Slot). set all i slot) view

-- the slot of a number is that of the program there
pub slot_held : (programs : List (Option HeldProgram)) (slots : List Slot) (i : ℕ) (held : Option HeldProgram) → map slot_of programs ≡ slots → i < length slots
    → held ≡ get_or programs i held → Some (slot_of held) ≡ slice_get slots i
slot_held programs slots i held view h e =
    let long : length programs ≡ length slots = sym (length-map programs slot_of) ∙ ap length view in
    sym (ap (λ (all : List Slot). slice_get all i) (sym view) ∙ slice_get-map slot_of programs i
    ∙ ap (option_map slot_of) (slice_get_read programs (length programs) i held refl (omega arith) e))

-- a slot that passes checks is there
passes_some : (checks : Option Slot → List Check) (slot : Option Slot) → first_failing (checks None) ≡ Some NoSuchSlot → first_failing (checks slot) ≡ None → slot ≡ None → ⊥
passes_some checks slot e passed none = let both = sym e ∙ ap (λ (s : Option Slot). first_failing (checks s)) (sym none) ∙ passed in absurd (cc)

pub slot_is_there : (checks : Option Slot → List Check) (slots : List Slot) (i : ℕ) → first_failing (checks None) ≡ Some NoSuchSlot → first_failing (checks (slice_get slots i)) ≡ None → i < length slots
slot_is_there checks slots i e passed =
    ⊎_elim (λ (inside : i < length slots). inside) (λ (past : length slots ≤ i). absurd (passes_some checks (slice_get slots i) e passed (slice_get_past slots i past)))
    (cases_lt i (length slots))
