-- The program that a slot holds. This project's own.
use Rattle.std.specs.Prelude.{◌≡◌, ℕ, ◌*◌, ◌==◌, Bool, not, ◌&&◌, IsTrue, List, Option, Some, None, is_some, length, map, pos, unwrap_or}
use Rattle.std.specs.List.{list_all}
use Rattle.cp_base.specs.declared.limits.TheConstants.{UNIT}
use Rattle.bpf_isa.specs.declared.insn.Insn.{Insn}
use Rattle.bpf_model.specs.Walk.{IsWellFormed, instruction_at}
use Rattle.bpf_decode.specs.Slots.{insn_at}
use Rattle.device_model.specs.Checks.{is_empty_slot, slot_bytes}
use Rattle.device_model.specs.State.{Slot, Empty, Holding}

-- its bytes, of which some may be missing, and while it is active what they were decoded to
pub record HeldProgram : Type 0 where
  pub bytes : List (Option ℕ)
  pub decoded : Option (List (Option Insn))

-- what code was decoded to has the instruction of each place where one starts, and nothing at any other place
pub record IsDecodedFrom (decoded : List (Option Insn)) (code : List ℕ) : Type 0 where
  pub units : UNIT * length decoded ≡ length code
  pub instructions : (place : ℕ) → insn_at decoded (pos place) ≡ instruction_at code place
  pub well_formed : IsWellFormed code

-- the code of a program's bytes; a byte that is missing counts as 0
abbrev pub code_of_bytes : List (Option ℕ) → List ℕ
code_of_bytes bytes = map (λ byte. unwrap_or byte 0) bytes

-- an active program is complete, and what it was decoded to is its code's
abbrev pub IsHeldSoundly : Option (List (Option Insn)) → List (Option ℕ) → Type 0
IsHeldSoundly None bytes = Unit {0}
IsHeldSoundly (Some decoded) bytes =
    IsTrue (list_all (λ byte. is_some byte) bytes) × IsDecodedFrom decoded (code_of_bytes bytes)

-- the slot that holds a program, or none
abbrev pub slot_of : Option HeldProgram → Slot
slot_of None = Empty
slot_of (Some program) = Holding program.bytes (is_some program.decoded)

-- whether a slot holds a program of another size
abbrev pub is_of_another_size : Slot → ℕ → Bool
is_of_another_size slot size = not (is_empty_slot (Some slot)) && not (length (slot_bytes (Some slot)) == size)
