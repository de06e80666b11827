-- Decoded code: for each unit the instruction that starts there, if one does.
use Rattle.std.specs.Prelude.{◌==◌, if◌then◌else◌, ℤ, pos, negsuc, List, [], ◌∷◌, slice_index_or, All, IfSome, Option, Some, None}
use Rattle.bpf_isa.specs.declared.insn.Insn.{Insn}
use Rattle.bpf_model.specs.Encoding.{IsAllowed}
use Rattle.bpf_model.specs.Walk.{units_of}

-- the slots of one instruction: its own, and none at its second unit
abbrev pub slots_of : Insn → List (Option Insn)
slots_of i = Some i ∷ (if units_of i == 2 then None ∷ [] else [])

-- the instruction in the slot of a place; there is none before 0 or past the end
abbrev pub insn_at : List (Option Insn) → ℤ → Option Insn
insn_at slots (pos place) = slice_index_or slots place None
insn_at slots (negsuc place) = None

-- each instruction in them is one of the profile
abbrev pub HoldAllowed : List (Option Insn) → Type 0
HoldAllowed slots = All (λ slot. IfSome slot IsAllowed) slots
