-- The walk over code by the lengths of its instructions: starts, well formed code, the bad place.
use Rattle.std.specs.Prelude.{◌==◌, ℕ, zero, suc, ◌+◌, ◌*◌, Bool, false, ◌&&◌, ◌||◌, IsTrue, nat_lt, if◌then◌else◌, List, length, Option, None}
use Rattle.std.specs.Option.{option_map_or}
use Rattle.bpf_isa.specs.declared.insn.Insn.{Insn}
use Rattle.bpf_isa.specs.declared.insn.Insn.TheVariants as insn
use Rattle.bpf_model.specs.Form.{form}

-- how many units an instruction has: 2 for the load of 64 bits, else 1 (RFC 9669, section 3)
abbrev pub units_of : Insn → ℕ
units_of (insn.LoadImm dst value) = 2
units_of _ = 1

-- whether the first n places of the walk from a place have another: behind each place that has a form
-- comes the place behind its instruction
abbrev pub reaches : ℕ → List ℕ → ℕ → ℕ → Bool
reaches zero code from place = false
reaches (suc n) code from place =
    from == place || option_map_or (λ i. reaches n code (from + units_of i) place) (form code from) false

-- whether a place is a start: the walk from 0, which has at most one place for each byte and the end,
-- comes to it before the end
abbrev pub starts_instruction : List ℕ → ℕ → Bool
starts_instruction code place = nat_lt (8 * place) (length code) && reaches (suc (length code)) code 0 place

abbrev pub IsStart : List ℕ → ℕ → Type 0
IsStart code place = IsTrue (starts_instruction code place)

-- the place where the walk from a place stops, which is the first without a form, or the one behind n instructions
abbrev pub stop_from : ℕ → List ℕ → ℕ → ℕ
stop_from zero code from = from
stop_from (suc n) code from = option_map_or (λ i. stop_from n code (from + units_of i)) (form code from) from

-- the first place of the walk without a form: the end of well formed code, the bad place of any other
abbrev pub bad_place : List ℕ → ℕ
bad_place code = stop_from (length code) code 0

-- code is well formed where it is not empty and the walk stops exactly at its end, so that each start has a form
abbrev pub is_well_formed : List ℕ → Bool
is_well_formed code = nat_lt 0 (length code) && 8 * bad_place code == length code

abbrev pub IsWellFormed : List ℕ → Type 0
IsWellFormed code = IsTrue (is_well_formed code)

-- the instruction at a start, and none at any other place
abbrev pub instruction_at : List ℕ → ℕ → Option Insn
instruction_at code place = if starts_instruction code place then form code place else None
