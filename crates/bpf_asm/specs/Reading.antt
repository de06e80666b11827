-- How the code reads a line: its parts, its operands, its instruction. Private contracts speak of these; what
-- is read is told in terms of `insn_line` alone.
use Rattle.std.specs.Prelude.{ℕ, ℤ, pos, negsuc, ◌==◌, ◌^◌, Bool, nat_le, nat_lt, if◌then◌else◌, List, [], ◌∷◌, Option, Some, None, option_map, option_and_then, find}
use Rattle.std.specs.Str.{bytes_eq}
use Rattle.bpf_isa.specs.declared.insn.Insn.{Insn}
use Rattle.bpf_isa.specs.declared.insn.Insn.TheVariants as insn
use Rattle.bpf_isa.specs.declared.operand.Width.{Width}
use Rattle.bpf_isa.specs.declared.operation.AluOp.{AluOp}
use Rattle.bpf_isa.specs.declared.operation.JumpOp.{JumpOp}
use Rattle.bpf_model.specs.Form.{named, swap_imms, move_offsets_32, move_offsets_64}
use Rattle.cp_text.specs.Number.{spelled_number}
use Rattle.cp_text.specs.Signed.{signed_of}
use Rattle.bpf_asm.specs.Mnemonic.{mnemonic_text}
use Rattle.bpf_asm.specs.declared.mnemonic.Mnemonic.{Mnemonic}
use Rattle.bpf_asm.specs.declared.mnemonic.Mnemonic.TheVariants as word
use Rattle.bpf_asm.specs.declared.mnemonic.TheConstants.{MNEMONICS}
use Rattle.bpf_asm.specs.declared.source.Source.{Source}
use Rattle.bpf_asm.specs.declared.source.Source.TheVariants as source

-- one part, two and three, and no more
abbrev pub one_of : List (List ℕ) → Option (List ℕ)
one_of (a ∷ []) = Some a
one_of _ = None

abbrev pub in_front : List ℕ → Option (List ℕ) → Option (List ℕ × List ℕ)
in_front a None = None
in_front a (Some b) = Some (a, b)

abbrev pub two_of : List (List ℕ) → Option (List ℕ × List ℕ)
two_of [] = None
two_of (a ∷ parts) = in_front a (one_of parts)

abbrev pub in_front_of_two : List ℕ → Option (List ℕ × List ℕ) → Option (List ℕ × List ℕ × List ℕ)
in_front_of_two a None = None
in_front_of_two a (Some p) = Some (a, p.0, p.1)

abbrev pub three_of : List (List ℕ) → Option (List ℕ × List ℕ × List ℕ)
three_of [] = None
three_of (a ∷ parts) = in_front_of_two a (two_of parts)

-- a register whose number is at most the greatest one
abbrev pub at_most : ℕ → Option ℕ → Option ℕ
at_most greatest None = None
at_most greatest (Some n) = if nat_le n greatest then Some n else None

abbrev pub register_in : ℕ → List ℕ → Option ℕ
register_in greatest [] = None
register_in greatest (first ∷ rest) = if first == 114 then at_most greatest (spelled_number rest) else None

-- a signed number from -limit to limit - 1
abbrev pub below : ℕ → Option ℤ → Option ℤ
below limit None = None
below limit (Some (pos n)) = if nat_lt n limit then Some (pos n) else None
below limit (Some (negsuc n)) = if nat_lt n limit then Some (negsuc n) else None

abbrev pub offset_in : List ℕ → Option ℤ
offset_in text = below (2 ^ 15) (signed_of text)

abbrev pub imm_in : List ℕ → Option ℤ
imm_in text = below (2 ^ 31) (signed_of text)

-- a register or an immediate
abbrev pub source_in : List ℕ → Option Source
source_in [] = None
source_in (first ∷ rest) =
    if first == 114 then option_map (λ r. source.Register r) (register_in 10 (first ∷ rest))
    else option_map (λ imm. source.Immediate imm) (imm_in (first ∷ rest))

-- the bits of a byte swap, and of a move that sign-extends
abbrev pub bits_named : List ℕ → Option Width
bits_named text = option_and_then (λ n. named swap_imms n) (spelled_number text)

abbrev pub move_to_32 : List ℕ → Option AluOp
move_to_32 text = option_and_then (λ n. named move_offsets_32 n) (spelled_number text)

abbrev pub move_to_64 : List ℕ → Option AluOp
move_to_64 text = option_and_then (λ n. named move_offsets_64 n) (spelled_number text)

-- the number of the only helper
abbrev pub helper_named : List ℕ → Option ℕ
helper_named text = option_and_then (λ n. if n == 1 then Some n else None) (spelled_number text)

-- what is read of one part, two and three
abbrev pub read_one : {A : Type 0} → (List ℕ → Option A) → List (List ℕ) → Option A
read_one first parts = option_and_then first (one_of parts)

abbrev pub all_two : {A B : Type 0} → Option A → Option B → Option (A × B)
all_two None b = None
all_two (Some a) None = None
all_two (Some a) (Some b) = Some (a, b)

abbrev pub read_two : {A B : Type 0} → (List ℕ → Option A) → (List ℕ → Option B) → List (List ℕ) → Option (A × B)
read_two first second parts = option_and_then (λ p. all_two (first p.0) (second p.1)) (two_of parts)

abbrev pub all_three : {A B C : Type 0} → Option A → Option B → Option C → Option (A × B × C)
all_three None b c = None
all_three (Some a) None c = None
all_three (Some a) (Some b) None = None
all_three (Some a) (Some b) (Some c) = Some (a, b, c)

abbrev pub read_three : {A B C : Type 0}
    → (List ℕ → Option A) → (List ℕ → Option B) → (List ℕ → Option C) → List (List ℕ) → Option (A × B × C)
read_three first second third parts =
    option_and_then (λ p. all_three (first p.0) (second p.1) (third p.2)) (three_of parts)

-- instructions by their second operand
abbrev pub binary_by : AluOp → Bool → ℕ → Source → Insn
binary_by op wide dst (source.Register src) = insn.AluReg op wide dst src
binary_by op wide dst (source.Immediate imm) = insn.AluImm op wide dst imm

abbrev pub division_by : AluOp → Bool → ℕ → Source → Insn
division_by op wide dst (source.Register src) = insn.DivReg op wide dst src
division_by op wide dst (source.Immediate imm) = insn.DivImm op wide dst imm

abbrev pub move_by : Bool → ℕ → Source → Insn
move_by wide dst (source.Register src) = insn.MovReg wide dst src
move_by wide dst (source.Immediate imm) = insn.MovImm wide dst imm

abbrev pub branch_by : JumpOp → Bool → ℕ → Source → ℤ → Insn
branch_by op wide dst (source.Register src) offset = insn.BranchReg op wide dst src offset
branch_by op wide dst (source.Immediate imm) offset = insn.BranchImm op wide dst offset imm

-- no operand
abbrev pub exit_of : List (List ℕ) → Option Insn
exit_of [] = Some insn.Exit
exit_of (part ∷ parts) = None

-- the operands of some forms
abbrev pub dst_source : List (List ℕ) → Option (ℕ × Source)
dst_source parts = read_two (register_in 9) source_in parts

abbrev pub dst_bits : List (List ℕ) → Option (ℕ × Width)
dst_bits parts = read_two (register_in 9) bits_named parts

abbrev pub dst_src_offset : List (List ℕ) → Option (ℕ × ℕ × ℤ)
dst_src_offset parts = read_three (register_in 9) (register_in 10) offset_in parts

abbrev pub dst_offset_src : ℕ → List (List ℕ) → Option (ℕ × ℤ × ℕ)
dst_offset_src greatest parts = read_three (register_in 10) offset_in (register_in greatest) parts

-- the instruction of a mnemonic with operands
abbrev pub insn_with : Mnemonic → List (List ℕ) → Option Insn
insn_with (word.Binary op wide) parts = option_map (λ p. binary_by op wide p.0 p.1) (dst_source parts)
insn_with (word.Division op wide) parts = option_map (λ p. division_by op wide p.0 p.1) (dst_source parts)
insn_with (word.Move wide) parts = option_map (λ p. move_by wide p.0 p.1) (dst_source parts)
insn_with (word.Negate wide) parts = option_map (λ dst. insn.Neg wide dst) (read_one (register_in 9) parts)
insn_with word.Extend32 parts =
    option_map (λ p. insn.Movsx32 p.2 p.0 p.1) (read_three (register_in 9) (register_in 10) move_to_32 parts)
insn_with word.Extend64 parts =
    option_map (λ p. insn.Movsx64 p.2 p.0 p.1) (read_three (register_in 9) (register_in 10) move_to_64 parts)
insn_with word.ToLittle parts = option_map (λ p. insn.ToLittle p.1 p.0) (dst_bits parts)
insn_with word.ToBig parts = option_map (λ p. insn.ToBig p.1 p.0) (dst_bits parts)
insn_with word.Swap parts = option_map (λ p. insn.Swap p.1 p.0) (dst_bits parts)
insn_with word.LoadImm parts = option_map (λ p. insn.LoadImm p.0 p.1) (read_two (register_in 9) spelled_number parts)
insn_with (word.Load size) parts = option_map (λ p. insn.Load size p.0 p.1 p.2) (dst_src_offset parts)
insn_with (word.LoadSigned size) parts = option_map (λ p. insn.LoadSigned size p.0 p.1 p.2) (dst_src_offset parts)
insn_with (word.StoreImm size) parts =
    option_map (λ p. insn.StoreImm size p.0 p.1 p.2) (read_three (register_in 10) offset_in imm_in parts)
insn_with (word.StoreReg size) parts = option_map (λ p. insn.StoreReg size p.0 p.2 p.1) (dst_offset_src 10 parts)
insn_with (word.Atomic op size) parts = option_map (λ p. insn.Atomic op size p.0 p.2 p.1) (dst_offset_src 10 parts)
insn_with (word.AtomicFetch op size) parts =
    option_map (λ p. insn.AtomicFetch op size p.0 p.2 p.1) (dst_offset_src 9 parts)
insn_with (word.CompareExchange size) parts =
    option_map (λ p. insn.CompareExchange size p.0 p.2 p.1) (dst_offset_src 10 parts)
insn_with (word.Branch op wide) parts =
    option_map (λ p. branch_by op wide p.0 p.1 p.2) (read_three (register_in 10) source_in offset_in parts)
insn_with word.Jump parts = option_map (λ offset. insn.Jump offset) (read_one offset_in parts)
insn_with word.JumpLong parts = option_map (λ imm. insn.JumpLong imm) (read_one imm_in parts)
insn_with word.CallHelper parts = option_map (λ n. insn.CallHelper) (read_one helper_named parts)
insn_with word.CallLocal parts = option_map (λ imm. insn.CallLocal imm) (read_one imm_in parts)
insn_with word.Exit parts = exit_of parts

-- the mnemonic of a text
abbrev pub mnemonic_named : List ℕ → Option Mnemonic
mnemonic_named text = find (λ m. bytes_eq text (mnemonic_text m)) MNEMONICS

-- the instruction of the parts of a line
abbrev pub insn_in : List (List ℕ) → Option Insn
insn_in [] = None
insn_in (first ∷ operands) = option_and_then (λ m. insn_with m operands) (mnemonic_named first)
