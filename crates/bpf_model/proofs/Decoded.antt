-- The fields of an allowed instruction give it back, form by form: in each case of its operation, its
-- size and its width the opcode is a numeral, so that only the rows of that opcode are left.
use Rattle.std.proofs.Common.{◌≡◌, ℕ, ◌*◌, ◌+◌, ◌/◌, ◌%◌, ◌^◌, ℤ, Bool, true, false, Option, Some, refl, arith}
use Rattle.std.specs.Prelude.{FitsSigned}
use Rattle.std.specs.Int.{w16, w32}
use Rattle.std.proofs.lemmas.Int.{to_z-of_z}
use Rattle.bpf_isa.specs.declared.insn.Insn.TheVariants as insn
use Rattle.bpf_isa.specs.declared.operand.Size.{Size}
use Rattle.bpf_isa.specs.declared.operand.Size.TheVariants as size
use Rattle.bpf_isa.specs.declared.operand.Width.{Width}
use Rattle.bpf_isa.specs.declared.operand.Width.TheVariants as width
use Rattle.bpf_isa.specs.Width.{bits_of}
use Rattle.bpf_isa.specs.declared.operation.AluOp.{AluOp}
use Rattle.bpf_isa.specs.declared.operation.AluOp.TheVariants as alu
use Rattle.bpf_isa.specs.declared.operation.JumpOp.{JumpOp}
use Rattle.bpf_isa.specs.declared.operation.JumpOp.TheVariants as jump
use Rattle.bpf_isa.specs.declared.operation.AtomicOp.{AtomicOp}
use Rattle.bpf_isa.specs.declared.operation.AtomicOp.TheVariants as atomic
use Rattle.bpf_model.specs.declared.fields.Fields.{Fields}
use Rattle.bpf_model.specs.Form.{insn_of, is_writable, is_register}
use Rattle.bpf_model.specs.Encoding.{is_binary, is_division, is_move_32, is_move_64, is_narrow, is_atomic_size, is_plain, is_fetch, alu_offset, alu_opcode, jump_opcode, access_opcode, atomic_code, offset_bits, imm_bits}
use Rattle.bpf_model.proofs.Tables.{read_as}

pub alu_imm : (op : AluOp) (wide : Bool) (dst : ℕ) (imm : ℤ) (next : Option Fields) → is_binary op ≡ true → is_writable dst ≡ true → FitsSigned w32 imm → insn_of (read_as (alu_opcode op 0 wide) dst 0 0 (imm_bits imm)) next ≡ Some (insn.AluImm op wide dst imm)
alu_imm alu.Add true dst imm next a d m = rw (d, to_z-of_z w32 imm m) refl
alu_imm alu.Add false dst imm next a d m = rw (d, to_z-of_z w32 imm m) refl
alu_imm _ true dst imm next a d m = first_of (simp (d, to_z-of_z w32 imm m), cc)
alu_imm _ false dst imm next a d m = first_of (simp (d, to_z-of_z w32 imm m), cc)

pub alu_reg : (op : AluOp) (wide : Bool) (dst : ℕ) (src : ℕ) (next : Option Fields) → is_binary op ≡ true → is_writable dst ≡ true → is_register src ≡ true → insn_of (read_as (alu_opcode op 1 wide) dst src 0 0) next ≡ Some (insn.AluReg op wide dst src)
alu_reg alu.Add true dst src next a d s = rw (d, s) refl
alu_reg alu.Add false dst src next a d s = rw (d, s) refl
alu_reg _ true dst src next a d s = first_of (simp (d, s), cc)
alu_reg _ false dst src next a d s = first_of (simp (d, s), cc)

pub div_imm : (op : AluOp) (wide : Bool) (dst : ℕ) (imm : ℤ) (next : Option Fields) → is_division op ≡ true → is_writable dst ≡ true → FitsSigned w32 imm → insn_of (read_as (alu_opcode op 0 wide) dst 0 (alu_offset op) (imm_bits imm)) next ≡ Some (insn.DivImm op wide dst imm)
div_imm alu.Div true dst imm next a d m = rw (d, to_z-of_z w32 imm m) refl
div_imm alu.Div false dst imm next a d m = rw (d, to_z-of_z w32 imm m) refl
div_imm _ true dst imm next a d m = first_of (simp (d, to_z-of_z w32 imm m), cc)
div_imm _ false dst imm next a d m = first_of (simp (d, to_z-of_z w32 imm m), cc)

pub div_reg : (op : AluOp) (wide : Bool) (dst : ℕ) (src : ℕ) (next : Option Fields) → is_division op ≡ true → is_writable dst ≡ true → is_register src ≡ true → insn_of (read_as (alu_opcode op 1 wide) dst src (alu_offset op) 0) next ≡ Some (insn.DivReg op wide dst src)
div_reg alu.Div true dst src next a d s = rw (d, s) refl
div_reg alu.Div false dst src next a d s = rw (d, s) refl
div_reg _ true dst src next a d s = first_of (simp (d, s), cc)
div_reg _ false dst src next a d s = first_of (simp (d, s), cc)

pub neg : (wide : Bool) (dst : ℕ) (next : Option Fields) → is_writable dst ≡ true → insn_of (read_as (alu_opcode alu.Neg 0 wide) dst 0 0 0) next ≡ Some (insn.Neg wide dst)
neg true dst next d = rw (d) refl
neg false dst next d = rw (d) refl

pub mov_imm : (wide : Bool) (dst : ℕ) (imm : ℤ) (next : Option Fields) → is_writable dst ≡ true → FitsSigned w32 imm → insn_of (read_as (alu_opcode alu.Mov 0 wide) dst 0 0 (imm_bits imm)) next ≡ Some (insn.MovImm wide dst imm)
mov_imm true dst imm next d m = rw (d, to_z-of_z w32 imm m) refl
mov_imm false dst imm next d m = rw (d, to_z-of_z w32 imm m) refl

pub mov_reg : (wide : Bool) (dst : ℕ) (src : ℕ) (next : Option Fields) → is_writable dst ≡ true → is_register src ≡ true → insn_of (read_as (alu_opcode alu.Mov 1 wide) dst src 0 0) next ≡ Some (insn.MovReg wide dst src)
mov_reg true dst src next d s = rw (d, s) refl
mov_reg false dst src next d s = rw (d, s) refl

pub movsx_32 : (op : AluOp) (dst : ℕ) (src : ℕ) (next : Option Fields) → is_move_32 op ≡ true → is_writable dst ≡ true → is_register src ≡ true → insn_of (read_as 0xbc dst src (alu_offset op) 0) next ≡ Some (insn.Movsx32 op dst src)
movsx_32 alu.Movsx8 dst src next a d s = rw (d, s) refl
movsx_32 _ dst src next a d s = first_of (simp (d, s), cc)

pub movsx_64 : (op : AluOp) (dst : ℕ) (src : ℕ) (next : Option Fields) → is_move_64 op ≡ true → is_writable dst ≡ true → is_register src ≡ true → insn_of (read_as 0xbf dst src (alu_offset op) 0) next ≡ Some (insn.Movsx64 op dst src)
movsx_64 alu.Movsx8 dst src next a d s = rw (d, s) refl
movsx_64 _ dst src next a d s = first_of (simp (d, s), cc)

pub to_little : (bits : Width) (dst : ℕ) (next : Option Fields) → is_writable dst ≡ true → insn_of (read_as 0xd4 dst 0 0 (bits_of bits)) next ≡ Some (insn.ToLittle bits dst)
to_little width.Bits16 dst next d = rw (d) refl
to_little _ dst next d = rw (d) refl

pub to_big : (bits : Width) (dst : ℕ) (next : Option Fields) → is_writable dst ≡ true → insn_of (read_as 0xdc dst 0 0 (bits_of bits)) next ≡ Some (insn.ToBig bits dst)
to_big width.Bits16 dst next d = rw (d) refl
to_big _ dst next d = rw (d) refl

pub swap : (bits : Width) (dst : ℕ) (next : Option Fields) → is_writable dst ≡ true → insn_of (read_as 0xd7 dst 0 0 (bits_of bits)) next ≡ Some (insn.Swap bits dst)
swap width.Bits16 dst next d = rw (d) refl
swap _ dst next d = rw (d) refl

pub ja : (offset : ℤ) (next : Option Fields) → FitsSigned w16 offset → insn_of (read_as 0x05 0 0 (offset_bits offset) 0) next ≡ Some (insn.Jump offset)
ja offset next x = rw (to_z-of_z w16 offset x) refl

pub ja_long : (imm : ℤ) (next : Option Fields) → FitsSigned w32 imm → insn_of (read_as 0x06 0 0 0 (imm_bits imm)) next ≡ Some (insn.JumpLong imm)
ja_long imm next m = rw (to_z-of_z w32 imm m) refl

pub branch_imm : (op : JumpOp) (wide : Bool) (dst : ℕ) (offset : ℤ) (imm : ℤ) (next : Option Fields) → is_register dst ≡ true → FitsSigned w16 offset → FitsSigned w32 imm → insn_of (read_as (jump_opcode op 0 wide) dst 0 (offset_bits offset) (imm_bits imm)) next ≡ Some (insn.BranchImm op wide dst offset imm)
branch_imm jump.Jeq true dst offset imm next d x m = rw (d, to_z-of_z w16 offset x, to_z-of_z w32 imm m) refl
branch_imm jump.Jeq false dst offset imm next d x m = rw (d, to_z-of_z w16 offset x, to_z-of_z w32 imm m) refl
branch_imm _ true dst offset imm next d x m = rw (d, to_z-of_z w16 offset x, to_z-of_z w32 imm m) refl
branch_imm _ false dst offset imm next d x m = rw (d, to_z-of_z w16 offset x, to_z-of_z w32 imm m) refl

pub branch_reg : (op : JumpOp) (wide : Bool) (dst : ℕ) (src : ℕ) (offset : ℤ) (next : Option Fields) → is_register dst ≡ true → is_register src ≡ true → FitsSigned w16 offset → insn_of (read_as (jump_opcode op 1 wide) dst src (offset_bits offset) 0) next ≡ Some (insn.BranchReg op wide dst src offset)
branch_reg jump.Jeq true dst src offset next d s x = rw (d, s, to_z-of_z w16 offset x) refl
branch_reg jump.Jeq false dst src offset next d s x = rw (d, s, to_z-of_z w16 offset x) refl
branch_reg _ true dst src offset next d s x = rw (d, s, to_z-of_z w16 offset x) refl
branch_reg _ false dst src offset next d s x = rw (d, s, to_z-of_z w16 offset x) refl

pub call_helper : (next : Option Fields) → insn_of (read_as 0x85 0 0 0 1) next ≡ Some insn.CallHelper
call_helper next = refl

pub call_local : (imm : ℤ) (next : Option Fields) → FitsSigned w32 imm → insn_of (read_as 0x85 0 1 0 (imm_bits imm)) next ≡ Some (insn.CallLocal imm)
call_local imm next m = rw (to_z-of_z w32 imm m) refl

pub exit : (next : Option Fields) → insn_of (read_as 0x95 0 0 0 0) next ≡ Some insn.Exit
exit next = refl

-- the load of 64 bits, whose second unit is the next one
pub load_imm : (dst value : ℕ) → is_writable dst ≡ true
    → insn_of (read_as 0x18 dst 0 0 (value % 2 ^ 32)) (Some (read_as 0 0 0 0 (value / 2 ^ 32))) ≡ Some (insn.LoadImm dst value)
load_imm dst value d =
    let halves : value % 2 ^ 32 + 2 ^ 32 * (value / 2 ^ 32) ≡ value = omega arith in
    rw (d, halves) refl

pub load : (s : Size) (dst : ℕ) (src : ℕ) (offset : ℤ) (next : Option Fields) → is_writable dst ≡ true → is_register src ≡ true → FitsSigned w16 offset → insn_of (read_as (access_opcode 3 s 1) dst src (offset_bits offset) 0) next ≡ Some (insn.Load s dst src offset)
load size.B dst src offset next d r x = rw (d, r, to_z-of_z w16 offset x) refl
load _ dst src offset next d r x = rw (d, r, to_z-of_z w16 offset x) refl

pub load_signed : (s : Size) (dst : ℕ) (src : ℕ) (offset : ℤ) (next : Option Fields) → is_narrow s ≡ true → is_writable dst ≡ true → is_register src ≡ true → FitsSigned w16 offset → insn_of (read_as (access_opcode 4 s 1) dst src (offset_bits offset) 0) next ≡ Some (insn.LoadSigned s dst src offset)
load_signed size.B dst src offset next a d r x = rw (d, r, to_z-of_z w16 offset x) refl
load_signed _ dst src offset next a d r x = first_of (simp (d, r, to_z-of_z w16 offset x), cc)

pub store_imm : (s : Size) (dst : ℕ) (offset : ℤ) (imm : ℤ) (next : Option Fields) → is_register dst ≡ true → FitsSigned w16 offset → FitsSigned w32 imm → insn_of (read_as (access_opcode 3 s 2) dst 0 (offset_bits offset) (imm_bits imm)) next ≡ Some (insn.StoreImm s dst offset imm)
store_imm size.B dst offset imm next d x m = rw (d, to_z-of_z w16 offset x, to_z-of_z w32 imm m) refl
store_imm _ dst offset imm next d x m = rw (d, to_z-of_z w16 offset x, to_z-of_z w32 imm m) refl

pub store_reg : (s : Size) (dst : ℕ) (src : ℕ) (offset : ℤ) (next : Option Fields) → is_register dst ≡ true → is_register src ≡ true → FitsSigned w16 offset → insn_of (read_as (access_opcode 3 s 3) dst src (offset_bits offset) 0) next ≡ Some (insn.StoreReg s dst src offset)
store_reg size.B dst src offset next d r x = rw (d, r, to_z-of_z w16 offset x) refl
store_reg _ dst src offset next d r x = rw (d, r, to_z-of_z w16 offset x) refl

pub atomic_plain : (op : AtomicOp) (s : Size) (dst : ℕ) (src : ℕ) (offset : ℤ) (next : Option Fields) → is_plain op ≡ true → is_atomic_size s ≡ true → is_register dst ≡ true → is_register src ≡ true → FitsSigned w16 offset → insn_of (read_as (access_opcode 6 s 3) dst src (offset_bits offset) (atomic_code op)) next ≡ Some (insn.Atomic op s dst src offset)
atomic_plain atomic.Add size.W dst src offset next a b d r x = rw (d, r, to_z-of_z w16 offset x) refl
atomic_plain atomic.Add _ dst src offset next a b d r x = first_of (simp (d, r, to_z-of_z w16 offset x), cc)
atomic_plain _ size.W dst src offset next a b d r x = first_of (simp (d, r, to_z-of_z w16 offset x), cc)
atomic_plain _ _ dst src offset next a b d r x = first_of (simp (d, r, to_z-of_z w16 offset x), cc)

pub atomic_fetch : (op : AtomicOp) (s : Size) (dst : ℕ) (src : ℕ) (offset : ℤ) (next : Option Fields) → is_fetch op ≡ true → is_atomic_size s ≡ true → is_register dst ≡ true → is_register src ≡ true → is_writable src ≡ true → FitsSigned w16 offset → insn_of (read_as (access_opcode 6 s 3) dst src (offset_bits offset) (atomic_code op + 1)) next ≡ Some (insn.AtomicFetch op s dst src offset)
atomic_fetch atomic.Add size.W dst src offset next a b d r s x = rw (d, r, s, to_z-of_z w16 offset x) refl
atomic_fetch atomic.Add _ dst src offset next a b d r s x = first_of (simp (d, r, s, to_z-of_z w16 offset x), cc)
atomic_fetch _ size.W dst src offset next a b d r s x = first_of (simp (d, r, s, to_z-of_z w16 offset x), cc)
atomic_fetch _ _ dst src offset next a b d r s x = first_of (simp (d, r, s, to_z-of_z w16 offset x), cc)

pub compare_exchange : (s : Size) (writable : Bool) (dst : ℕ) (src : ℕ) (offset : ℤ) (next : Option Fields) → is_atomic_size s ≡ true → is_register dst ≡ true → is_register src ≡ true → is_writable src ≡ writable → FitsSigned w16 offset → insn_of (read_as (access_opcode 6 s 3) dst src (offset_bits offset) 0xf1) next ≡ Some (insn.CompareExchange s dst src offset)
compare_exchange size.W true dst src offset next b d r v x = rw (d, r, v, to_z-of_z w16 offset x) refl
compare_exchange size.W false dst src offset next b d r v x = rw (d, r, v, to_z-of_z w16 offset x) refl
compare_exchange _ true dst src offset next b d r v x = first_of (simp (d, r, v, to_z-of_z w16 offset x), cc)
compare_exchange _ false dst src offset next b d r v x = first_of (simp (d, r, v, to_z-of_z w16 offset x), cc)
