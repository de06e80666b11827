-- The mnemonics of assembly text: a name, and behind it the width of the operation or of the access. This
-- project's own; the operations are those of RFC 9669.
use Rattle.std.specs.Prelude.{ℕ, Bool, true, false, List, [], ◌++◌, codes}
use Rattle.bpf_isa.specs.declared.operand.Size.{Size}
use Rattle.bpf_isa.specs.declared.operand.Size.TheVariants as size
use Rattle.bpf_isa.specs.declared.operation.AluOp.{AluOp}
use Rattle.bpf_isa.specs.declared.operation.AluOp.TheVariants as alu
use Rattle.bpf_isa.specs.declared.operation.JumpOp.{JumpOp}
use Rattle.bpf_isa.specs.declared.operation.JumpOp.TheVariants as jump
use Rattle.bpf_isa.specs.declared.operation.AtomicOp.{AtomicOp}
use Rattle.bpf_isa.specs.declared.operation.AtomicOp.TheVariants as atomic
use Rattle.bpf_asm.specs.declared.mnemonic.Mnemonic.{Mnemonic}
use Rattle.bpf_asm.specs.declared.mnemonic.Mnemonic.TheVariants as word

-- the name of an arithmetic operation (RFC 9669, section 4.1)
abbrev pub alu_name : AluOp → List ℕ
alu_name alu.Add = codes "add"
alu_name alu.Sub = codes "sub"
alu_name alu.Mul = codes "mul"
alu_name alu.Div = codes "div"
alu_name alu.Sdiv = codes "sdiv"
alu_name alu.Mod = codes "mod"
alu_name alu.Smod = codes "smod"
alu_name alu.Or = codes "or"
alu_name alu.And = codes "and"
alu_name alu.Xor = codes "xor"
alu_name alu.Lsh = codes "lsh"
alu_name alu.Rsh = codes "rsh"
alu_name alu.Arsh = codes "arsh"
alu_name alu.Neg = codes "neg"
alu_name alu.Mov = codes "mov"
alu_name alu.Movsx8 = codes "movsx"
alu_name alu.Movsx16 = codes "movsx"
alu_name alu.Movsx32 = codes "movsx"

-- the name of a conditional jump (RFC 9669, section 4.3)
abbrev pub jump_name : JumpOp → List ℕ
jump_name jump.Jeq = codes "jeq"
jump_name jump.Jgt = codes "jgt"
jump_name jump.Jge = codes "jge"
jump_name jump.Jset = codes "jset"
jump_name jump.Jne = codes "jne"
jump_name jump.Jsgt = codes "jsgt"
jump_name jump.Jsge = codes "jsge"
jump_name jump.Jlt = codes "jlt"
jump_name jump.Jle = codes "jle"
jump_name jump.Jslt = codes "jslt"
jump_name jump.Jsle = codes "jsle"

-- the name of an atomic operation without FETCH (RFC 9669, section 5.3)
abbrev pub atomic_name : AtomicOp → List ℕ
atomic_name atomic.Add = codes "aadd"
atomic_name atomic.Or = codes "aor"
atomic_name atomic.And = codes "aand"
atomic_name atomic.Xor = codes "axor"
atomic_name atomic.Xchg = codes "xchg"
atomic_name atomic.Cmpxchg = codes "cmpxchg"

-- the name of an atomic operation with FETCH, which only the operations have that also go without
abbrev pub fetch_name : AtomicOp → List ℕ
fetch_name atomic.Add = codes "afadd"
fetch_name atomic.Or = codes "afor"
fetch_name atomic.And = codes "afand"
fetch_name atomic.Xor = codes "afxor"
fetch_name atomic.Xchg = codes "xchg"
fetch_name atomic.Cmpxchg = codes "cmpxchg"

-- the width of an operation in bits
abbrev pub width_text : Bool → List ℕ
width_text true = codes "64"
width_text false = codes "32"

-- the letter of a size: byte, half word, word, double word
abbrev pub size_text : Size → List ℕ
size_text size.B = codes "b"
size_text size.H = codes "h"
size_text size.W = codes "w"
size_text size.D = codes "d"

-- the name in a mnemonic
abbrev pub name_of : Mnemonic → List ℕ
name_of (word.Binary op wide) = alu_name op
name_of (word.Division op wide) = alu_name op
name_of (word.Move wide) = alu_name alu.Mov
name_of (word.Negate wide) = alu_name alu.Neg
name_of word.Extend32 = codes "movsx"
name_of word.Extend64 = codes "movsx"
name_of word.ToLittle = codes "le"
name_of word.ToBig = codes "be"
name_of word.Swap = codes "swap"
name_of word.LoadImm = codes "lddw"
name_of (word.Load s) = codes "ldx"
name_of (word.LoadSigned s) = codes "ldsx"
name_of (word.StoreImm s) = codes "st"
name_of (word.StoreReg s) = codes "stx"
name_of (word.Atomic op s) = atomic_name op
name_of (word.AtomicFetch op s) = fetch_name op
name_of (word.CompareExchange s) = codes "cmpxchg"
name_of (word.Branch op wide) = jump_name op
name_of word.Jump = codes "ja"
name_of word.JumpLong = codes "jal"
name_of word.CallHelper = codes "call"
name_of word.CallLocal = codes "callp"
name_of word.Exit = codes "exit"

-- what stands behind the name in a mnemonic
abbrev pub suffix_of : Mnemonic → List ℕ
suffix_of (word.Binary op wide) = width_text wide
suffix_of (word.Division op wide) = width_text wide
suffix_of (word.Move wide) = width_text wide
suffix_of (word.Negate wide) = width_text wide
suffix_of word.Extend32 = width_text false
suffix_of word.Extend64 = width_text true
suffix_of (word.Load s) = size_text s
suffix_of (word.LoadSigned s) = size_text s
suffix_of (word.StoreImm s) = size_text s
suffix_of (word.StoreReg s) = size_text s
suffix_of (word.Atomic op s) = size_text s
suffix_of (word.AtomicFetch op s) = size_text s
suffix_of (word.CompareExchange s) = size_text s
suffix_of (word.Branch op wide) = width_text wide
suffix_of _ = []

-- the text of a mnemonic
abbrev pub mnemonic_text : Mnemonic → List ℕ
mnemonic_text m = name_of m ++ suffix_of m
