-- What the operations of BPF instructions give, on whole numbers (RFC 9669, sections 4 and 5.3).
--
-- `/` is the quotient rounded down and `%` the remainder. A `width` is a number of bits, 32 or 64 for arithmetic and
-- comparisons. Operands may be any numbers: an operation reads the low bits that its width has.
use Rattle.std.specs.Prelude.{ℕ, zero, suc, ◌+◌, ◌-◌, ◌*◌, ◌/◌, ◌%◌, ◌^◌, ◌==◌, nat_lt, nat_le, Bool, true, false, not, ℤ, pos, negsuc, ◌-ℤ◌, int_div, int_rem, int_lt, int_le, bit_and, bit_or, bit_xor, if◌then◌else◌}
use Rattle.bpf_isa.specs.Size.{byte_count}
use Rattle.bpf_isa.specs.Width.{bits_of}
use Rattle.bpf_isa.specs.declared.operand.Size.{Size}
use Rattle.bpf_isa.specs.declared.operand.Size.TheVariants.{B, H, W, D}
use Rattle.bpf_isa.specs.declared.operand.Width.{Width}
use Rattle.bpf_isa.specs.declared.operation.AluOp.{AluOp}
use Rattle.bpf_isa.specs.declared.operation.AluOp.TheVariants as alu
use Rattle.bpf_isa.specs.declared.operation.AtomicOp.{AtomicOp}
use Rattle.bpf_isa.specs.declared.operation.AtomicOp.TheVariants as atomic
use Rattle.bpf_isa.specs.declared.operation.JumpOp.{JumpOp}
use Rattle.bpf_isa.specs.declared.operation.JumpOp.TheVariants as jump
use Rattle.bpf_isa.specs.declared.operation.SwapOp.{SwapOp}
use Rattle.bpf_isa.specs.declared.operation.SwapOp.TheVariants as swap

-- ---- numbers of a width

-- the signed number that n means in two's complement (RFC 9669, section 2.1)
abbrev pub signed : ℕ → ℕ → ℤ
signed width n = if nat_lt n (2 ^ (width - 1)) then pos n else (pos n -ℤ pos (2 ^ width))

-- the number that means z in two's complement: z modulo 2 ^ width
abbrev pub unsigned : ℕ → ℤ → ℕ
unsigned width (pos n) = n % 2 ^ width
unsigned width (negsuc n) = 2 ^ width - 1 - n % 2 ^ width

-- the low `from` bits of n, sign-extended (RFC 9669, section 2.3)
abbrev pub sign_extended : ℕ → ℕ → ℕ → ℕ
sign_extended from width n = unsigned width (signed from (n % 2 ^ from))

-- z divided by 2 ^ k and rounded down: a shift to the right that keeps the sign
abbrev pub shifted_down : ℤ → ℕ → ℤ
shifted_down (pos n) k = pos (n / 2 ^ k)
shifted_down (negsuc n) k = negsuc (n / 2 ^ k)

-- the low k bytes of n in reverse order, above zeros
abbrev pub bytes_reversed : ℕ → ℕ → ℕ
bytes_reversed zero n = 0
bytes_reversed (suc k) n = n % 256 * 256 ^ k + bytes_reversed k (n / 256)

-- ---- arithmetic (RFC 9669, section 4.1)

-- the value of an operation on two numbers below 2 ^ width: the destination a and the operand b.
-- The least number divided by -1 is 2 ^ (width - 1), which is the least number again, and leaves the remainder 0
abbrev pub computed : AluOp → ℕ → ℕ → ℕ → ℕ
computed alu.Add width a b = (a + b) % 2 ^ width
computed alu.Sub width a b = (a + (2 ^ width - b)) % 2 ^ width
computed alu.Mul width a b = (a * b) % 2 ^ width
computed alu.Div width a b = if b == 0 then 0 else (a / b)
computed alu.Mod width a b = if b == 0 then a else (a % b)
computed alu.Sdiv width a b = if b == 0 then 0 else unsigned width (int_div (signed width a) (signed width b))
computed alu.Smod width a b = if b == 0 then a else unsigned width (int_rem (signed width a) (signed width b))
computed alu.Or width a b = bit_or a b
computed alu.And width a b = bit_and a b
computed alu.Xor width a b = bit_xor a b
computed alu.Lsh width a b = (a * 2 ^ (b % width)) % 2 ^ width
computed alu.Rsh width a b = a / 2 ^ (b % width)
computed alu.Arsh width a b = unsigned width (shifted_down (signed width a) (b % width))
computed alu.Neg width a b = (2 ^ width - a) % 2 ^ width
computed alu.Mov width a b = b
computed alu.Movsx8 width a b = sign_extended 8 width b
computed alu.Movsx16 width a b = sign_extended 16 width b
computed alu.Movsx32 width a b = sign_extended 32 width b

-- what an arithmetic operation gives, for a destination a and an operand b
abbrev pub value_of : AluOp → ℕ → ℕ → ℕ → ℕ
value_of op width a b = computed op width (a % 2 ^ width) (b % 2 ^ width)

-- ---- byte swaps (RFC 9669, section 4.2), on a machine whose own order is little-endian

-- what a byte swap of so many low bits gives
abbrev pub swapped : SwapOp → Width → ℕ → ℕ
swapped swap.ToLittle bits a = a % 2 ^ bits_of bits
swapped swap.ToBig bits a = bytes_reversed (bits_of bits / 8) a
swapped swap.Swap bits a = bytes_reversed (bits_of bits / 8) a

-- ---- comparisons (RFC 9669, section 4.3)

-- whether a comparison holds of two numbers below 2 ^ width
abbrev pub compared : JumpOp → ℕ → ℕ → ℕ → Bool
compared jump.Jeq width a b = a == b
compared jump.Jgt width a b = nat_lt b a
compared jump.Jge width a b = nat_le b a
compared jump.Jset width a b = not (bit_and a b == 0)
compared jump.Jne width a b = not (a == b)
compared jump.Jsgt width a b = int_lt (signed width b) (signed width a)
compared jump.Jsge width a b = int_le (signed width b) (signed width a)
compared jump.Jlt width a b = nat_lt a b
compared jump.Jle width a b = nat_le a b
compared jump.Jslt width a b = int_lt (signed width a) (signed width b)
compared jump.Jsle width a b = int_le (signed width a) (signed width b)

-- whether a conditional jump is taken, for a destination a and an operand b
abbrev pub compares : JumpOp → ℕ → ℕ → ℕ → Bool
compares op width a b = compared op width (a % 2 ^ width) (b % 2 ^ width)

-- ---- atomic operations (RFC 9669, section 5.3; those of 32 bits are this project's own)

-- whether there are atomic operations of this size
abbrev pub is_atomic : Size → Bool
is_atomic B = false
is_atomic H = false
is_atomic W = true
is_atomic D = true

-- what memory of so many bits holds after an operation on an old value, a source and R0 below 2 ^ width
abbrev pub combined : AtomicOp → ℕ → ℕ → ℕ → ℕ → ℕ
combined atomic.Add width old source r0 = (old + source) % 2 ^ width
combined atomic.Or width old source r0 = bit_or old source
combined atomic.And width old source r0 = bit_and old source
combined atomic.Xor width old source r0 = bit_xor old source
combined atomic.Xchg width old source r0 = source
combined atomic.Cmpxchg width old source r0 = if old == r0 then source else old

-- what memory of this size holds after an atomic operation, for the old value, the source register and R0
abbrev pub stored_by : AtomicOp → Size → ℕ → ℕ → ℕ → ℕ
stored_by op size old source r0 =
    let width : ℕ = 8 * byte_count size in combined op width old (source % 2 ^ width) (r0 % 2 ^ width)
