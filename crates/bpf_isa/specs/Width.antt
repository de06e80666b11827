-- The widths of byte swaps.
use Rattle.std.specs.Prelude.{ℕ}
use Rattle.bpf_isa.specs.declared.operand.Width.{Width}
use Rattle.bpf_isa.specs.declared.operand.Width.TheVariants.{Bits16, Bits32, Bits64}

-- how many low bits of a register a byte swap reads (RFC 9669, section 4.2)
abbrev pub bits_of : Width → ℕ
bits_of Bits16 = 16
bits_of Bits32 = 32
bits_of Bits64 = 64
