-- The widths of accesses to memory.
use Rattle.std.specs.Prelude.{ℕ}
use Rattle.bpf_isa.specs.declared.operand.Size.{Size}
use Rattle.bpf_isa.specs.declared.operand.Size.TheVariants.{B, H, W, D}

-- how many bytes an access of this size reads or writes (RFC 9669, section 5)
abbrev pub byte_count : Size → ℕ
byte_count B = 1
byte_count H = 2
byte_count W = 4
byte_count D = 8
