-- Laws of the values of operations.
use Rattle.std.specs.Prelude.{ℕ, ◌≡◌, ◌-◌, ◌*◌, ◌/◌, ◌%◌, ◌^◌, ◌<◌, ◌==◌, Bool, true, false, cond, ℤ, pos, negsuc, int_div, int_rem, bit_and}
use Rattle.std.proofs.Common.{arith, sym, ap, ◌∙◌}
use Rattle.std.proofs.Math.Nat.{mod-le, div-le_self}
use Rattle.std.proofs.lemmas.Nat.{pow_pos, mod_below, and_le_l, or_lt, xor_lt, and_mask, shr_le, mul-mod_first}
use Rattle.bpf_isa.specs.declared.operation.AluOp.{AluOp}
use Rattle.bpf_isa.specs.declared.operation.AluOp.TheVariants as alu
use Rattle.bpf_model.specs.Value.{signed, unsigned, shifted_down, computed, value_of}

-- ---- an operation's result has its width

pub cond_below : (t : Bool) (x y m : ℕ) → x < m → y < m → cond t x y < m
cond_below true x y m h k = h
cond_below false x y m h k = k

pub unsigned_below : (width : ℕ) (z : ℤ) → unsigned width z < 2 ^ width
unsigned_below width (pos n) = mod_below n (2 ^ width) (pow_pos width)
unsigned_below width (negsuc n) = omega (arith, pow_pos width)

pub computed_below : (op : AluOp) (width a b : ℕ) → a < 2 ^ width → b < 2 ^ width → computed op width a b < 2 ^ width
computed_below alu.Add width a b h k = mod_below _ _ (pow_pos width)
computed_below alu.Sub width a b h k = mod_below _ _ (pow_pos width)
computed_below alu.Mul width a b h k = mod_below _ _ (pow_pos width)
computed_below alu.Div width a b h k = cond_below (b == 0) 0 (a / b) _ (pow_pos width) (omega (arith, div-le_self a b))
computed_below alu.Mod width a b h k = cond_below (b == 0) a (a % b) _ h (omega (arith, mod-le a b))
computed_below alu.Sdiv width a b h k = cond_below (b == 0) 0 _ _ (pow_pos width) (unsigned_below width (int_div (signed width a) (signed width b)))
computed_below alu.Smod width a b h k = cond_below (b == 0) a _ _ h (unsigned_below width (int_rem (signed width a) (signed width b)))
computed_below alu.Or width a b h k = or_lt width a b h k
computed_below alu.And width a b h k = omega (arith, and_le_l a b)
computed_below alu.Xor width a b h k = xor_lt width a b h k
computed_below alu.Lsh width a b h k = mod_below _ _ (pow_pos width)
computed_below alu.Rsh width a b h k = omega (arith, shr_le a (b % width))
computed_below alu.Arsh width a b h k = unsigned_below width (shifted_down (signed width a) (b % width))
computed_below alu.Neg width a b h k = mod_below _ _ (pow_pos width)
computed_below alu.Mov width a b h k = k
computed_below alu.Movsx8 width a b h k = unsigned_below width (signed 8 (b % 2 ^ 8))
computed_below alu.Movsx16 width a b h k = unsigned_below width (signed 16 (b % 2 ^ 16))
computed_below alu.Movsx32 width a b h k = unsigned_below width (signed 32 (b % 2 ^ 32))

pub value_below : (op : AluOp) (width a b : ℕ) → value_of op width a b < 2 ^ width
value_below op width a b =
    computed_below op width (a % 2 ^ width) (b % 2 ^ width) (mod_below a _ (pow_pos width)) (mod_below b _ (pow_pos width))

-- ---- an amount of a shift

shift : (a b k w : ℕ) → (b % 2 ^ w) % 2 ^ k ≡ b % 2 ^ k → (a % 2 ^ w * 2 ^ (b % 2 ^ w % 2 ^ k)) % 2 ^ w ≡ (a * 2 ^ bit_and b (2 ^ k - 1)) % 2 ^ w
shift a b k w e =
    ap (λ (n : ℕ). (a % 2 ^ w * 2 ^ n) % 2 ^ w) (e ∙ sym (and_mask b k)) ∙ mul-mod_first a (2 ^ bit_and b (2 ^ k - 1)) (2 ^ w)

pub shift_64 : (a b : ℕ) → value_of alu.Lsh 64 a b ≡ (a * 2 ^ bit_and b 0x3f) % 2 ^ 64
shift_64 a b = shift a b 6 64 (omega arith)

pub shift_32 : (a b : ℕ) → value_of alu.Lsh 32 a b ≡ (a * 2 ^ bit_and b 0x1f) % 2 ^ 32
shift_32 a b = shift a b 5 32 (omega arith)
