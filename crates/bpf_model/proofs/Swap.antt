-- Laws of the reverse order of bytes.
use Rattle.std.specs.Prelude.{ℕ, zero, suc, ◌≡◌, ◌+◌, ◌*◌, ◌/◌, ◌%◌, ◌^◌, ◌<◌}
use Rattle.std.proofs.Common.{arith, sym, ap, ◌∙◌}
use Rattle.std.proofs.Math.Nat.{mod-one, pow-suc, pow-succ', div-div-eq-div-mul, one-le-pow, mul_assoc}
use Rattle.std.proofs.Math.Arith.{mod-mul}
use Rattle.std.proofs.lemmas.Nat.{mul-add-lt, div-mul-add, mod-mul-add}
use Rattle.bpf_isa.specs.Width.{bits_of}
use Rattle.bpf_isa.specs.declared.operand.Width.{Width}
use Rattle.bpf_isa.specs.declared.operand.Width.TheVariants.{Bits16, Bits32, Bits64}
use Rattle.bpf_isa.specs.declared.operation.SwapOp.{SwapOp}
use Rattle.bpf_isa.specs.declared.operation.SwapOp.TheVariants as swap
use Rattle.bpf_model.specs.Value.{bytes_reversed, swapped}

byte_below : (n : ℕ) → n % 256 < 256
byte_below n = omega arith

power_pos : (k : ℕ) → 0 < 256 ^ k
power_pos k = one-le-pow k 256 (omega arith)

-- k bytes in reverse order are k bytes
pub reversed_below : (k n : ℕ) → bytes_reversed k n < 256 ^ k
reversed_below zero n = omega arith
reversed_below (suc k) n =
    rw (pow-suc 256 k) (mul-add-lt (n % 256) (256 ^ k) (bytes_reversed k (n / 256)) 256 (byte_below n) (reversed_below k (n / 256)))

sums : (p q x y c d : ℕ) → p ≡ q * 256 → x ≡ y * 256 + c → c ≡ d → p + x ≡ (q + y) * 256 + d
sums p q x y c d e f g = omega arith

-- the last of them is the highest
reversed_last : (k n : ℕ) → bytes_reversed (suc k) n ≡ bytes_reversed k n * 256 + n / 256 ^ k % 256
reversed_last zero n = omega arith
reversed_last (suc k) n =
    let later : bytes_reversed (suc k) (n / 256) ≡ bytes_reversed k (n / 256) * 256 + n / 256 / 256 ^ k % 256 = reversed_last k (n / 256) in
    let place : n / 256 / 256 ^ k ≡ n / 256 ^ suc k = div-div-eq-div-mul n 256 (256 ^ k) ∙ ap (λ (x : ℕ). n / x) (sym (pow-succ' 256 k)) in
    let power : n % 256 * 256 ^ suc k ≡ n % 256 * 256 ^ k * 256 =
    ap (λ (x : ℕ). n % 256 * x) (pow-suc 256 k) ∙ sym (mul_assoc (n % 256) (256 ^ k) 256) in
    sums _ _ _ _ _ _ power later (ap (λ (x : ℕ). x % 256) place)

-- to reverse k bytes twice leaves them
pub reversed_twice : (k n : ℕ) → bytes_reversed k (bytes_reversed k n) ≡ n % 256 ^ k
reversed_twice zero n = sym (mod-one n)
reversed_twice (suc k) n =
    let last : ℕ = n / 256 ^ k % 256 in
    let both : bytes_reversed (suc k) n ≡ bytes_reversed k n * 256 + last = reversed_last k n in
    let low : bytes_reversed (suc k) n % 256 ≡ last = ap (λ (x : ℕ). x % 256) both ∙ mod-mul-add (bytes_reversed k n) 256 last (byte_below (n / 256 ^ k)) in
    let rest : bytes_reversed (suc k) n / 256 ≡ bytes_reversed k n = ap (λ (x : ℕ). x / 256) both ∙ div-mul-add (bytes_reversed k n) 256 last (byte_below (n / 256 ^ k)) in
    ap (λ (x : ℕ). x * 256 ^ k + bytes_reversed k (bytes_reversed (suc k) n / 256)) low
    ∙ ap (λ (x : ℕ). last * 256 ^ k + bytes_reversed k x) rest ∙ ap (λ (x : ℕ). last * 256 ^ k + x) (reversed_twice k n)
    ∙ sym (ap (λ (x : ℕ). n % x) (pow-succ' 256 k) ∙ mod-mul n {m = 256} {c = 256 ^ k} (omega arith) (power_pos k))

pub swap_below : (op : SwapOp) (bits : Width) (a : ℕ) → swapped op bits a < 2 ^ bits_of bits
swap_below swap.ToLittle Bits16 a = omega arith
swap_below swap.ToLittle Bits32 a = omega arith
swap_below swap.ToLittle Bits64 a = omega arith
swap_below swap.ToBig Bits16 a = reversed_below 2 a
swap_below swap.ToBig Bits32 a = reversed_below 4 a
swap_below swap.ToBig Bits64 a = reversed_below 8 a
swap_below swap.Swap Bits16 a = reversed_below 2 a
swap_below swap.Swap Bits32 a = reversed_below 4 a
swap_below swap.Swap Bits64 a = reversed_below 8 a

pub swapped_twice : (bits : Width) (a : ℕ) → swapped swap.Swap bits (swapped swap.Swap bits a) ≡ swapped swap.ToLittle bits a
swapped_twice Bits16 a = reversed_twice 2 a
swapped_twice Bits32 a = reversed_twice 4 a
swapped_twice Bits64 a = reversed_twice 8 a
