-- The signed remainder is what the difference and the product leave of the signed quotient.
use Rattle.std.specs.Prelude.{ℕ, ◌≡◌, ◌+◌, ◌-◌, ◌*◌, ◌%◌, ◌^◌, ◌<◌, ◌==◌, Bool, true, false, cond, ℤ, pos, negsuc, ◌+ℤ◌, ◌-ℤ◌, ◌*ℤ◌, int_div, int_rem}
use Rattle.std.specs.Int.{Width, w32, w64, cast_signed, cast_unsigned, int_wrap}
use Rattle.std.proofs.Common.{arith, refl, sym, ap, ◌∙◌}
use Rattle.std.proofs.Math.Nat.{mod-eq_of_lt, mod-mod, mul-zero, zero-mod, sub-zero, add-mod_right}
use Rattle.std.proofs.Math.IntN.{*ℤ_comm}
use Rattle.std.proofs.lemmas.Int.{ints, of_z-to_z, int_wrap-sub_right, int_wrap-mul_right, wrapping_sub-bits, wrapping_mul-bits, quot-rem}
use Rattle.std.proofs.lemmas.Nat.{pow_pos, mod_below}
use mir.Val.{bits}
use Rattle.bpf_isa.specs.declared.operation.AluOp.TheVariants as alu
use Rattle.bpf_model.specs.Value.{signed, unsigned, value_of}
use Rattle.bpf_model.proofs.Value.{unsigned_below, computed_below}

-- two's complement of std
unsigned_wraps : (w : Width) (z : ℤ) → cast_signed w (unsigned (bits w) z) ≡ int_wrap w z
unfolding int_wrap
unsigned_wraps w (pos n) = refl
unsigned_wraps w (negsuc n) = refl

pub signed_64 : (n : ℕ) → n < 2 ^ 64 → signed 64 n ≡ cast_signed w64 n
signed_64 n h = grind (arith, ints)

pub signed_32 : (n : ℕ) → n < 2 ^ 32 → signed 32 n ≡ cast_signed w32 n
signed_32 n h = grind (arith, ints)

difference : (x y q r : ℤ) → q *ℤ y +ℤ r ≡ x → x -ℤ (y *ℤ q) ≡ r
difference x y q r e = rw (*ℤ_comm y q) (omega (arith, ints))

-- the remainder r of x by y, where a and b mean x and y
wrapped : (w : Width) (a b : ℕ) → a < 2 ^ bits w → b < 2 ^ bits w → (x y q r : ℤ) → cast_signed w a ≡ x → cast_signed w b ≡ y → q *ℤ y +ℤ r ≡ x →
    (a + (2 ^ bits w - (b * unsigned (bits w) q) % 2 ^ bits w)) % 2 ^ bits w ≡ unsigned (bits w) r
wrapped w a b h k x y q r ex ey e =
    let W : ℕ = 2 ^ bits w in
    let Q : ℕ = unsigned (bits w) q in
    let p : ℕ = (b * Q) % W in
    let pb : p < W = mod_below (b * Q) W (pow_pos (bits w)) in
    let n : ℕ = (a + (W - p)) % W in
    let product : cast_signed w p ≡ int_wrap w (y *ℤ int_wrap w q) =
    wrapping_mul-bits w b Q k (unsigned_below (bits w) q) ∙ ap (λ (z : ℤ). int_wrap w (cast_signed w b *ℤ z)) (unsigned_wraps w q)
    ∙ ap (λ (z : ℤ). int_wrap w (z *ℤ int_wrap w q)) ey in
    let meant : cast_signed w n ≡ int_wrap w r =
    wrapping_sub-bits w a p h pb ∙ ap (λ (z : ℤ). int_wrap w (z -ℤ cast_signed w p)) ex
    ∙ ap (λ (z : ℤ). int_wrap w (x -ℤ z)) (product ∙ int_wrap-mul_right w y q) ∙ int_wrap-sub_right w x (y *ℤ q)
    ∙ ap (int_wrap w) (difference x y q r e) in
    sym (of_z-to_z w n (mod_below (a + (W - p)) W (pow_pos (bits w)))) ∙ ap (cast_unsigned w) (meant ∙ sym (unsigned_wraps w r))
    ∙ of_z-to_z w (unsigned (bits w) r) (unsigned_below (bits w) r)

module _ (w : Width) (reads : (n : ℕ) → n < 2 ^ bits w → signed (bits w) n ≡ cast_signed w n) where
  on_numbers : (zero_divisor : Bool) (a b : ℕ) → a < 2 ^ bits w → b < 2 ^ bits w →
      cond zero_divisor a (unsigned (bits w) (int_rem (signed (bits w) a) (signed (bits w) b)))
      ≡ (a + (2 ^ bits w - (b * cond zero_divisor 0 (unsigned (bits w) (int_div (signed (bits w) a) (signed (bits w) b)))) % 2 ^ bits w)) % 2 ^ bits w
  on_numbers true a b h k =
      let W : ℕ = 2 ^ bits w in
      sym (ap (λ (n : ℕ). (a + (W - n)) % W) (ap (λ (n : ℕ). n % W) (mul-zero b) ∙ zero-mod W)
      ∙ ap (λ (n : ℕ). (a + n) % W) (sub-zero W) ∙ add-mod_right a W ∙ mod-eq_of_lt h)
  on_numbers false a b h k =
      let x : ℤ = signed (bits w) a in
      let y : ℤ = signed (bits w) b in
      sym (wrapped w a b h k x y (int_div x y) (int_rem x y) (sym (reads a h)) (sym (reads b k)) (quot-rem x y))

  pub remainder : (a b : ℕ) →
      value_of alu.Smod (bits w) a b ≡ value_of alu.Sub (bits w) a (value_of alu.Mul (bits w) b (value_of alu.Sdiv (bits w) a b))
  remainder a b =
      let W : ℕ = 2 ^ bits w in
      let A : ℕ = a % W in
      let B : ℕ = b % W in
      let A_fits : A < W = mod_below a W (pow_pos (bits w)) in
      let B_fits : B < W = mod_below b W (pow_pos (bits w)) in
      let Q : ℕ = value_of alu.Sdiv (bits w) a b in
      let Q_is : Q % W ≡ Q = mod-eq_of_lt (computed_below alu.Sdiv (bits w) A B A_fits B_fits) in
      on_numbers (B == 0) A B A_fits B_fits
      ∙ sym (ap (λ (n : ℕ). (A + (W - n)) % W) (mod-mod (B * (Q % W)) W ∙ ap (λ (n : ℕ). (B * n) % W) Q_is))

pub remainder_64 : (a b : ℕ) → value_of alu.Smod 64 a b ≡ value_of alu.Sub 64 a (value_of alu.Mul 64 b (value_of alu.Sdiv 64 a b))
remainder_64 = remainder w64 signed_64

pub remainder_32 : (a b : ℕ) → value_of alu.Smod 32 a b ≡ value_of alu.Sub 32 a (value_of alu.Mul 32 b (value_of alu.Sdiv 32 a b))
remainder_32 = remainder w32 signed_32
