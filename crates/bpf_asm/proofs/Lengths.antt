-- How long operands are.
use Rattle.std.proofs.Common.{ℕ, ◌<◌, ◌≤◌, ◌^◌, ℤ, length}
use Rattle.std.specs.Prelude.{decimal, FitsSigned}
use Rattle.std.specs.Fmt.{signed_decimal}
use Rattle.std.specs.Int.{w64}
use Rattle.cp_text.proofs.NumberTexts.{length-decimal-bounds}
use Rattle.cp_text.proofs.SignedTexts.{length-signed_decimal-bounds}

pub number_len : (n : ℕ) → n < 2 ^ 64 → length (decimal n) ≤ 20
number_len n low = (length-decimal-bounds n low).1

pub signed_len : (z : ℤ) → FitsSigned w64 z → length (signed_decimal z) ≤ 20
signed_len z fits = (length-signed_decimal-bounds z fits).1
