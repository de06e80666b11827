use Rattle.std.proofs.Common.{List, ℕ, Some, sym, ap, ◌∙◌}
use Rattle.cp_text.specs.HexText.{hex_of}
use Rattle.cp_text.proofs.HexTexts.{hex_of-none, hex_of-read}
use Rattle.cp_text.proofs.hexadecimal.hex_bytes.Goals as goal

pub returns-then-not-is_hex-clause-items : goal.returns-then-not-is_hex-clause-items
returns-then-not-is_hex-clause-items c =
    hex_of-none (hex_of c.args.text.now) (sym c.is_hex.ensures ∙ c.if-not-is_hex.true)

pub returns-clause-items : goal.returns-clause-items
returns-clause-items c =
    let kept = c.in_ok-from_slice.ensures.items ∙ c.as_slice.ensures.value in
    ap (λ (items : List ℕ). Some items) kept
    ∙ hex_of-read c.args.text.now c.in-Ok.bytes.items (sym c.is_hex.ensures ∙ c.if-not-is_hex.false) c.in-Ok.ensures.ok
