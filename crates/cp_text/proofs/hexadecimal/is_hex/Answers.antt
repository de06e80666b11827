use Rattle.std.proofs.Common.{◌≡◌, ◌%◌, ◌==◌, false, length, ◌∙◌, arith}
use Rattle.cp_text.proofs.HexTexts.{hex_of-odd_tested, hex_of-tested}
use Rattle.cp_text.proofs.hexadecimal.is_hex.Goals as goal

pub returns-then-text-eq0 : goal.returns-then-text-eq0
returns-then-text-eq0 c = c.are_digits.ensures ∙ hex_of-tested c.args.text.now (omega arith)

pub returns-else-text-eq0 : goal.returns-else-text-eq0
returns-else-text-eq0 c =
    let odd : length c.args.text.now % 2 ≡ 1 = omega arith in
    let test : (length c.args.text.now % 2 == 0) ≡ false = grind (arith, odd) in
    test ∙ hex_of-odd_tested c.args.text.now odd
