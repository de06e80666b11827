use Rattle.std.proofs.Common.{◌≡◌, drop}
use Rattle.cp_text.specs.Number.{digits_after}
use Rattle.cp_text.proofs.numbers.number.Given as goal

abbrev pub invariant-loop-byte : goal.invariant-loop-byte
invariant-loop-byte l = digits_after l.value (drop l.byte-index l.text) ≡ digits_after 0 l.text
