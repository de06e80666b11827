use Rattle.std.proofs.lemmas.Fmt.{decimal_injective}
use Rattle.cp_text.proofs.NumberTexts.{decimal-are_digits, length-decimal-bounds, spelled_number-decimal, spelled_number-spelled}
use Rattle.cp_text.proofs.laws.number_laws.Goals as goal

pub returns-clause-spelled_so : goal.returns-clause-spelled_so
returns-clause-spelled_so c = spelled_number-spelled

pub returns-clause-read_so : goal.returns-clause-read_so
returns-clause-read_so c = spelled_number-decimal

pub returns-clause-one_number : goal.returns-clause-one_number
returns-clause-one_number c = decimal_injective

pub returns-clause-digits : goal.returns-clause-digits
returns-clause-digits c = decimal-are_digits

pub returns-clause-len : goal.returns-clause-len
returns-clause-len c = length-decimal-bounds
