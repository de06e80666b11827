use Rattle.cp_text.proofs.SignedTexts.{length-signed_decimal-bounds, signed_decimal-are_digits, signed_decimal-one, signed_of-decimal, signed_of-spelled}
use Rattle.cp_text.proofs.laws.signed_laws.Goals as goal

pub returns-clause-spelled_so : goal.returns-clause-spelled_so
returns-clause-spelled_so c = signed_of-spelled

pub returns-clause-read_so : goal.returns-clause-read_so
returns-clause-read_so c = signed_of-decimal

pub returns-clause-one_number : goal.returns-clause-one_number
returns-clause-one_number c = signed_decimal-one

pub returns-clause-digits : goal.returns-clause-digits
returns-clause-digits c = signed_decimal-are_digits

pub returns-clause-len : goal.returns-clause-len
returns-clause-len c = length-signed_decimal-bounds
