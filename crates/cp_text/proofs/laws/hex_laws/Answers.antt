use Rattle.cp_text.proofs.HexTexts.{hex_of-spelled, hex_of-text, hex_text-are_digits, hex_text-one, hex_length}
use Rattle.cp_text.proofs.laws.hex_laws.Goals as goal

pub returns-clause-spelled_so : goal.returns-clause-spelled_so
returns-clause-spelled_so c = hex_of-spelled

pub returns-clause-read_so : goal.returns-clause-read_so
returns-clause-read_so c = hex_of-text

pub returns-clause-one_list : goal.returns-clause-one_list
returns-clause-one_list c = hex_text-one

pub returns-clause-digits : goal.returns-clause-digits
returns-clause-digits c = hex_text-are_digits

pub returns-clause-len : goal.returns-clause-len
returns-clause-len c = hex_length
