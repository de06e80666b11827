use Rattle.std.proofs.Common.{refl, arith}
use Rattle.std.proofs.lemmas.Fmt.{decimal_digit}
use Rattle.history_model.proofs.examples.lines_by_example.Goals as goal

pub returns-clause-entry : goal.returns-clause-entry
returns-clause-entry c = rw (decimal_digit 0 (omega arith), decimal_digit 1 (omega arith), decimal_digit 2 (omega arith)) refl

pub returns-clause-show : goal.returns-clause-show
returns-clause-show c = rw (decimal_digit 0 (omega arith), decimal_digit 1 (omega arith), decimal_digit 2 (omega arith)) refl
