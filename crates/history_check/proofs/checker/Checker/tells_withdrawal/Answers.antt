use Rattle.std.proofs.Common.{refl}
use Rattle.history_check.proofs.checker.Checker.tells_withdrawal.Goals as goal

pub returns-in_default-clause-no : goal.returns-in_default-clause-no
returns-in_default-clause-no c off = (refl, λ named t. c.in_default.ensures.none refl named t.names)
