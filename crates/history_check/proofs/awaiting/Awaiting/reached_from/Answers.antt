use Rattle.std.proofs.Common.{sym}
use Rattle.history_check.proofs.awaiting.Awaiting.reached_from.Goals as goal

pub returns-in-Some-clause-behind : goal.returns-in-Some-clause-behind
returns-in-Some-clause-behind c = (c.requires.reached c.args.host c.args.begin c.in-Some.end.now (sym c.in-Some.ensures.value)).0

pub returns-in-Some-clause-over : goal.returns-in-Some-clause-over
returns-in-Some-clause-over c = (c.requires.reached c.args.host c.args.begin c.in-Some.end.now (sym c.in-Some.ensures.value)).1
