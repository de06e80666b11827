use Rattle.std.proofs.Common.{le_of_eq}
use Rattle.seat_lock.proofs.PlaceLemmas.{some_home, of_lent}
use Rattle.seat_lock.proofs.tests.last_pass.Goals as goal

pub lend-requires : goal.lend-requires
lend-requires c = some_home _ _ c.args.passes.now c.args.party c.requires.all c.requires.last.0 (le_of_eq c.requires.last.1)

pub returns : goal.returns
returns c = of_lent _ _ c.args.passes.now c.args.party c.lend.result c.requires.all c.requires.last.0 (le_of_eq c.requires.last.1) c.lend.ensures.pass
