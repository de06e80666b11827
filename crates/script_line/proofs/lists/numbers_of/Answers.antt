use Rattle.script_line.proofs.Triples.{all_three}
use Rattle.script_line.proofs.lists.numbers_of.Goals as goal

pub returns : goal.returns
returns c = all_three c.args.ns.now c.args.start.now c.args.len.now _ _ _ c.in-Some.ensures c.in-Some-number.ensures c.in-Some-number-2.ensures
