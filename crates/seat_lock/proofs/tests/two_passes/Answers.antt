use Rattle.std.proofs.Common.{sym, ◌∙◌, subst, IsSome, arith}
use Rattle.seat_lock.proofs.PlaceLemmas.{some_home, of_lent}
use Rattle.seat_lock.proofs.tests.two_passes.Goals as goal

pub lend-second-requires : goal.lend-second-requires
lend-second-requires c = subst IsSome (sym (c.lend-first.ensures.others 2 (λ e. omega arith))) (some_home _ _ c.args.passes.now 2 c.requires.all (omega arith) c.requires.two)

pub returns-clause-empty : goal.returns-clause-empty
returns-clause-empty c = (c.lend-second.ensures.others 1 (λ e. omega arith) ∙ c.lend-first.ensures.empty, c.lend-second.ensures.empty)

pub returns-clause-others : goal.returns-clause-others
returns-clause-others c n not_first not_second = c.lend-second.ensures.others n not_second ∙ c.lend-first.ensures.others n not_first

pub returns-clause-second : goal.returns-clause-second
returns-clause-second c = of_lent _ _ c.args.passes.now 2 c.lend-second.result c.requires.all (omega arith) c.requires.two (sym (c.lend-first.ensures.others 2 (λ e. omega arith)) ∙ c.lend-second.ensures.pass)
