use Rattle.std.proofs.Common.{◌∙◌, sym, subst, IsSome, arith}
use Rattle.seat_lock.proofs.PlaceLemmas.{some_home}
use Rattle.device_lock.proofs.tests.two_hosts.Goals as goal

pub lend-second-requires : goal.lend-second-requires
lend-second-requires c = subst IsSome (sym (c.lend-first.ensures.others 2 (λ e. omega arith))) (some_home _ _ c.args.passes.now 2 c.requires.all.all (omega arith) c.requires.two)

pub returns-clause-first : goal.returns-clause-first
returns-clause-first c =
    let home = c.lend-first.ensures.pass in
    (c.requires.all.each 1 c.lend-first.result home, c.requires.idle 1 c.lend-first.result home, c.lend-first.ensures.party)

pub returns-clause-second : goal.returns-clause-second
returns-clause-second c =
    let home = sym (c.lend-first.ensures.others 2 (λ e. omega arith)) ∙ c.lend-second.ensures.pass in
    (c.requires.all.each 2 c.lend-second.result home, c.requires.idle 2 c.lend-second.result home, c.lend-second.ensures.party)

pub returns-clause-empty : goal.returns-clause-empty
returns-clause-empty c = (c.lend-second.ensures.others 1 (λ e. omega arith) ∙ c.lend-first.ensures.empty, c.lend-second.ensures.empty)
