use Rattle.std.proofs.Common.{◌∙◌}
use Rattle.seat_lock.proofs.PlaceLemmas.{some_home, of_lent}
use Rattle.seat_lock.proofs.MeetingLemmas.{back_home}
use Rattle.seat_lock.proofs.tests.write_as.Goals as goal

pub lend-pass-requires : goal.lend-pass-requires
lend-pass-requires g c = some_home _ _ c.args.passes.now c.args.party c.requires.all c.requires.party.0 c.requires.party.1

pub write-requires : goal.write-requires
write-requires g c = of_lent _ _ c.args.passes.now c.args.party c.lend-pass.result c.requires.all c.requires.party.0 c.requires.party.1 c.lend-pass.ensures.pass

pub returns : goal.returns
returns g c = let lent = c.lend-pass.ensures in
    back_home _ _ c.args.passes.now c.lend-pass.new.self c.give.new.self c.args.party c.write.result c.requires.all lent.others lent.seats c.give.ensures.pass c.give.ensures.others c.give.ensures.seats (c.write.ensures.party ∙ lent.party) c.write.ensures.pass
