use Rattle.std.proofs.Common.{rules}
use Rattle.seat_lock.proofs.TurnSteps.{counts, releases}
use Rattle.seat_lock.proofs.types.Turn.leave.Goals as goal

pub store-requires : goal.store-requires
store-requires g c =
    (search rules, search rules, counts g.V.Trailed.party g.V.Trailed.entries g.V.Trailed.fixed _ _ _ _ _ c.args.self.value (search rules) (search rules) (search rules) (search rules) (search rules))

pub store-requires-2 : goal.store-requires-2
store-requires-2 g c =
    (search rules, search rules, releases g.V.Trailed.party g.V.Trailed.entries g.V.Trailed.fixed _ _ _ _ c.args.self.value (search rules) (search rules) (search rules) (search rules))
