use Rattle.std.proofs.Common.{refl}
use Rattle.seat_lock.proofs.LentValue.{same_turn}
use Rattle.seat_lock.proofs.types.Turn.value.Goals as goal

pub returns : goal.returns
returns g c = ((refl, λ w. same_turn g.row.V g.row.V-Entry g.row.V-Fixed c.args.self.now w _ _ _ _ _), record { writes_back = tt; value = refl })
