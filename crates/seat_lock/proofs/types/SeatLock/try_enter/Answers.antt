use Rattle.std.proofs.Common.{rules, ◌∷◌, sym, ap, ◌∙◌, Some}
use Rattle.atomic_table.specs.Table.{rest}
use Rattle.seat_lock.proofs.TurnSteps.{tries}
use Rattle.seat_lock.proofs.types.SeatLock.try_enter.Goals as goal

pub compare_exchange-word-requires : goal.compare_exchange-word-requires
compare_exchange-word-requires g c =
    (search rules, search rules, tries g.V.Trailed.party g.V.Trailed.entries g.V.Trailed.fixed _ _ _ _ _ (search rules) (search rules) (search rules))

pub exchange-requires : goal.exchange-requires
exchange-requires g c = let t = c.compare_exchange-word.ensures.2.0 c.if-word-ne0.false in let hand = ap (λ m. m.1) t.1 in
    (search rules, (Some t.0, hand ∙ ap (λ cs. (0, Some t.0) ∷ rest cs) (sym hand)))
