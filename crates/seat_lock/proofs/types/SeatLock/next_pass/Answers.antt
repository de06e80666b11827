use Rattle.std.proofs.Common.{◌≡◌, ◌-◌, rules, refl, sym, ap, ◌∙◌, arith}
use Rattle.seat_lock.specs.Views.{lone}
use Rattle.seat_lock.proofs.SeatSteps.{makes}
use Rattle.seat_lock.proofs.types.SeatLock.next_pass.Goals as goal

pub split_seat-next-requires : goal.split_seat-next-requires
split_seat-next-requires g c = let t = g.V.Trailed in let first = c.requires.first in
    let view : c.into_seat-seat.result.me.0 ≡ lone c.args.first.badge.views = sym (ap lone c.into_seat-seat.ensures.2) in
    let number : c.into_seat-seat.result.me.0.number ≡ 1 = ap (λ v. v.number) view ∙ (c.args.first.numbered.0 ∙ first.party_is) in
    let counted : c.into_seat-seat.result.me.0.made ≡ c.args.number - 1 = ap (λ v. v.made) view ∙ first.counts refl in
    (search rules, search rules, makes t.party t.entries t.fixed _ _ _ number (omega arith))
