use Rattle.std.proofs.Common.{◌∷◌, [], ◌++◌, Some, sym, ap, ◌∙◌, subst}
use Rattle.atomic_table.specs.Table.{opening}
use Rattle.seat_lock.specs.Views.{first_view}
use Rattle.seat_lock.specs.Rule.{Ruled}
use Rattle.seat_lock.specs.declared.types.About.{About}
use Rattle.seat_lock.proofs.SeatSteps.{opens}
use Rattle.seat_lock.proofs.types.SeatLock.open.Goals as goal

pub new-requires : goal.new-requires
new-requires g c = let t = g.V.Trailed in let about : About g.row.V.Denot = record { first = c.of.result; seats = c.args.seats } in
    subst (λ slots. Ruled t.party t.entries t.fixed about (opening (0 ∷ 0 ∷ []) slots (first_view (t.fixed c.of.result.value)))) (sym (c.push_reserved.ensures.items ∙ ap (λ l. l ++ Some c.args.value ∷ []) c.in_ok-slots.ensures.items))
    (opens t.party t.entries t.fixed about c.args.value c.of.ensures c.requires.empty c.requires.seats)
