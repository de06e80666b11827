use Rattle.std.proofs.Common.{◌≡◌, ◌<◌, sym, ap, ◌∙◌, arith}
use Rattle.seat_lock.specs.Views.{lone}
use Rattle.seat_lock.specs.Passes.{LockName, lock_of, view_of}
use Rattle.seat_lock.proofs.PlaceLemmas.{some_home, of_lent}
use Rattle.seat_lock.proofs.SeatSteps.{notes}
use Rattle.seat_lock.proofs.MeetingLemmas.{back_home, of_same}
use Rattle.seat_lock.proofs.types.SeatLock.note_of.Goals as goal

pub lend-badge-requires : goal.lend-badge-requires
lend-badge-requires g c = some_home g.V.Trailed.party (lock_of g.V.Trailed.fixed c.args.self.now) c.args.passes.now c.args.party c.requires.all c.requires.party.0 c.requires.party.1

pub split_seat-note-requires : goal.split_seat-note-requires
split_seat-note-requires g c = let t = g.V.Trailed in let of = of_lent t.party (lock_of t.fixed c.args.self.now) c.args.passes.now c.args.party c.lend-badge.result c.requires.all c.requires.party.0 c.requires.party.1 c.lend-badge.ensures.pass in
    let words : 0 < c.args.self.now.table.shared.table_id.words = omega (arith, c.args.self.now.sized.0) in (c.into_seat-seat.ensures.0 ∙ of.table, words, notes t.party t.entries t.fixed _ _ _)

pub returns-clause-all : goal.returns-clause-all
returns-clause-all g c = let t = g.V.Trailed in let lock : LockName g.row.V-Fixed.Denot = lock_of t.fixed c.args.self.now in let p = c.lend-badge.result in let lent = c.lend-badge.ensures in
    let of = of_lent t.party lock c.args.passes.now c.args.party p c.requires.all c.requires.party.0 c.requires.party.1 lent.pass in
    let same : lone c.into_badge.result.views ≡ view_of p = ap lone c.into_badge.ensures.2 ∙ (ap (λ m. m.0) c.split_seat-note.ensures.2 ∙ sym (ap lone c.into_seat-seat.ensures.2)) in
    back_home t.party lock c.args.passes.now c.lend-badge.new.self c.give.new.self c.args.party _ c.requires.all lent.others lent.seats c.give.ensures.pass c.give.ensures.others c.give.ensures.seats lent.party
    (of_same t.party lock p _ of (c.into_badge.ensures.0 ∙ (c.split_seat-note.ensures.0 ∙ (c.into_seat-seat.ensures.0 ∙ of.table))) (λ i. p.number) same)

pub returns-clause-table : goal.returns-clause-table
returns-clause-table g c = let t = g.V.Trailed in let of = of_lent t.party (lock_of t.fixed c.args.self.now) c.args.passes.now c.args.party c.lend-badge.result c.requires.all c.requires.party.0 c.requires.party.1 c.lend-badge.ensures.pass in
    c.split_seat-note.ensures.3 ∙ (c.into_seat-seat.ensures.0 ∙ of.table)
