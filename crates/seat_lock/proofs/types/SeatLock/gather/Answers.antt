use Rattle.std.proofs.Common.{◌≡◌, ℕ, ◌+◌, ◌<◌, ◌≤◌, IsSome, sym, ap, ◌∙◌, subst, le_refl, arith}
use Rattle.seat_lock.specs.Views.{lone}
use Rattle.seat_lock.specs.Passes.{LockName, lock_of, seats_in, view_of}
use Rattle.seat_lock.specs.Closing.{HasKept}
use Rattle.seat_lock.specs.declared.types.View.{View}
use Rattle.seat_lock.proofs.PlaceLemmas.{some_home, of_lent}
use Rattle.seat_lock.proofs.JoinSteps.{keeps_account}
use Rattle.seat_lock.proofs.ClosingLemmas.{kept_first, kept_more}
use Rattle.seat_lock.proofs.types.SeatLock.gather.Goals as goal

pub lend-badge-requires : goal.lend-badge-requires
lend-badge-requires g c = some_home g.V.Trailed.party (lock_of g.V.Trailed.fixed c.args.self.now) c.args.passes 1 c.requires (le_refl 1) (omega (arith, c.args.self.now.seated, c.requires.seats))

pub loop-party-init : goal.loop-party-init
loop-party-init g c = let P = g.V.Trailed.party in let lock : LockName g.row.V-Fixed.Denot = lock_of g.V.Trailed.fixed c.args.self.now in let ps = c.args.passes in let q = c.lend-badge.result in
    let of = of_lent P lock ps 1 q c.requires (le_refl 1) (omega (arith, c.args.self.now.seated, c.requires.seats)) c.lend-badge.ensures.pass in let view : c.into_seat-seat.result.me.0 ≡ view_of q = sym (ap lone c.into_seat-seat.ensures.2) in record {
      table = c.into_seat-seat.ensures.0 ∙ of.table;
      bare = c.into_seat-seat.ensures.3;
      kept = kept_first P lock ps q c.into_seat-seat.result.me.0 of c.lend-badge.ensures.party c.lend-badge.ensures.pass view;
      rest = λ n after. c.lend-badge.ensures.others n (λ e. omega arith);
      seats = c.lend-badge.ensures.seats;
    }

pub lend-badge-requires-in-loop-party : goal.lend-badge-requires-in-loop-party
lend-badge-requires-in-loop-party g c = let inv = c.loop-party.invariant in let n : ℕ = c.loop-party.party + 1 in let within : n ≤ seats_in c.args.passes = omega (arith, c.seats-seats.ensures, c.lend-badge.ensures.seats) in
    subst IsSome (sym (inv.rest n (omega arith))) (some_home g.V.Trailed.party (lock_of g.V.Trailed.fixed c.args.self.now) c.args.passes n c.requires (omega arith) within)

pub join_seat-requires : goal.join_seat-requires
join_seat-requires g c = let t = g.V.Trailed in let lock : LockName g.row.V-Fixed.Denot = lock_of t.fixed c.args.self.now in let inv = c.loop-party.invariant in let n : ℕ = c.loop-party.party + 1 in let q = c.lend-badge-in-loop-party.result in
    let within : n ≤ seats_in c.args.passes = omega (arith, c.seats-seats.ensures, c.lend-badge.ensures.seats) in
    let of = of_lent t.party lock c.args.passes n q c.requires (omega arith) within (sym (inv.rest n (omega arith)) ∙ c.lend-badge-in-loop-party.ensures.pass) in
    let rests = ap (λ (v : View g.row.V-Entry.Denot g.row.V-Fixed.Denot). v.has_turn) (sym (ap lone c.into_seat.ensures.2)) ∙ q.resting.0 in
    let words : 0 < c.args.self.now.table.shared.table_id.words = omega (arith, c.args.self.now.sized.0) in
    (inv.table, c.into_seat.ensures.0 ∙ of.table, c.into_seat.ensures.3, words, keeps_account t.party t.entries t.fixed _ _ _ _ _ rests)

pub loop-party-preserved : goal.loop-party-preserved
loop-party-preserved g c = let lock : LockName g.row.V-Fixed.Denot = lock_of g.V.Trailed.fixed c.args.self.now in let inv = c.loop-party.invariant in let n : ℕ = c.loop-party.party + 1 in let q = c.lend-badge-in-loop-party.result in
    let v = c.loop-party.seat.me.0 in let w = c.into_seat.result.me.0 in let now = c.join_seat.ensures.2 in
    let home = sym (inv.rest n (omega arith)) ∙ c.lend-badge-in-loop-party.ensures.pass in record {
      table = c.join_seat.ensures.0 ∙ inv.table;
      bare = ap (λ m. m.1) now ∙ inv.bare;
      kept = subst (HasKept lock c.args.passes n) (sym (ap (λ m. m.0) now)) (kept_more lock c.args.passes c.loop-party.party q v w inv.kept c.lend-badge-in-loop-party.ensures.party home (sym (ap lone c.into_seat.ensures.2)));
      rest = λ m after. c.lend-badge-in-loop-party.ensures.others m (λ e. omega arith) ∙ inv.rest m (omega arith);
      seats = c.lend-badge-in-loop-party.ensures.seats ∙ inv.seats;
    }

pub returns : goal.returns
returns g c = let lock : LockName g.row.V-Fixed.Denot = lock_of g.V.Trailed.fixed c.args.self.now in let inv = c.loop-party.invariant in
    let all : c.loop-party.party ≡ lock.seats = omega (arith, c.seats-seats.ensures, c.lend-badge.ensures.seats, c.requires.seats, c.args.self.now.seated) in record {
      seat = (inv.table, inv.bare);
      kept = subst (λ (n : ℕ). HasKept lock c.args.passes n c.loop-party.seat.me.0) all inv.kept;
    }
