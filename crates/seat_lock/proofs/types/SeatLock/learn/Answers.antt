use Rattle.std.proofs.Common.{◌≡◌, ◌<◌, [], ◌∷◌, List, false, sym, ap, ◌∙◌, subst, arith}
use Rattle.seat_lock.specs.Views.{lone, account_of}
use Rattle.seat_lock.specs.Plays.{keeping}
use Rattle.seat_lock.specs.Passes.{LockName, lock_of, view_of, at_home}
use Rattle.seat_lock.specs.declared.types.View.{View}
use Rattle.seat_lock.specs.declared.types.Account.{Account}
use Rattle.seat_lock.proofs.PlaceLemmas.{some_home, of_lent}
use Rattle.seat_lock.proofs.JoinSteps.{keeps_account}
use Rattle.seat_lock.proofs.LookSteps.{learns}
use Rattle.seat_lock.proofs.MeetingLemmas.{Taught, LearnedAt, back_home, of_taught, of_fields, after_look, learned_at}
use Rattle.seat_lock.proofs.types.SeatLock.learn.Given as given
use Rattle.seat_lock.proofs.types.SeatLock.learn.Goals as goal

learned_here : (g : given.Over) (c : goal.After-give g) → LearnedAt c.args.passes.now c.give.new.self c.args.party c.args.other.me.0
learned_here g c = let t = g.V.Trailed in let p = c.lend-badge.result in let w = c.args.other.me.0 in
    let look = after_look t.party t.entries t.fixed p c.into_seat-seat.result.me.0 w c.join_seat.new.seat.me c.load.new.seat.me c.into_seat-seat.ensures.2 (ap (λ m. m.0) c.join_seat.ensures.2) c.load.ensures.2 in
    learned_at t.party c.args.passes.now c.give.new.self c.args.party p _ w c.lend-badge.ensures.pass (ap (at_home c.give.new.self) (sym c.lend-badge.ensures.party) ∙ c.give.ensures.pass) (subst (Taught t.party (view_of p) w) (sym (ap lone c.into_badge.ensures.2)) look.0)

pub lend-badge-requires : goal.lend-badge-requires
lend-badge-requires g c = some_home g.V.Trailed.party (lock_of g.V.Trailed.fixed c.args.self.now) c.args.passes.now c.args.party c.requires.all c.requires.party.0 c.requires.party.1

pub join_seat-requires : goal.join_seat-requires
join_seat-requires g c = let t = g.V.Trailed in let of = of_lent t.party (lock_of t.fixed c.args.self.now) c.args.passes.now c.args.party c.lend-badge.result c.requires.all c.requires.party.0 c.requires.party.1 c.lend-badge.ensures.pass in
    let words : 0 < c.args.self.now.table.shared.table_id.words = omega (arith, c.args.self.now.sized.0) in
    (c.into_seat-seat.ensures.0 ∙ of.table, c.requires.table, c.requires.rests.0, words, keeps_account t.party t.entries t.fixed _ _ _ _ _ c.requires.rests.1)

pub load-requires : goal.load-requires
load-requires g c = let t = g.V.Trailed in let p = c.lend-badge.result in let of = of_lent t.party (lock_of t.fixed c.args.self.now) c.args.passes.now c.args.party p c.requires.all c.requires.party.0 c.requires.party.1 c.lend-badge.ensures.pass in
    let v = c.into_seat-seat.result.me.0 in let w = c.args.other.me.0 in let view : v ≡ view_of p = sym (ap lone c.into_seat-seat.ensures.2) in let joined : c.join_seat.new.seat.me.0 ≡ keeping v w = ap (λ m. m.0) c.join_seat.ensures.2 in
    let words : 0 < c.args.self.now.table.shared.table_id.words = omega (arith, c.args.self.now.sized.0) in
    let rests : c.join_seat.new.seat.me.0.has_turn ≡ false = ap (λ (u : View g.row.V-Entry.Denot g.row.V-Fixed.Denot). u.has_turn) (joined ∙ ap (λ (u : View g.row.V-Entry.Denot g.row.V-Fixed.Denot). keeping u w) view) ∙ p.resting.0 in
    let kept : c.join_seat.new.seat.me.0.kept ≡ account_of w ∷ [] = ap (λ (u : View g.row.V-Entry.Denot g.row.V-Fixed.Denot). u.kept) (joined ∙ ap (λ (u : View g.row.V-Entry.Denot g.row.V-Fixed.Denot). keeping u w) view) ∙ ap (λ (k : List (Account g.row.V-Entry.Denot)). account_of w ∷ k) p.resting.1 in
    (c.join_seat.ensures.0 ∙ (c.into_seat-seat.ensures.0 ∙ of.table), words, learns t.party t.entries t.fixed _ _ _ _ (account_of w) rests kept)

pub into_badge-requires : goal.into_badge-requires
into_badge-requires g c = let t = g.V.Trailed in let look = after_look t.party t.entries t.fixed c.lend-badge.result c.into_seat-seat.result.me.0 c.args.other.me.0 c.join_seat.new.seat.me c.load.new.seat.me c.into_seat-seat.ensures.2 (ap (λ m. m.0) c.join_seat.ensures.2) c.load.ensures.2 in
    look.1 ∙ (ap (λ m. m.1) c.join_seat.ensures.2 ∙ c.into_seat-seat.ensures.3)

pub invariant_of-give : goal.invariant_of-give
invariant_of-give g c = let t = g.V.Trailed in let p = c.lend-badge.result in let w = c.args.other.me.0 in let look = after_look t.party t.entries t.fixed p c.into_seat-seat.result.me.0 w c.join_seat.new.seat.me c.load.new.seat.me c.into_seat-seat.ensures.2 (ap (λ m. m.0) c.join_seat.ensures.2) c.load.ensures.2 in
    let f = of_fields t.party p w c.load.new.seat.me.0 c.into_badge.result.views c.into_badge.ensures.2 look.0 in record { one = f.0; numbered = f.1; resting = f.2 }

pub returns-clause-all : goal.returns-clause-all
returns-clause-all g c = let t = g.V.Trailed in let lock : LockName g.row.V-Fixed.Denot = lock_of t.fixed c.args.self.now in let p = c.lend-badge.result in let w = c.args.other.me.0 in let lent = c.lend-badge.ensures in
    let of = of_lent t.party lock c.args.passes.now c.args.party p c.requires.all c.requires.party.0 c.requires.party.1 lent.pass in
    let look = after_look t.party t.entries t.fixed p c.into_seat-seat.result.me.0 w c.join_seat.new.seat.me c.load.new.seat.me c.into_seat-seat.ensures.2 (ap (λ m. m.0) c.join_seat.ensures.2) c.load.ensures.2 in
    let taught = subst (Taught t.party (view_of p) w) (sym (ap lone c.into_badge.ensures.2)) look.0 in
    back_home t.party lock c.args.passes.now c.lend-badge.new.self c.give.new.self c.args.party _ c.requires.all lent.others lent.seats c.give.ensures.pass c.give.ensures.others c.give.ensures.seats lent.party
    (of_taught t.party lock p _ w of (c.into_badge.ensures.0 ∙ (c.load.ensures.0 ∙ (c.join_seat.ensures.0 ∙ (c.into_seat-seat.ensures.0 ∙ of.table)))) (λ i. p.number) taught)

pub returns-clause-learned : goal.returns-clause-learned
returns-clause-learned g c = (learned_here g c).learned

pub returns-clause-own : goal.returns-clause-own
returns-clause-own g c = (learned_here g c).own

pub returns-clause-told : goal.returns-clause-told
returns-clause-told g c = (learned_here g c).told
