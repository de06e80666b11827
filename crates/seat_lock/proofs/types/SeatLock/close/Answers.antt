use Rattle.std.proofs.Common.{◌≡◌, ◌^◌, ◌<◌, ◌≤◌, length, Some, is_some, sym, ap, ◌∙◌, subst, arith}
use Rattle.std.specs.Prelude.{All}
use Rattle.std.specs.Slots.{slots_filled}
use Rattle.seat_lock.specs.Trails.{FitsTrail}
use Rattle.seat_lock.specs.Passes.{LockName, lock_of, seats_in, seen_by, made_by}
use Rattle.seat_lock.proofs.PlaceLemmas.{some_same}
use Rattle.seat_lock.proofs.JoinSteps.{ends}
use Rattle.seat_lock.proofs.ClosingLemmas.{all_kept, each_fits, each_made, emptied_at, same_slot}
use Rattle.seat_lock.proofs.types.SeatLock.close.Goals as goal

pub take-slot-requires : goal.take-slot-requires
take-slot-requires g c = let some_slot : 0 < _ = omega (arith, c.close_with-closed.ensures.counts.1, c.args.self.sized.1) in (some_slot, c.close_with-closed.ensures.values.1 0 (omega arith) some_slot)

pub free-requires : goal.free-requires
free-requires g c k within = let first : k ≡ 0 = omega (arith, c.close_with-closed.ensures.counts.1, c.args.self.sized.1, c.take-slot.ensures.others.2) in
    emptied_at (slots_filled c.close_with-closed.result.slots) (slots_filled c.take-slot.new.self.slots) k first c.take-slot.ensures.others.1

pub unwrap-requires : goal.unwrap-requires
unwrap-requires g c = let t = g.V.Trailed in let lock : LockName g.row.V-Fixed.Denot = lock_of t.fixed c.args.self in let key = c.args.self.table.shared.key in let v = c.gather-seat.result.me.0 in let kept = c.gather-seat.ensures.kept in
    let e = ends t.party t.entries t.fixed key c.gather-seat.result.id v _ _ kept.one kept.rests (all_kept t.party t.entries t.fixed key lock c.args.passes v c.requires kept) c.close_with-closed.ensures.values.2 in
    ap is_some (same_slot _ c.take-slot.result e.0 c.take-slot.ensures.value e.1.there)

pub returns : goal.returns
returns g c = let t = g.V.Trailed in let lock : LockName g.row.V-Fixed.Denot = lock_of t.fixed c.args.self in let key = c.args.self.table.shared.key in let v = c.gather-seat.result.me.0 in let kept = c.gather-seat.ensures.kept in
    let e = ends t.party t.entries t.fixed key c.gather-seat.result.id v _ _ kept.one kept.rests (all_kept t.party t.entries t.fixed key lock c.args.passes v c.requires kept) c.close_with-closed.ensures.values.2 in
    let slot = same_slot _ c.take-slot.result e.0 c.take-slot.ensures.value e.1.there in let same : e.0 ≡ c.unwrap.result = some_same e.0 c.unwrap.result (sym slot ∙ c.unwrap.ensures) in record {
      fixed = ap (λ (y : g.row.V.Denot). Some (t.fixed y)) (sym same) ∙ ap (λ (f : g.row.V-Fixed.Denot). Some f) e.1.same;
      fits = λ n p here. subst (λ (y : g.row.V.Denot). FitsTrail t.party n (seen_by p) (made_by p) (t.entries y)) same (each_fits t.party t.entries t.fixed key lock c.args.passes v _ e.0 c.requires kept e.1 n p here);
      makers = subst (λ (y : g.row.V.Denot). All (λ x. (1 ≤ t.party x) × (t.party x ≤ seats_in c.args.passes)) (t.entries y)) same (each_made t.party t.entries t.fixed key lock c.args.passes v _ e.0 c.requires kept e.1);
      short = subst (λ (y : g.row.V.Denot). length (t.entries y) < 2 ^ 32) same e.1.short;
    }
